-- The text of a line, and its length. Assumes nothing.
use Prim.Native.Nat.{ℕ, suc, ◌≤◌, ◌<◌}
use mathlib.Core.Bool.{true, false}
use mathlib.Core.Path.{◌≡◌, refl}
use native.Mathlib.Omega.{arith}
use lib.ListN.{length}
use Rattle.std.specs.Prelude.{Option, Some, None, IfSome}
use Rattle.decimal.specs.Text.{ascii, decimal}
use Rattle.decimal.proofs.Decimals.{few_digits, ten_digits}
use Rattle.rule.specs.declared.kind.Kind.{Kind}
use Rattle.rule.specs.declared.kind.Kind.TheVariants.{Letter, Not, Or, Previous, Next, Since, Until}
use Rattle.reasons.specs.Reason.{Says}
use Rattle.reasons.specs.Reason.Cause.{by_left, by_time}
use Rattle.reasons.specs.Reason.Says.{stands, not, or, prev, next, prev_none, since, until, since_no, until_no}
use Rattle.reasons.specs.Reason.Line.{sentence}
use Rattle.reasons.specs.Text.{spaced_line, parts}
use Rattle.sentences.specs.declared.sentence.Tail.{Tail}
use Rattle.sentences.specs.declared.sentence.Tail.TheVariants.{Yes, No, NoneBefore, Left, Time}
use Rattle.sentences.specs.Line.{encode, kind_text, value_text, tail_text, line_text}

-- a sentence's line is its parts, "one space between its parts, then byte 10"
pub line_is : (k i : ℕ) (says : Says) → spaced_line (parts (sentence k i says)) ≡ line_text k i (encode says)
unfolding spaced_line ascii
line_is k i (stands c true) = refl
line_is k i (stands c false) = refl
line_is k i not = refl
line_is k i or = refl
line_is k i (prev gap) = refl
line_is k i (next gap) = refl
line_is k i prev_none = refl
line_is k i (since j) = refl
line_is k i (until j) = refl
line_is k i (since_no p by_left) = refl
line_is k i (since_no p by_time) = refl
line_is k i (until_no p by_left) = refl
line_is k i (until_no p by_time) = refl

-- LENGTHS

pub short_kind : (k : Kind) → length (kind_text k) ≤ 7
unfolding ascii
short_kind Letter = omega arith
short_kind Not = omega arith
short_kind Or = omega arith
short_kind Previous = omega arith
short_kind Next = omega arith
short_kind Since = omega arith
short_kind Until = omega arith

pub short_value : (n : Option ℕ) → IfSome n (λ (x : ℕ). x < 4294967296) → length (value_text n) ≤ 10
short_value None h = omega arith
short_value (Some n) h = ten_digits n h

pub short_tail : (t : Option Tail) → length (tail_text t) ≤ 6
unfolding ascii
short_tail None = omega arith
short_tail (Some Yes) = omega arith
short_tail (Some No) = omega arith
short_tail (Some NoneBefore) = omega arith
short_tail (Some Left) = omega arith
short_tail (Some Time) = omega arith

pub short_entry : (k : ℕ) → k < 128 → length (decimal k) ≤ 3
short_entry k h = few_digits (suc k) 2 k (omega arith)

pub short_position : (i : ℕ) → i < 10000000 → length (decimal i) ≤ 7
short_position i h = few_digits (suc i) 6 i (omega arith)
