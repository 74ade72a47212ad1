-- What the crate's own functions answer, between the bytes and the answer of `measure`.
use Rattle.std.specs.Prelude.{ℕ, zero, suc, ◌+◌, max, Bool, cond, ◌&&◌, ◌||◌, not, List, eqb, get_or, Option, Some, None}
use Rattle.std.proofs.Math.Option.{Option as Maybe, none, some}
use Rattle.mtl.specs.Formula.{Formula, largest}
use Rattle.mtl.specs.Formula.{reach as formula_reach}
use Rattle.mtl.specs.Satisfaction.{any}
use Rattle.mtl.specs.Wanted.{depth}
use Rattle.rule.specs.declared.Entry.{Entry}
use Rattle.rule.specs.declared.measuring.Totals.{Totals}
use Rattle.rule.specs.declared.measuring.Quantity.{Quantity}
use Rattle.rule.specs.declared.measuring.Quantity.TheVariants.{Reach, Depth}
use Rattle.rule.specs.Entries.{entry}
use Rattle.rule.specs.Words.{own, offset}
use Rattle.rule.specs.Refusal.{misshapen, misplaced, misshapen_at, misplaced_at}

-- the list does not begin with the mark
abbrev pub lacks : List ℕ → List ℕ → Bool
lacks s m = not (eqb (get_or s 0 0) (get_or m 0 0) && eqb (get_or s 1 0) (get_or m 1 0) && eqb (get_or s 2 0) (get_or m 2 0))

-- what is read of a formula
abbrev pub quantity : Quantity → Formula → ℕ
quantity Reach = formula_reach
quantity Depth = depth

-- what an entry adds to the larger of its operands' quantities
abbrev pub added_by : Quantity → Entry → ℕ
added_by Reach e = cond (eqb e.kind 6) e.high 0
added_by Depth e = cond (eqb e.kind 3) 1 0

-- the quantity of an entry's formula from those of its operands; both are the same where there is one operand
abbrev pub joined_by : Quantity → Entry → ℕ → ℕ → ℕ
joined_by of e left right = cond (eqb e.kind 0) 0 (added_by of e + max left right)

-- entry k is a next, and entry k is a previous
abbrev pub is_next : List Entry → ℕ → Bool
is_next t k = eqb (entry t k).kind 4

abbrev pub is_previous : List Entry → ℕ → Bool
is_previous t k = eqb (entry t k).kind 3

-- the sums over the first n entries
abbrev pub totals : List Entry → ℕ → Totals
totals t n =
    record { misshapen = any n (misshapen_at t); misplaced = any n (misplaced_at t); next = any n (is_next t); words = offset t n }

-- the sums with one entry more
abbrev pub with_entry : Totals → Entry → Totals
with_entry sums e =
    record { misshapen = sums.misshapen || misshapen e; misplaced = sums.misplaced || misplaced e; next = sums.next || eqb e.kind 4; words = sums.words + own e }

-- the largest of an array's numbers from position 1 to position n, and 0 where n is 0
unfoldable pub greatest : List ℕ → ℕ → ℕ
greatest a zero = 0
greatest a (suc n) = max (greatest a n) (get_or a (suc n) 0)

-- what reading the entries answers: the largest over the formulas, whether they have next or not, where refusal 7 does not apply
abbrev pub reading : Quantity → Maybe (List Formula) → Option ℕ
reading of none = None
reading of (some fs) = Some (largest (quantity of) fs)
