-- What a sentence says of a log: one fact, as a proposition over any log. `at` gives for each entry of the rule the subformula that ends there.
use Rattle.std.specs.Prelude.{ℕ, suc, ◌+◌, ◌-◌, ◌≤◌, ◌<◌, Bool, true, false, ◌≡◌, List, [], ◌∷◌}
use Rattle.std.proofs.Math.Option.{Option, none, some}
use Rattle.rule.specs.declared.Entry.{Entry}
use Rattle.rule.specs.Postfix.{stack_after}
use Rattle.mtl.specs.Formula.{Formula}
use Rattle.mtl.specs.Log.{Log}
use Rattle.mtl.specs.Satisfaction.{at_most, within, since_by, until_by, sat}
use Rattle.blocks.specs.Block.{low_of, high_of}
use Rattle.blocks.specs.Step.{left_of, right_of}
use Rattle.reasons.specs.Reason.{Cause, Says, Line}
use Rattle.reasons.specs.Reason.Cause.{by_left, by_time}
use Rattle.reasons.specs.Reason.Says.{stands, not, or, prev, next, prev_none, since, until, since_no, until_no}
use Rattle.reasons.specs.Reason.Line.{empty, sentence}

-- why a since at i is no by position p: left fails there; or it is "the first at most high before"
abbrev pub SinceCause : Cause → (high : ℕ) (time : ℕ → ℕ) (left : ℕ → Bool) (i p : ℕ) → Type 0
SinceCause by_left high time left i p = left p ≡ false
SinceCause by_time high time left i p =
    (at_most high (time i - time p) ≡ true) × ((q : ℕ) → q < p → at_most high (time i - time q) ≡ false)

-- why an until at i is no by position p: left fails there; or it "lies more than high later"
abbrev pub UntilCause : Cause → (high : ℕ) (time : ℕ → ℕ) (left : ℕ → Bool) (i p : ℕ) → Type 0
UntilCause by_left high time left i p = left p ≡ false
UntilCause by_time high time left i p = at_most high (time p - time i) ≡ false

-- "Such a line also says that right is no from there to the position wherever the gap is within", both ends among them
pub record SinceNo (low high : ℕ) (time : ℕ → ℕ) (left right : ℕ → Bool) (i p : ℕ) (cause : Cause) : Type 0 where
  pub side : p ≤ i
  pub why : SinceCause cause high time left i p
  pub right_no : (q : ℕ) → p ≤ q → q ≤ i → within low high (time q) (time i) ≡ true → right q ≡ false

pub record UntilNo (low high : ℕ) (time : ℕ → ℕ) (left right : ℕ → Bool) (size i p : ℕ) (cause : Cause) : Type 0 where
  pub side : i ≤ p
  pub there : p < size
  pub why : UntilCause cause high time left i p
  pub right_no : (q : ℕ) → i ≤ q → q ≤ p → within low high (time i) (time q) ≡ true → right q ≡ false

-- The fact that is said of position i by the entry at which the formula φ ends. Of a since or until that is yes: j fits. That j is the earliest,
-- or p the first, says which one is named; nothing follows from it for the verdict, and the facts force it without.
abbrev pub Said : Formula → Log → (i : ℕ) → Says → Type 0
Said φ L i (stands k holds) = L.letters i k ≡ holds
Said φ L i not = Unit {0}
Said φ L i or = Unit {0}
Said φ L i (prev gap) = (0 < i) × (L.time i - L.time (i - 1) ≡ gap)
Said φ L i (next gap) = (i + 1 < L.size) × (L.time (i + 1) - L.time i ≡ gap)
Said φ L i prev_none = i ≡ 0
Said φ L i (since j) = (j ≤ i) × (since_by (low_of φ) (high_of φ) L.time (sat (left_of φ) L) (sat (right_of φ) L) i j ≡ true)
Said φ L i (until j) = (j < L.size) × (until_by (low_of φ) (high_of φ) L.time (sat (left_of φ) L) (sat (right_of φ) L) i j ≡ true)
Said φ L i (since_no p cause) = SinceNo (low_of φ) (high_of φ) L.time (sat (left_of φ) L) (sat (right_of φ) L) i p cause
Said φ L i (until_no p cause) = UntilNo (low_of φ) (high_of φ) L.time (sat (left_of φ) L) (sat (right_of φ) L) L.size i p cause

-- what a line says; the position stands in the log
abbrev pub Fact : (at : ℕ → Formula) → Log → Line → Type 0
Fact at L empty = Unit {0}
Fact at L (sentence k i says) = (i < L.size) × Said (at k) L i says

-- all of them
unfoldable pub Facts : (at : ℕ → Formula) → Log → List Line → Type 0
Facts at L [] = Unit {0}
Facts at L (l ∷ ls) = Fact at L l × Facts at L ls

-- the subformula that ends at entry k of a rule: the top of the stack after it
abbrev pub top : Option (List Formula) → Formula
top none = Formula.letter 0
top (some []) = Formula.letter 0
top (some (φ ∷ fs)) = φ

abbrev pub formula_at : List Entry → (k : ℕ) → Formula
formula_at t k = top (stack_after t (suc k))
