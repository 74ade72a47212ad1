-- What `tally` promises: "reads a sheet and gives the count of no and of yes", one of each a formula.
use Rattle.std.specs.Prelude.{ℕ, ◌/◌, ◌^◌, Bool, true, false, cond, ◌||◌, ◌≡◌, List, ◌++◌, ltb, eqb, length, get_or, drop, Result, Ok, Err}
use Rattle.refusal.specs.declared.Refusal.{Refusal}
use Rattle.refusal.specs.Number.{number_of}
use Rattle.mtl.specs.Satisfaction.{any}
use Rattle.verdicts.specs.Counts.{counts}

-- "a number outside 1 to 8"
abbrev pub formulas_outside : (formulas : ℕ) → Bool
formulas_outside formulas = ltb formulas 1 || ltb 8 formulas

-- "a bit beyond it": of byte i something is left behind the formulas' bits
abbrev pub beyond : (formulas : ℕ) → List ℕ → (i : ℕ) → Bool
beyond formulas s i = ltb 0 (get_or s i 0 / 2 ^ formulas)

-- "15 is met by a bit beyond it or by a number outside 1 to 8"; 0 for no refusal
abbrev pub tally_refusal : (formulas : ℕ) → List ℕ → ℕ
tally_refusal formulas s = cond (formulas_outside formulas || any (length s) (beyond formulas s)) 15 0

-- the paper's number for each case, 0 or the refusal's; `refused` tells the cases apart
pub record Answer : Type 0 where
  pub refused : Bool
  pub number : ℕ

abbrev pub answer : Result (Unit {0}) Refusal → Answer
answer (Ok done) = record { refused = false; number = 0 }
answer (Err refusal) = record { refused = true; number = number_of refusal }

-- what the call answers
abbrev pub tallied : (formulas : ℕ) → List ℕ → Answer
tallied formulas s = record { refused = ltb 0 (tally_refusal formulas s); number = tally_refusal formulas s }

-- lent words after a call with this number: the first n are those written and the others are kept, or all of them where it was refused
abbrev pub first_or_kept : (number n : ℕ) (old first : List ℕ) → List ℕ
first_or_kept number n old first = cond (eqb number 0) (first ++ drop n old) old

-- for formula k the count of no stands in word k of the one buffer, and that of yes in word k of the other
pub record Tallies (formulas : ℕ) (s nos yeses : List ℕ) (a : Answer) (nos' yeses' : List ℕ) : Type 0 where
  pub outcome : a ≡ tallied formulas s
  pub no_counts : nos' ≡ first_or_kept a.number formulas nos (counts false formulas s)
  pub yes_counts : yeses' ≡ first_or_kept a.number formulas yeses (counts true formulas s)
