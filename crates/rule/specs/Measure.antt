-- What the call `measure` (document 01's weigh) answers.
use Rattle.std.specs.Prelude.{ℕ, Bool, false, cond, ◌||◌, List, [], ◌∷◌, eqb, Result, Ok, Err}
use Rattle.std.proofs.Math.Option.{Option, none, some}
use Rattle.refusal.specs.declared.Refusal.{Refusal}
use Rattle.refusal.specs.Number.{number_of}
use Rattle.mtl.specs.Formula.{Formula, unbounded, has_next, largest}
use Rattle.mtl.specs.Formula.{reach as formula_reach}
use Rattle.rule.specs.declared.Entry.{Entry}
use Rattle.rule.specs.declared.Measured.{Measured}
use Rattle.rule.specs.Entries.{version, count, decoded}
use Rattle.rule.specs.Words.{words}
use Rattle.rule.specs.Postfix.{formulas}
use Rattle.rule.specs.Refusal.{refusal}

-- "Weigh reads a rule and gives the words that a saved point needs, and the rule's reach", or a refusal's number
pub record Answer : Type 0 where
  pub number : ℕ
  pub words : ℕ
  pub reach : ℕ

-- the paper's number and values for each case of the result
abbrev pub answer : Result Measured Refusal → Answer
answer (Ok m) = record { number = 0; words = m.words; reach = m.reach }
answer (Err refusal) = record { number = number_of refusal; words = 0; reach = 0 }

-- some formula has next
abbrev pub some_next : List Formula → Bool
some_next [] = false
some_next (φ ∷ fs) = has_next φ || some_next fs

-- "The reach .. the largest over the formulas", and 0 where there is none
abbrev pub farthest : List Formula → ℕ
farthest fs = largest formula_reach fs

-- "A rule with next has reach 4,294,967,295, meaning none."
abbrev pub reach_of : Option (List Formula) → ℕ
reach_of none = 0
reach_of (some fs) = cond (some_next fs) unbounded (farthest fs)

-- "Every refusal returns its number only"
abbrev pub refused : ℕ → Answer
refused n = record { number = n; words = 0; reach = 0 }

-- the answer by the refusal of a rule of a version with n entries, which are decoded in t
abbrev pub answer_by : (number version : ℕ) → List Entry → ℕ → Answer
answer_by number version t n =
    cond (eqb number 0) (record { number = 0; words = words version t n; reach = reach_of (formulas version t n) }) (refused number)

-- what weighing answers of the bytes of a rule
abbrev pub measured : List ℕ → Answer
measured s = answer_by (refusal s) (version s) (decoded s) (count s)
