-- What `formulas` promises: how many answers a verdict of the rule has.
use Rattle.std.specs.Prelude.{ℕ, cond, List, eqb, Result, Ok, Err}
use Rattle.rule.specs.Refusal.{refusal}
use Rattle.meaning.specs.Verdicts.{formulas_of, columns}
use Rattle.refusal.specs.declared.Refusal.{Refusal}
use Rattle.refusal.specs.Number.{number_of}

-- the paper's number and the value for each case
pub record Answer : Type 0 where
  pub number : ℕ
  pub formulas : ℕ

abbrev pub answer : Result ℕ Refusal → Answer
answer (Ok m) = record { number = 0; formulas = m }
answer (Err refusal) = record { number = number_of refusal; formulas = 0 }

-- "one per formula", and of an empty rule one; or the first of refusals 1 to 8 that applies
abbrev pub formula_count : (rule : List ℕ) → Answer
formula_count rule =
    cond (eqb (refusal rule) 0) (record { number = 0; formulas = columns (formulas_of rule) }) (record { number = refusal rule; formulas = 0 })
