-- What `summary` promises (document 02, papers 7 and 8): for each formula the count of no among the verdicts given from a checkpoint, and
-- the position of the latest of them, or none.
use Rattle.std.specs.Prelude.{ℕ, ◌-◌, ◌^◌, cond, ◌≡◌, List, eqb, Result, Ok, Err, Option, Some, None}
use Rattle.std.proofs.Math.Option.{Option as Maybe, none, some}
use Rattle.verdicts.specs.Counts.{Noes, listed}
use Rattle.verdicts.specs.Tally.{first_or_kept}
use Rattle.rule.specs.Entries.{version}
use Rattle.rule.specs.Postfix.{most_formulas}
use Rattle.checkpoint.specs.Checkpoint.{stored_noes}
use Rattle.checks.specs.Refusal.{summary_refusal}
use Rattle.meaning.specs.Verdicts.{formulas_of, columns}
use Rattle.refusal.specs.declared.Refusal.{Refusal}
use Rattle.refusal.specs.Number.{number_of}

-- the latest no, as the code answers it
abbrev pub position : Option ℕ → Maybe ℕ
position (Some i) = some i
position None = none

-- the position, or another number for none
abbrev pub position_or : Maybe ℕ → ℕ → ℕ
position_or none other = other
position_or (some i) other = i

-- the lent word where no verdict given is no: no position is that large
abbrev pub no_position : ℕ
no_position = 2 ^ 64 - 1

-- the counts of n formulas, and the words of their latest no
abbrev pub counts_of : (noes : ℕ → Noes) (n : ℕ) → List ℕ
counts_of noes n = listed (λ k. (noes k).count) n

abbrev pub latest_words : (noes : ℕ → Noes) (n : ℕ) → List ℕ
latest_words noes n = listed (λ k. position_or (noes k).latest no_position) n

-- "The stored .. counts, the latest positions .. become one per formula": those of n formulas stand in the first lent words and the
-- others are kept, or all of them where the call has a refusal's number
abbrev pub TellsNoes : (number n : ℕ) (noes : ℕ → Noes) (nos latest nos' latest' : List ℕ) → Type 0
TellsNoes number n noes nos latest nos' latest' =
    (nos' ≡ first_or_kept number n nos (counts_of noes n)) × (latest' ≡ first_or_kept number n latest (latest_words noes n))

-- the paper's number and the value for each case: how many formulas there are counts of
pub record Answer : Type 0 where
  pub number : ℕ
  pub formulas : ℕ

abbrev pub counted : ℕ → Answer
counted n = record { number = 0; formulas = n }

-- "Every refusal returns its number only"
abbrev pub refused_with : ℕ → Answer
refused_with n = record { number = n; formulas = 0 }

abbrev pub answer : Result ℕ Refusal → Answer
answer (Ok n) = counted n
answer (Err refusal) = refused_with (number_of refusal)

-- "A call with checks 1 to 11 gives both."
abbrev pub summarized : (rule p : List ℕ) → Answer
summarized rule p = cond (eqb (summary_refusal rule p) 0) (counted (columns (formulas_of rule))) (refused_with (summary_refusal rule p))

-- what the call promises
pub record Summarizes (rule p nos latest : List ℕ) (a : Answer) (nos' latest' : List ℕ) : Type 0 where
  pub outcome : a ≡ summarized rule p
  pub words : TellsNoes a.number a.formulas (stored_noes (most_formulas (version rule)) p) nos latest nos' latest'
