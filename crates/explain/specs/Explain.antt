-- What `explain` promises, for every rule, log, formula, position and lent text. Document 02, paper 13.
use Rattle.std.specs.Prelude.{ℕ, Bool, cond, ◌||◌, List, ◌++◌, ◌≡◌, leb, ltb, eqb, length, drop, Result, Ok, Err}
use Rattle.mtl.specs.Formula.{Formula}
use Rattle.mtl.specs.Log.{Log}
use Rattle.mtl.specs.Progress.{joint_progress}
use Rattle.rule.specs.Refusal.{first, or_else, refusal}
use Rattle.checks.specs.Refusal.{whole_log_refusal}
use Rattle.meaning.specs.Verdicts.{formulas_of, columns}
use Rattle.reasons.specs.Text.{text}
use Rattle.reasons.specs.OfRule.{log_in, reason_in, reason_of}
use Rattle.refusal.specs.declared.Refusal.{Refusal}
use Rattle.refusal.specs.Number.{number_of}

-- the text of "the reason for its yes or no"
abbrev pub reason_text : (rule log : List ℕ) (formula position : ℕ) → List ℕ
reason_text rule log k i = text (reason_of rule log k i)

-- "27 when the formula does not exist, the position is not below A or the lent text buffer is short"
abbrev pub unexplained_in : List Formula → Log → (formula position room : ℕ) → Bool
unexplained_in fs L k i room = leb (columns fs) k || (leb (joint_progress fs L) i || ltb room (length (text (reason_in fs k L i))))

-- the same from the bytes of rule and log
abbrev pub unexplained : (rule log : List ℕ) (formula position room : ℕ) → Bool
unexplained rule log k i room = unexplained_in (formulas_of rule) (log_in log) k i room

-- "Checks are 1 to 8, 12, 24 .., and 14 ..", the log being wanted whole; "27 .., after these": the first that applies, for every rule and log
abbrev pub explain_refusal : (rule log : List ℕ) (formula position room : ℕ) → ℕ
explain_refusal rule log k i room = or_else (refusal rule) (or_else (whole_log_refusal log) (first 27 (unexplained rule log k i room) 0))

-- "a call that writes a rule, a log or a text gives its length too", or a refusal's number
pub record Answer : Type 0 where
  pub number : ℕ
  pub length : ℕ

-- the paper's number and value for each case of the result
abbrev pub answer : Result ℕ Refusal → Answer
answer (Ok l) = record { number = 0; length = l }
answer (Err refusal) = record { number = number_of refusal; length = 0 }

module _ (rule log : List ℕ) (k i room : ℕ) where
  -- x where the call writes the text, else y
  abbrev pub if_written : {A : Type 0} → A → A → A
  if_written x y = cond (eqb (explain_refusal rule log k i room) 0) x y

  -- the length of the text, or the refusal's number
  abbrev pub the_answer : Answer
  the_answer =
      if_written (record { number = 0; length = length (reason_text rule log k i) }) (record { number = explain_refusal rule log k i room; length = 0 })

-- the lent bytes afterwards: "In every lent buffer the bytes behind what a call writes are kept"; a refused call writes nothing
abbrev pub text_after : (rule log : List ℕ) (formula position : ℕ) (lent : List ℕ) → List ℕ
text_after rule log k i lent =
    if_written rule log k i (length lent) (reason_text rule log k i ++ drop (length (reason_text rule log k i)) lent) lent

-- what the call promises
pub record Explains (rule log : List ℕ) (k i : ℕ) (lent : List ℕ) (r : Result ℕ Refusal) (lent' : List ℕ) : Type 0 where
  pub answer : answer r ≡ the_answer rule log k i (length lent)
  pub bytes : lent' ≡ text_after rule log k i lent
