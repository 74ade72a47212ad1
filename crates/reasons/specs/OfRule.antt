-- The reasons of a rule over a log, from the bytes of both, and what document 02, paper 13, claims of them. proofs/OfRule.antt proves it.
use Rattle.std.specs.Prelude.{ℕ, ◌+◌, ◌-◌, ◌<◌, Bool, false, ◌≡◌, List, [], ◌∷◌, length}
use Rattle.mtl.specs.Formula.{Formula}
use Rattle.mtl.specs.Log.{Log, NeverFalls}
use Rattle.mtl.specs.Progress.{joint_progress}
use Rattle.bits.specs.Packed.{bit}
use Rattle.rule.specs.Entries.{decoded}
use Rattle.rule.specs.Postfix.{size, formula, start}
use Rattle.rule.specs.Refusal.{refusal}
use Rattle.trace.specs.Format.{records_of, skips_of}
use Rattle.trace.specs.Log.{log_of}
use Rattle.trace.specs.Order.{disordered}
use Rattle.meaning.specs.Verdicts.{formulas_of, columns, verdict}
use Rattle.reasons.specs.Reason.{Line, reason}
use Rattle.reasons.specs.Reason.Line.{empty}
use Rattle.reasons.specs.Facts.{Facts, formula_at}
use Rattle.reasons.specs.Text.{text}

-- the log that the bytes are
abbrev pub log_in : List ℕ → Log
log_in log = log_of (skips_of log) (records_of log)

-- the number of formula k's last entry, "from 0", among all entries of the rule
abbrev pub last_entry : List Formula → (k : ℕ) → ℕ
last_entry fs k = start fs k + size (formula fs k) - 1

-- the reason of "one formula by number"; "an empty rule's reason is the one line empty"
abbrev pub reason_in : List Formula → (k : ℕ) → Log → (i : ℕ) → List Line
reason_in [] k L i = empty ∷ []
reason_in (φ ∷ fs) k L i = reason (formula (φ ∷ fs) k) (last_entry (φ ∷ fs) k) L i

-- from the bytes of rule and log
abbrev pub reason_of : (rule log : List ℕ) (k i : ℕ) → List Line
reason_of rule log k i = reason_in (formulas_of rule) k (log_in log) i

-- the facts that the lines say, an entry's number standing for the subformula that ends there
abbrev pub FactsOf : (rule : List ℕ) → Log → List Line → Type 0
FactsOf rule L ls = Facts (formula_at (decoded rule)) L ls

-- formula k's answer at a position: "bit k of the verdict byte"
abbrev pub answer_of : (rule : List ℕ) (k : ℕ) → Log → (i : ℕ) → Bool
answer_of rule k L i = bit (verdict (formulas_of rule) L i) k

-- "For an answered position of an untouched log and one formula by number": the rule is accepted, no record's time falls, the formula is
-- one of the rule's, an empty rule having number 0, and the position is below A
pub record Asked (rule log : List ℕ) (k i : ℕ) : Type 0 where
  pub accepted : refusal rule ≡ 0
  pub ordered : disordered (records_of log) 0 0 ≡ false
  pub one_of : k < columns (formulas_of rule)
  pub answered : i < joint_progress (formulas_of rule) (log_in log)

-- two reasons of one rule are the same
pub record Alike (rule log log' : List ℕ) (k k' i i' : ℕ) : Type 0 where
  pub reason : reason_of rule log k i ≡ reason_of rule log' k' i'
  -- where the rule has a formula they are about the same one, and about the same position
  pub formula : 0 < length (formulas_of rule) → k ≡ k'
  pub position : 0 < length (formulas_of rule) → i ≡ i'
  -- and the verdict is the same
  pub verdict : answer_of rule k (log_in log) i ≡ answer_of rule k' (log_in log') i'

-- WHAT THE PAPER CLAIMS, of every formula of every accepted rule and every answered position
pub record Claims (rule log : List ℕ) (k i : ℕ) : Type 0 where
  -- "Every fact written holds in the plain reading"
  pub hold : FactsOf rule (log_in log) (reason_of rule log k i)
  -- "and together they force the verdict on any log in which they hold and no time falls."
  pub force : (K : Log) → NeverFalls K → FactsOf rule K (reason_of rule log k i) → answer_of rule k K i ≡ answer_of rule k (log_in log) i
  -- "Two different reasons of one rule never have the same text."
  pub apart : (log' : List ℕ) (k' i' : ℕ) → Asked rule log' k' i' →
      text (reason_of rule log k i) ≡ text (reason_of rule log' k' i') → Alike rule log log' k k' i i'
