-- What opening a checkpoint and carrying on once come to, by rule and log alone.
use Rattle.std.specs.Prelude.{ℕ, ◌≤◌, ◌≡◌, false, List, length, take, Result, MatchResult}
use Rattle.refusal.specs.declared.Refusal.{Refusal}
use Rattle.refusal.specs.Number.{number_of}
use Rattle.trace.specs.Format.{record_count, records_of}
use Rattle.meaning.specs.Verdicts.{formulas_of, columns, all_verdicts}
use Rattle.report.specs.Report.{run_refusal}
use Rattle.report.specs.declared.Given.{Given}

-- all verdicts, which stand on the sheet
pub record Ran (rule log sheet : List ℕ) (r : Given) : Type 0 where
  pub accepts : run_refusal rule log ≡ 0
  pub words : r.columns ≡ columns (formulas_of rule)
  pub few_words : r.columns ≤ 8
  pub few_records : record_count (records_of log) ≤ 8191
  pub fits : r.verdicts ≤ length sheet
  pub bytes : take r.verdicts sheet ≡ all_verdicts false rule log (record_count (records_of log))

-- or the refusal
abbrev pub Runs : (rule log : List ℕ) → Result Given Refusal → (sheet : List ℕ) → Type 0
Runs rule log r sheet = MatchResult r (Ran rule log sheet) (λ refusal. run_refusal rule log ≡ number_of refusal)
