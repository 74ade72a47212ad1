-- Document 02, paper 14, of bytes and calls: "For a rule that is one next or until over letters, show that a position is open only if two
-- accepted lengthenings, each by one record, settle it differently." Such a position is settled differently exactly when it is open.
-- proofs/Sooner.antt proves it; of the logic alone it stands in `sooner`.
use Rattle.std.specs.Prelude.{ℕ, suc, ◌-◌, ◌*◌, ◌≤◌, ◌<◌, ◌^◌, Bool, true, false, ◌&&◌, ◌↔◌, ◌≡◌, List, [], ◌∷◌, ◌++◌, length, get_or, take}
use Rattle.mtl.specs.Formula.{Formula}
use Rattle.mtl.specs.Log.{Log}
use Rattle.sooner.specs.Sooner.{OneTimed, timed_letter, letter_in, latest, settling_time}
use Rattle.bits.specs.Packed.{number}
use Rattle.rule.specs.Refusal.{refusal}
use Rattle.trace.specs.Format.{record_count, time_at, skips_of, dropped, records_of, total_records, malformed}
use Rattle.trace.specs.Positions.{is_service}
use Rattle.trace.specs.Order.{falls}
use Rattle.trace.specs.Making.{record_bytes}
use Rattle.meaning.specs.Verdicts.{formulas_of}
use Rattle.meaning.specs.Verdicts.{first_records, answered_number, all_verdicts}
use Rattle.monitor.specs.Resume.{Answer, gave, Resumes}
use Rattle.calls.specs.Calls.{Call, closed_by, laid, Lends}
use Rattle.calls.specs.Calls.{Untouched, BringsAfter, Calls}

-- how many records a log has, and the log of the logic that they are: "no point is closed"
abbrev pub records : List ℕ → ℕ
records log = record_count (records_of log)

abbrev pub positions_of : List ℕ → Log
positions_of log = first_records false log (records log)

-- THE CONDITIONS, and beside each what fails without it
pub record Conditions {φ : Formula} (one : OneTimed φ) (rule log : List ℕ) : Type 0 where
  pub accepted : refusal rule ≡ 0
  -- "a rule that is one next or until over letters": of next[0,inf] (e0 or not e0) the last position is open, and every record settles it yes
  pub rule_is : formulas_of rule ≡ φ ∷ []
  pub untouched : Untouched log
  -- "The log has fewer than 1,000,000 records, dropped ones included": one more than 1,000,000 meets 12
  pub few : total_records log < 1000000
  -- "its last record is a position": of next[0,3] e0 over (5, none) and a service record at second 9 position 0 is open, but every
  -- record that follows comes at least 4 seconds after it, and can only say no
  pub last_position : skips_of log && is_service (records_of log) (records log - 1) ≡ false
  -- "with a time of at most 4,294,963,695": of next[3600,3600] e0 over (4294963696, none) position 0 is open, but no time of 32 bits
  -- lies 3,600 after it, so that every record says no
  pub last_time : time_at (records_of log) (records log - 1) ≤ latest
  -- "From log version 2, letter 31 is not one of the rule's letters": of next[0,3] e31 the last position is open, but a record with
  -- letter 31 is no position, so that none says yes
  pub no_letter_31 : skips_of log && letter_in φ 31 ≡ false

-- "two accepted lengthenings, each by one record": the log with the bytes r behind it
pub record Accepts (rule log r : List ℕ) : Type 0 where
  pub one_record : (length r ≡ 8) × ((k : ℕ) → k < 8 → get_or r k 0 < 256)
  -- it meets neither 12 nor 14, and may itself be the untouched log of a list of calls
  pub not_12 : malformed (log ++ r) ≡ false
  pub not_14 : falls (records_of (log ++ r)) ≡ false
  pub untouched : Untouched (log ++ r)
  -- every list of calls over the log is one over the longer log; whatever that list may bring of the whole log, overwritten, trimmed or as
  -- it is, it may bring with the record behind it
  pub stays : (h : List Call) (point : List ℕ) → Calls rule log h point → Calls rule (log ++ r) h point
  pub brings : (h : List Call) (log' : List ℕ) → BringsAfter rule log h (records log) log' → BringsAfter rule (log ++ r) h (suc (records log)) (log' ++ r)
  -- and the resume that brings it is not refused: "no point is closed", since a closed one meets 20
  pub accepted : (h : List Call) (point : List ℕ) → Calls rule log h point → closed_by h ≡ false →
      (p : List ℕ) → Lends point p → length point ≤ length p → (log' : List ℕ) → BringsAfter rule log h (records log) log' →
      (sheet : List ℕ) (a : Answer) (p' sheet' : List ℕ) → Resumes false rule (log' ++ r) p sheet a p' sheet' → a.number ≡ 0

-- that lengthening settles position i with this verdict byte
pub record Settles (rule log r : List ℕ) (i byte : ℕ) : Type 0 where
  pub accepts : Accepts rule log r
  -- it is answered then, and this is its byte among the verdicts
  pub settled : i < answered_number false rule (log ++ r) (suc (records log))
  pub says : get_or (all_verdicts false rule (log ++ r) (suc (records log))) i 0 ≡ byte
  -- so it stands among the bytes of every list, once the resume that brings the record has caught up: they are all of these
  pub laid_there : (h : List Call) (point : List ℕ) → Calls rule log h point →
      (p : List ℕ) → Lends point p → (log' : List ℕ) → BringsAfter rule log h (records log) log' →
      (sheet : List ℕ) (c : ℕ) (p' sheet' : List ℕ) → Resumes false rule (log' ++ r) p sheet (gave c false) p' sheet' →
      laid h ++ take c sheet' ≡ all_verdicts false rule (log ++ r) (suc (records log))

-- "settle it differently"
abbrev pub SettledBothWays : (rule log : List ℕ) (i : ℕ) → Type 0
SettledBothWays rule log i = (yes no : List ℕ) × Settles rule log yes i 1 × Settles rule log no i 0

-- the record that settles position i: with the letter that can make the formula true, or with no letter
abbrev pub settling_record : {φ : Formula} → OneTimed φ → (log : List ℕ) (i : ℕ) (holds : Bool) → List ℕ
settling_record one log i holds = record_bytes (settling_time one (positions_of log) i) (number holds * 2 ^ timed_letter one)

-- PAPER 14, for every rule and every log that meet the conditions
pub record ToldSooner {φ : Formula} (one : OneTimed φ) (rule log : List ℕ) : Type 0 where
  -- an open position is settled yes by one record, and no by another of the same time
  pub open_settled : (i : ℕ) → i < (positions_of log).size → answered_number false rule log (records log) ≤ i →
      Settles rule log (settling_record one log i true) i 1 × Settles rule log (settling_record one log i false) i 0
  -- a position is open exactly when two lengthenings settle it differently
  pub exactly_when : (i : ℕ) → i < (positions_of log).size → (answered_number false rule log (records log) ≤ i) ↔ SettledBothWays rule log i
  -- an answered position has the same byte on every longer log, by any number of records
  pub answered_alike : (i : ℕ) → i < answered_number false rule log (records log) → (more : List ℕ) → Untouched (log ++ more) →
      (i < answered_number false rule (log ++ more) (records (log ++ more))) ×
      (get_or (all_verdicts false rule (log ++ more) (records (log ++ more))) i 0 ≡ get_or (all_verdicts false rule log (records log)) i 0)
  -- of a log that was trimmed it is said through the untouched log for which it stands: "dropped ones included", and no open position is
  -- in a record that was dropped
  pub trimmed_counts : (h : List Call) (log' : List ℕ) → BringsAfter rule log h (records log) log' → total_records log' ≡ total_records log
  pub none_dropped : (h : List Call) (point : List ℕ) → Calls rule log h point → closed_by h ≡ false →
      (log' : List ℕ) → BringsAfter rule log h (records log) log' →
      (i : ℕ) → i < (positions_of log).size → answered_number false rule log (records log) ≤ i → dropped log' ≤ (positions_of log).place i
