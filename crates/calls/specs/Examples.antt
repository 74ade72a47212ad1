-- Paper 14 worked by hand: P7's first log and P5's open position, each with the two records that settle it and the verdicts then; and logs of
-- which one condition of the paper is not met; and words lent to a call. Proved by computation.
use Rattle.std.specs.Prelude.{ℕ, suc, ◌-◌, Bool, true, false, cond, ◌&&◌, ◌||◌, not as negate, List, [], ◌∷◌, ◌++◌, ◌≡◌, refl, eqb, leb, ltb}
use Rattle.mtl.specs.Formula.{Formula}
use Rattle.mtl.specs.Formula.Formula.{letter, next, until}
use Rattle.mtl.specs.Satisfaction.{any, all, sat}
use Rattle.mtl.specs.Progress.{run, progress, settled_to, joint_progress}
use Rattle.sooner.specs.Sooner.{OneTimed, letter_in, latest}
use Rattle.sooner.specs.Sooner.OneTimed.{one_next, one_until}
use Rattle.rule.specs.Entries.{first_entries}
use Rattle.rule.specs.Words.{offset}
use Rattle.rule.specs.Postfix.{push_kind, read, postfix}
use Rattle.rule.specs.Encoding.{body, encoded, rule_of}
use Rattle.rule.specs.Refusal.{header_refusal, entries_refusal, refusal}
use Rattle.trace.specs.Format.{time_at, skips_of, records_of, total_records, malformed}
use Rattle.trace.specs.Positions.{is_service, passing, spot, positions}
use Rattle.trace.specs.Order.{falls}
use Rattle.trace.specs.Making.{log_header, record_bytes}
use Rattle.verdicts.specs.Bytes.{byte_of}
use Rattle.meaning.specs.Verdicts.{verdicts}
use Rattle.meaning.specs.Verdicts.{answered_number, all_verdicts}
use Rattle.monitor.specs.Examples.{event_set, same}
use Rattle.calls.specs.Calls.{Lends, point_after}
use Rattle.calls.specs.Sooner.{records, settling_record}

-- a record, and a log of any version
abbrev at : (time : ℕ) → List ℕ → List ℕ
at time letters = record_bytes time (event_set letters)

abbrev log_of_version : (version : ℕ) → List ℕ → List ℕ
log_of_version version bytes = log_header version ++ bytes

-- the conditions of the paper, in the order of `Conditions`
abbrev met : (φ : Formula) (log : List ℕ) → List Bool
met φ log =
    eqb (refusal (rule_of φ)) 0
    ∷ (negate (malformed log) && negate (falls (records_of log)))
    ∷ ltb (total_records log) 1000000
    ∷ negate (skips_of log && is_service (records_of log) (records log - 1))
    ∷ leb (time_at (records_of log) (records log - 1)) latest
    ∷ negate (skips_of log && letter_in φ 31)
    ∷ []

unfoldable pub agree : List Bool → List Bool → Bool
agree [] [] = true
agree [] (y ∷ ys) = false
agree (x ∷ xs) [] = false
agree (x ∷ xs) (y ∷ ys) = cond x y (negate y) && agree xs ys

-- the log with the record that has the letter, or with the one that has none
abbrev lengthened : {φ : Formula} → OneTimed φ → (log : List ℕ) (i : ℕ) (holds : Bool) → List ℕ
lengthened one log i holds = log ++ settling_record one log i holds

abbrev accepted : List ℕ → Bool
accepted log = negate (malformed log || falls (records_of log))

-- SETTLED BOTH WAYS

-- a rule that is this formula, a log, an open position and the answered number; the two records; and all verdicts once each is there
pub record Row (φ : Formula) : Type 0 where
  pub one : OneTimed φ
  pub log : List ℕ
  pub position : ℕ
  pub answered_before : ℕ
  pub with_letter : List ℕ
  pub without : List ℕ
  pub verdicts_with : List ℕ
  pub verdicts_without : List ℕ

unfoldable pub computes : {φ : Formula} → Row φ → Bool
computes {φ} r =
    agree (met φ r.log) (true ∷ true ∷ true ∷ true ∷ true ∷ true ∷ [])
    && (eqb (answered_number false (rule_of φ) r.log (records r.log)) r.answered_before
    && (leb r.answered_before r.position
    && (same (settling_record r.one r.log r.position true) r.with_letter
    && (same (settling_record r.one r.log r.position false) r.without
    && (accepted (lengthened r.one r.log r.position true)
    && (accepted (lengthened r.one r.log r.position false)
    && (same (all_verdicts false (rule_of φ) (lengthened r.one r.log r.position true) (suc (records r.log))) r.verdicts_with
    && same (all_verdicts false (rule_of φ) (lengthened r.one r.log r.position false) (suc (records r.log))) r.verdicts_without)))))))

abbrev yes : ℕ
yes = 1

abbrev no : ℕ
no = 0

-- P1's rule, "letter 0, letter 1, until 0 to 2", over P7's first log "(10, 0) (12, 0): none"
abbrev pub until_1 : OneTimed (until 0 2 (letter 0) (letter 1))
until_1 = one_until

abbrev pub log_7 : List ℕ
log_7 = log_of_version 1 (at 10 (0 ∷ []) ++ at 12 (0 ∷ []))

abbrev row_7 : ℕ → Row (until 0 2 (letter 0) (letter 1))
row_7 i =
    record {
      one = until_1;
      log = log_7;
      position = i;
      answered_before = 0;
      with_letter = at 12 (1 ∷ []);
      without = at 12 [];
      verdicts_with = yes ∷ yes ∷ yes ∷ [];
      verdicts_without = no ∷ no ∷ no ∷ [];
    }

-- the same log of version 2, a service record between
abbrev row_7_served : Row (until 0 2 (letter 0) (letter 1))
row_7_served =
    record {
      one = until_1;
      log = log_of_version 2 (at 10 (0 ∷ []) ++ at 11 (31 ∷ []) ++ at 12 (0 ∷ []));
      position = 0;
      answered_before = 0;
      with_letter = at 12 (1 ∷ []);
      without = at 12 [];
      verdicts_with = yes ∷ yes ∷ yes ∷ [];
      verdicts_without = no ∷ no ∷ no ∷ [];
    }

-- P5, "Next 1 to 1 of letter 0 over (5, none) (6, 0) (8, 0): yes, no, and position 2 open"
abbrev pub next_5 : OneTimed (next 1 1 (letter 0))
next_5 = one_next

abbrev pub log_5 : List ℕ
log_5 = log_of_version 1 (at 5 [] ++ at 6 (0 ∷ []) ++ at 8 (0 ∷ []))

abbrev row_5 : Row (next 1 1 (letter 0))
row_5 =
    record {
      one = next_5;
      log = log_5;
      position = 2;
      answered_before = 2;
      with_letter = at 9 (0 ∷ []);
      without = at 9 [];
      verdicts_with = yes ∷ no ∷ yes ∷ [];
      verdicts_without = yes ∷ no ∷ no ∷ [];
    }

-- the latest time, and the largest low: the record's time is the last of 32 bits
abbrev row_latest : Row (next 3600 3600 (letter 0))
row_latest =
    record {
      one = one_next;
      log = log_of_version 1 (at 4294963695 []);
      position = 0;
      answered_before = 0;
      with_letter = at 4294967295 (0 ∷ []);
      without = at 4294967295 [];
      verdicts_with = yes ∷ [];
      verdicts_without = no ∷ [];
    }

pub every_row : (computes (row_7 0) ≡ true) × (computes (row_7 1) ≡ true) × (computes row_7_served ≡ true) × (computes row_5 ≡ true) × (computes row_latest ≡ true)
unfolding computes agree event_set same letter_in postfix body encoded passing spot positions first_entries offset push_kind read header_refusal entries_refusal any all sat run progress settled_to joint_progress byte_of verdicts
every_row = (refl, refl, refl, refl, refl)

-- A CONDITION NOT MET

-- which conditions are met, and of the two records those with which position 0, which is open, is settled by a log that is accepted
unfoldable pub fails : {φ : Formula} → OneTimed φ → (log : List ℕ) (conditions : List Bool) (with_letter without : Bool) → Bool
fails {φ} one log conditions with_letter without =
    agree (met φ log) conditions
    && (eqb (answered_number false (rule_of φ) log (records log)) 0
    && agree (settles true ∷ settles false ∷ []) (with_letter ∷ without ∷ []))
  where
    settles : Bool → Bool
    settles holds = accepted (lengthened one log 0 holds) && ltb 0 (answered_number false (rule_of φ) (lengthened one log 0 holds) (suc (records log)))

-- behind a service record at second 9 no record comes within 3 seconds; 3,600 seconds after 4,294,963,696 there is no time; a record with
-- letter 31 is no position, and settles nothing
pub every_fault :
    (fails {φ = next 0 3 (letter 0)} one_next (log_of_version 2 (at 5 [] ++ at 9 (31 ∷ []))) (true ∷ true ∷ true ∷ false ∷ true ∷ true ∷ []) false false ≡ true) ×
    (fails {φ = next 3600 3600 (letter 0)} one_next (log_of_version 1 (at 4294963696 [])) (true ∷ true ∷ true ∷ true ∷ false ∷ true ∷ []) false false ≡ true) ×
    (fails {φ = next 0 3 (letter 31)} one_next (log_of_version 2 (at 5 [])) (true ∷ true ∷ true ∷ true ∷ true ∷ false ∷ []) false true ≡ true)
unfolding fails agree event_set same letter_in postfix body encoded passing spot positions first_entries offset push_kind read header_refusal entries_refusal any all sat run progress settled_to joint_progress byte_of verdicts
every_fault = (refl, refl, refl)

-- LENT WORDS

-- a point of three words, lent with two behind it, which are not the point's: of what the call leaves the first three are the point; and
-- lent without its third, which is what it was
pub every_lending :
    Lends (1 ∷ 2 ∷ 3 ∷ []) (1 ∷ 2 ∷ 3 ∷ 8 ∷ 9 ∷ []) × (point_after (1 ∷ 2 ∷ 3 ∷ []) (4 ∷ 5 ∷ 6 ∷ 8 ∷ 9 ∷ []) ≡ 4 ∷ 5 ∷ 6 ∷ []) ×
    Lends (1 ∷ 2 ∷ 3 ∷ []) (1 ∷ 2 ∷ []) × (point_after (1 ∷ 2 ∷ 3 ∷ []) (4 ∷ 5 ∷ []) ≡ 4 ∷ 5 ∷ 3 ∷ [])
every_lending = (refl, refl, refl, refl)
