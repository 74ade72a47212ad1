-- Worked calls, from the bytes of rule and log to the refusal or the text: proved by computation. The reasons themselves have their rows
-- in crates/reasons.
use Rattle.std.specs.Prelude.{ℕ, List, [], ◌∷◌, ◌++◌, ◌≡◌, refl, length, take, drop}
use Prim.Native.String.{String}
use Rattle.mtl.specs.Satisfaction.{any, all, sat}
use Rattle.mtl.specs.Progress.{run, progress, settled_to, joint_progress}
use Rattle.rule.specs.Entries.{first_entries}
use Rattle.rule.specs.Words.{offset}
use Rattle.rule.specs.Postfix.{push_kind, read, size, start}
use Rattle.rule.specs.Refusal.{header_refusal, entries_refusal}
use Rattle.trace.specs.Positions.{passing, spot, positions}
use Rattle.decimal.specs.Text.{ascii, decimal_in}
use Rattle.reasons.specs.Search.{after_last}
use Rattle.reasons.specs.Reason.{reason}
use Rattle.reasons.specs.Text.{spaced_line, text}
use Rattle.explain.specs.Explain.{explain_refusal, reason_text}

-- an entry of ten bytes whose numbers are below 256
abbrev ten_bytes : (kind letter low high : ℕ) → List ℕ
ten_bytes kind letter low high = kind ∷ letter ∷ 0 ∷ 0 ∷ 0 ∷ low ∷ 0 ∷ 0 ∷ 0 ∷ high ∷ []

abbrev rule : (version count : ℕ) → List ℕ → List ℕ
rule version count entries = 0x4B ∷ 0x52 ∷ 0x4C ∷ 0 ∷ version ∷ count ∷ 0 ∷ 0 ∷ entries

abbrev log : (version : ℕ) → List ℕ → List ℕ
log version records = 0x4B ∷ 0x4C ∷ 0x47 ∷ 0 ∷ version ∷ 0 ∷ 0 ∷ 0 ∷ records

-- a record with these letters among the first eight
abbrev at : (time letters : ℕ) → List ℕ
at time letters = 0 ∷ 0 ∷ 0 ∷ time ∷ 0 ∷ 0 ∷ 0 ∷ letters ∷ []

-- P1: letter 0 until 0 to 2 of letter 1, over (10, 0) (11, 0) (11, none) (12, 0) (13, 1) (20, 0): five positions are answered
abbrev entries_1 : List ℕ
entries_1 = ten_bytes 0 0 0 0 ++ (ten_bytes 0 1 0 0 ++ ten_bytes 6 0 0 2)

abbrev rule_1 : List ℕ
rule_1 = rule 1 3 entries_1

abbrev records_1 : List ℕ
records_1 = at 10 1 ++ (at 11 1 ++ (at 11 0 ++ (at 12 1 ++ (at 13 2 ++ at 20 1))))

abbrev log_1 : List ℕ
log_1 = log 1 records_1

-- P1's until, and its not behind it; letter 0, and P1's until behind it: letter 0 alone has answered position 5
abbrev rule_2 : List ℕ
rule_2 = rule 2 7 (entries_1 ++ (entries_1 ++ ten_bytes 1 0 0 0))

abbrev rule_3 : List ℕ
rule_3 = rule 2 4 (ten_bytes 0 0 0 0 ++ entries_1)

abbrev no_entry : List ℕ
no_entry = rule 1 0 []

-- the last record's time falls
abbrev falling : List ℕ
falling = log 1 (records_1 ++ at 19 1)

-- of a version 3 log the first record is dropped, or none is
abbrev dropping : (dropped : ℕ) (records : List ℕ) → List ℕ
dropping n records = log 3 (0 ∷ 0 ∷ 0 ∷ 0 ∷ 0 ∷ 0 ∷ 0 ∷ n ∷ records)

-- a service record behind the first record
abbrev serviced : List ℕ
serviced = log 2 (at 10 1 ++ (0 ∷ 0 ∷ 0 ∷ 10 ∷ 0x80 ∷ 0 ∷ 0 ∷ 0 ∷ drop 8 records_1))

-- a text buffer that holds just the text is enough, and one byte less is not
abbrev TellsText : (rule log : List ℕ) (formula position : ℕ) → String → Type 0
TellsText rule log k i told =
    (reason_text rule log k i ≡ ascii told) × (explain_refusal rule log k i (length (ascii told)) ≡ 0) ×
    (explain_refusal rule log k i (length (drop 1 (ascii told))) ≡ 27)

abbrev Stops : (rule log : List ℕ) (formula position room number : ℕ) → Type 0
Stops rule log k i room number = explain_refusal rule log k i room ≡ number

pub calls_worked :
    -- P1
    TellsText rule_1 log_1 0 0 "2 0 until 2 left\n" × TellsText rule_1 log_1 0 3 "2 3 until 4\n" ×
    -- the second formula's entries are counted from the rule's first
    TellsText rule_2 log_1 1 0 "6 0 not\n5 0 until 2 left\n" ×
    -- positions are counted without service records
    TellsText rule_1 serviced 0 3 "2 3 until 4\n" ×
    -- an empty rule
    TellsText no_entry log_1 0 5 "empty\n" ×
    -- 27: the formula does not exist, the position is open, or there is none
    Stops rule_1 log_1 1 0 100 27 × Stops no_entry log_1 1 0 100 27 × Stops rule_1 log_1 0 5 100 27 × Stops no_entry log_1 0 6 100 27 ×
    -- the other formula has not answered position 5
    Stops rule_3 log_1 0 5 100 27 ×
    -- 24 for any dropped record, before 14
    Stops rule_1 (dropping 1 (drop 8 records_1)) 0 3 100 24 × Stops rule_1 (dropping 1 (at 20 1 ++ at 19 1)) 0 3 100 24 ×
    Stops rule_1 (dropping 0 records_1) 0 3 100 0 ×
    -- 14 before 27, 12 before 14, and the rule's refusals before all
    Stops rule_1 falling 9 0 0 14 × Stops rule_1 (take 60 falling) 9 0 0 12 × Stops (take 7 rule_1) (take 60 falling) 9 0 0 1
unfolding ascii decimal_in spaced_line text reason after_last size start first_entries offset push_kind read header_refusal entries_refusal any all sat run progress settled_to joint_progress passing spot positions
calls_worked =
    ((refl, refl, refl), (refl, refl, refl), (refl, refl, refl), (refl, refl, refl), (refl, refl, refl), refl, refl, refl, refl, refl, refl, refl, refl, refl, refl, refl)
