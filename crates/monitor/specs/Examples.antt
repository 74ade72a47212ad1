-- Document 01's "Worked by hand", and cases of document 02's requests: one table, from the bytes of rules and logs to numbers, verdicts and refusals, proved by computation;
-- the counts of no after calls of that table, what a card has to know of a checkpoint, and how many formulas a rule has.
use Rattle.std.specs.Prelude.{ℕ, suc, ◌+◌, ◌-◌, ◌/◌, ◌%◌, ◌^◌, Bool, true, false, cond, ◌&&◌, not as negate, List, [], ◌∷◌, ◌++◌, ◌≡◌, refl, eqb, ltb, length, take, drop, replicate}
use Rattle.std.proofs.Math.Option.{Option, none, some}
use Rattle.mtl.specs.Formula.{has_next, reach, largest}
use Rattle.mtl.specs.Satisfaction.{any, all, sat}
use Rattle.mtl.specs.Progress.{run, progress, settled_to, joint_progress}
use Rattle.mtl.specs.Wanted.{depth}
use Rattle.rule.specs.declared.Entry.{Entry}
use Rattle.rule.specs.Entries.{count, first_entries, entries}
use Rattle.rule.specs.Entries.{version as version_of}
use Rattle.rule.specs.Words.{own, offset, header_words}
use Rattle.rule.specs.Postfix.{push_kind, read}
use Rattle.rule.specs.Refusal.{header_refusal, entries_refusal}
use Rattle.rule.specs.Measure.{measured}
use Rattle.trace.specs.Format.{record_count, skips_of, dropped, records_of, total_records, records_from}
use Rattle.trace.specs.Positions.{passing, spot, positions}
use Rattle.trace.specs.Order.{last_time}
use Rattle.checks.specs.Refusal.{resume_refusal}
use Rattle.checkpoint.specs.Checkpoint.{format, copy_start, kind_of_log, copy_head, copy_ends, stored_noes}
use Rattle.verdicts.specs.Bytes.{byte_of}
use Rattle.verdicts.specs.Counts.{count_of, latest_no, Noes, noes_in, laid_behind, listed}
use Rattle.meaning.specs.Verdicts.{verdicts, wanted_after, answered_number, all_verdicts}
use Rattle.monitor.specs.Trim.{trimmed_log, trimming}
use Rattle.monitor.specs.Summary.{no_position, counts_of, latest_words}
use Rattle.monitor.specs.Status.{Answer, told, refused_with, known}
use Rattle.monitor.specs.Formulas.{formula_count}

-- BYTES

-- "Numbers wider than a byte are big-endian and unsigned": 32 bits
abbrev four_bytes : ℕ → List ℕ
four_bytes n = n / 16777216 ∷ n / 65536 % 256 ∷ n / 256 % 256 ∷ n % 256 ∷ []

-- "Each entry has 10 bytes: kind (8 bits), letter (8 bits), low (32 bits), high (32 bits)."
abbrev ten_bytes : (kind letter low high : ℕ) → List ℕ
ten_bytes kind letter low high = kind ∷ letter ∷ four_bytes low ++ four_bytes high

-- the table of kinds: an entry of each, "an unused field is zero"
abbrev letter : ℕ → List ℕ
letter k = ten_bytes 0 k 0 0

abbrev negation : List ℕ
negation = ten_bytes 1 0 0 0

abbrev previous : (low high : ℕ) → List ℕ
previous low high = ten_bytes 3 0 low high

abbrev next : (low high : ℕ) → List ℕ
next low high = ten_bytes 4 0 low high

abbrev since : (low high : ℕ) → List ℕ
since low high = ten_bytes 5 0 low high

abbrev until : (low high : ℕ) → List ℕ
until low high = ten_bytes 6 0 low high

-- "High 4,294,967,295 means no upper end"
abbrev no_end : ℕ
no_end = 4_294_967_295

-- "A rule opens with a three-letter mark, KRL (hexadecimal 4B 52 4C), then a 16-bit version, 1, an 8-bit entry count and two zero bytes."
abbrev rule : (version count : ℕ) → List ℕ → List ℕ
rule version count entries = 0x4B ∷ 0x52 ∷ 0x4C ∷ 0 ∷ version ∷ count ∷ 0 ∷ 0 ∷ entries

-- "time in seconds (32 bits), event set (32 bits, letter k is the bit worth 2 to the k)", from the letters of the record
unfoldable pub event_set : List ℕ → ℕ
event_set [] = 0
event_set (k ∷ ks) = 2 ^ k + event_set ks

abbrev at : (time : ℕ) → List ℕ → List ℕ
at time letters = four_bytes time ++ four_bytes (event_set letters)

-- "A log opens with KLG (4B 4C 47), a 16-bit version, 1, and three zero bytes."
abbrev log_of_version : (version : ℕ) → List ℕ → List ℕ
log_of_version version records = 0x4B ∷ 0x4C ∷ 0x47 ∷ 0 ∷ version ∷ 0 ∷ 0 ∷ 0 ∷ records

abbrev log : List ℕ → List ℕ
log records = log_of_version 1 records

-- "a version 3 log ..: the header, a 64-bit count of records dropped, then the records"
abbrev log_3 : (dropped : ℕ) → List ℕ → List ℕ
log_3 dropped records = log_of_version 3 (four_bytes 0 ++ four_bytes dropped ++ records)

-- "From log version 2, a record with letter 31 is a service record"
abbrev log_2 : List ℕ → List ℕ
log_2 records = log_of_version 2 records

abbrev service : (time : ℕ) → List ℕ
service time = at time (31 ∷ [])

-- a checkpoint's own words up to word 7: of d verdicts given, n records seen, the last time seen, the rule's version and number of entries,
-- the word of the first closing, what is noted of the log's version, and the first record still wanted
abbrev first_words : (d n last version entries closed_with kind wanted : ℕ) → List ℕ
first_words d n last version entries closed_with kind wanted =
    format ∷ d ∷ n ∷ last ∷ copy_start version entries ∷ closed_with ∷ kind ∷ wanted ∷ []

-- a block with its copy, and 0 in its other words
abbrev block : (head ends : ℕ) → List ℕ
block head ends = replicate 14 0 ++ (head ∷ ends ∷ [])

-- the blocks of entries, each with the words behind its first 16
unfoldable pub blocks : List Entry → List ℕ
blocks [] = []
blocks (e ∷ es) = block (copy_head e) (copy_ends e) ++ (replicate (own e - 16) 0 ++ blocks es)

-- a checkpoint of the rule; its counts of no and its operators' own words are 0: a refusal asks of both only that they are in range
abbrev point_of : (rule : List ℕ) (d n last closed_with kind wanted : ℕ) → List ℕ
point_of rule d n last closed_with kind wanted =
    first_words d n last (version_of rule) (count rule) closed_with kind wanted
    ++ (replicate (header_words (version_of rule) - 8) 0 ++ blocks (entries rule))

-- THE TABLE

-- a call: the rule, the untouched log, the log as it is brought, and before it the verdicts given, the records seen, the last time seen,
-- what is noted of the log's version and the first record still wanted, and the sheet's length; then the refusal's number or 0, the words
-- and the reach of the rule, A, the verdicts written, and whether there are more
pub record Row : Type 0 where
  pub rule : List ℕ
  pub untouched : List ℕ
  pub brought : List ℕ
  pub given : ℕ
  pub seen : ℕ
  pub last : ℕ
  pub kind : ℕ
  pub wanted : ℕ
  pub room : ℕ
  pub number : ℕ
  pub words : ℕ
  pub reach : ℕ
  pub answered : ℕ
  pub verdicts : List ℕ
  pub more : Bool

-- the first call on a fresh checkpoint, accepted, with room for all verdicts
abbrev on_fresh : (rule log : List ℕ) (words reach answered_number : ℕ) (verdicts : List ℕ) → Row
on_fresh rule log words reach answered_number verdicts =
    record {
      rule = rule;
      untouched = log;
      brought = log;
      given = 0;
      seen = 0;
      last = 0;
      kind = 0;
      wanted = 0;
      room = 8191;
      number = 0;
      words = words;
      reach = reach;
      answered = answered_number;
      verdicts = verdicts;
      more = false;
    }

-- the same call with a sheet of so much room
abbrev with_room : Row → (room : ℕ) (verdicts : List ℕ) (more : Bool) → Row
with_room r room verdicts more =
    record {
      rule = r.rule;
      untouched = r.untouched;
      brought = r.brought;
      given = r.given;
      seen = r.seen;
      last = r.last;
      kind = r.kind;
      wanted = r.wanted;
      room = room;
      number = 0;
      words = r.words;
      reach = r.reach;
      answered = r.answered;
      verdicts = verdicts;
      more = more;
    }

-- the same call with a sheet that is too short
abbrev on_short : Row → (room : ℕ) (verdicts : List ℕ) → Row
on_short r room verdicts = with_room r room verdicts true

-- the next call with the same rule, accepted, with room for all verdicts: "The point then has d + c verdicts given, N records seen,
-- and the last record's time", and `first` is the first record still wanted
abbrev after : Row → (first : ℕ) (untouched brought : List ℕ) (answered_number : ℕ) (verdicts : List ℕ) → Row
after r first untouched brought answered_number verdicts =
    record {
      rule = r.rule;
      untouched = untouched;
      brought = brought;
      given = r.given + length r.verdicts;
      seen = total_records r.brought;
      last = last_time (records_of r.brought) (r.seen - dropped r.brought) r.last;
      kind = kind_of_log (skips_of r.brought);
      wanted = first;
      room = 8191;
      number = 0;
      words = r.words;
      reach = r.reach;
      answered = answered_number;
      verdicts = verdicts;
      more = false;
    }

-- the call is refused with this number instead
abbrev stopped : Row → (number : ℕ) → Row
stopped r number =
    record {
      rule = r.rule;
      untouched = r.untouched;
      brought = r.brought;
      given = r.given;
      seen = r.seen;
      last = r.last;
      kind = r.kind;
      wanted = r.wanted;
      room = r.room;
      number = number;
      words = r.words;
      reach = r.reach;
      answered = 0;
      verdicts = [];
      more = false;
    }

-- a rule that is refused with this number
abbrev refused_rule : (rule : List ℕ) (number : ℕ) → Row
refused_rule rule number =
    record {
      rule = rule;
      untouched = log [];
      brought = log [];
      given = 0;
      seen = 0;
      last = 0;
      kind = 0;
      wanted = 0;
      room = 8191;
      number = number;
      words = 0;
      reach = 0;
      answered = 0;
      verdicts = [];
      more = false;
    }

-- two lists of bytes are the same
unfoldable pub same : List ℕ → List ℕ → Bool
same [] [] = true
same [] (y ∷ ys) = false
same (x ∷ xs) [] = false
same (x ∷ xs) (y ∷ ys) = eqb x y && same xs ys

-- the checkpoint before the call, with this word of its first closing
abbrev point_before : Row → (closed_with : ℕ) → List ℕ
point_before r closed_with = point_of r.rule r.given r.seen r.last closed_with r.kind r.wanted

-- the number with which the call stops, a resume or a closing, and what weighing gives
unfoldable pub computes_refusal : (closing : Bool) (closed_with : ℕ) → Row → Bool
computes_refusal closing closed_with r =
    eqb (resume_refusal closing r.rule r.brought (point_before r closed_with)) r.number
    && (eqb (measured r.rule).words r.words && eqb (measured r.rule).reach r.reach)

-- two answers are the same
abbrev agree : Bool → Bool → Bool
agree x y = cond x y (negate y)

-- what is brought stands for the untouched log: it is of its kind, has as many records, and those from the first still wanted on
unfoldable pub brings_untouched : Row → Bool
brings_untouched r =
    eqb (wanted_after r.rule r.untouched r.given r.seen) r.wanted
    && (agree (skips_of r.brought) (skips_of r.untouched)
    && (eqb (total_records r.brought) (record_count (records_of r.untouched))
    && same (records_from r.brought r.wanted) (records_from r.untouched r.wanted)))

-- the answered number, the verdicts from `given` on as far as the sheet goes, "judged on the untouched log", and "'more' if A > d + c"
unfoldable pub computes_verdicts : (closing : Bool) → Row → Bool
computes_verdicts closing r =
    let n = total_records r.brought in
    eqb (answered_number closing r.rule r.untouched n) r.answered
    && (same (take r.room (drop r.given (all_verdicts closing r.rule r.untouched n))) r.verdicts
    && agree (ltb (r.given + length r.verdicts) r.answered) r.more)

unfoldable pub computes : (closing : Bool) (closed_with : ℕ) → Row → Bool
computes closing closed_with r =
    computes_refusal closing closed_with r
    && cond (eqb r.number 0) (brings_untouched r && computes_verdicts closing r) true

-- 0, or the number n of a row that does not compute
unfoldable pub wrong : ℕ → Row → ℕ
wrong n r = cond (computes false 0 r) 0 n

-- none of the rows is wrong, the first of them having number n
unfoldable pub Right : ℕ → List Row → Type 0
Right n [] = Unit {0}
Right n (r ∷ rs) = (wrong n r ≡ 0) × Right (suc n) rs

-- "each byte 1 for yes or 0 for no"
abbrev yes : ℕ
yes = 1

abbrev no : ℕ
no = 0

-- P1's rule, "letter 0, letter 1, until 0 to 2", and its records
abbrev entries_1 : List ℕ
entries_1 = letter 0 ++ letter 1 ++ until 0 2

abbrev rule_1 : List ℕ
rule_1 = rule 1 3 entries_1

abbrev records_1 : List ℕ
records_1 =
    at 10 (0 ∷ []) ++ at 11 (0 ∷ []) ++ at 11 [] ++ at 12 (0 ∷ []) ++ at 13 (1 ∷ []) ++ at 20 (0 ∷ [])

abbrev call_1 : Row
call_1 = on_fresh rule_1 (log records_1) 70 2 5 (no ∷ no ∷ no ∷ yes ∷ yes ∷ [])

-- P2: the next call, with records 0 to 4 set to all ones and (21, 1) added
abbrev call_2 : Row
call_2 =
    after call_1 5 (log (records_1 ++ at 21 (1 ∷ []))) (log (replicate 40 255 ++ at 20 (0 ∷ []) ++ at 21 (1 ∷ []))) 7 (yes ∷ yes ∷ [])

-- two untils over three letters
abbrev rule_10 : ℕ → List ℕ
rule_10 high = rule 1 5 (letter 0 ++ letter 1 ++ until 0 3600 ++ letter 2 ++ until 0 high)

-- an empty rule over three records
abbrev records_20 : List ℕ
records_20 = at 5 (0 ∷ []) ++ at 5 [] ++ at 7 []

abbrev call_20 : Row
call_20 = on_short (on_fresh (rule 1 0 []) (log records_20) 16 0 3 []) 2 (yes ∷ yes ∷ [])

-- P4's call, and the next one, which adds (6, none) and brings the first three records as `kept`
abbrev records_4 : List ℕ
records_4 = at 5 (0 ∷ []) ++ at 5 [] ++ at 6 (0 ∷ [])

abbrev call_4 : Row
call_4 = on_fresh (rule 1 2 (letter 0 ++ previous 0 0)) (log records_4) 48 0 3 (no ∷ yes ∷ no ∷ [])

abbrev after_4 : List ℕ → Row
after_4 kept = after call_4 2 (log (records_4 ++ at 6 [])) (log (kept ++ at 6 [])) 4 (yes ∷ [])

-- previous 0 to 9 of P1's until, over P7's two records, and over these and two more
abbrev records_23 : List ℕ
records_23 = at 10 (0 ∷ []) ++ at 12 (0 ∷ [])

abbrev more_23 : List ℕ
more_23 = records_23 ++ at 12 (1 ∷ []) ++ at 12 (0 ∷ [])

abbrev call_23 : Row
call_23 = on_fresh (rule 1 4 (letter 0 ++ letter 1 ++ until 0 2 ++ previous 0 9)) (log records_23) 86 2 1 (no ∷ [])

-- several formulas: P1's until and its not, over P1's records; "bit k of the verdict byte is formula k's answer"
abbrev rule_28 : List ℕ
rule_28 = rule 2 7 (entries_1 ++ entries_1 ++ negation)

abbrev no_yes : ℕ
no_yes = 2

abbrev yes_no : ℕ
yes_no = 1

abbrev call_28 : Row
call_28 = on_fresh rule_28 (log records_1) 148 2 5 (no_yes ∷ no_yes ∷ no_yes ∷ yes_no ∷ yes_no ∷ [])

-- the next call, as P2 is after P1
abbrev call_29 : Row
call_29 =
    after call_28 5 (log (records_1 ++ at 21 (1 ∷ []))) (log (replicate 40 255 ++ at 20 (0 ∷ []) ++ at 21 (1 ∷ []))) 7 (yes_no ∷ yes_no ∷ [])

-- letter 0, P1's until, and letter 0 again
abbrev rule_30 : List ℕ
rule_30 = rule 2 5 (letter 0 ++ entries_1 ++ letter 0)

abbrev yes_no_yes : ℕ
yes_no_yes = 5

-- the letters 0 to 7
abbrev letters : List ℕ
letters = letter 0 ++ letter 1 ++ letter 2 ++ letter 3 ++ letter 4 ++ letter 5 ++ letter 6 ++ letter 7

-- letter 0, and P10's rule with a since in place of its second until: one second more is one word more
abbrev rule_36 : ℕ → List ℕ
rule_36 high = rule 2 6 (letter 0 ++ letter 0 ++ letter 1 ++ until 0 3600 ++ letter 2 ++ since 0 high)

-- P4's rule, letter 0, and P4's rule again, over P4's records and as `after_4` goes on
abbrev no_yes_no : ℕ
no_yes_no = 2

abbrev call_38 : Row
call_38 =
    on_fresh (rule 2 5 (letter 0 ++ previous 0 0 ++ letter 0 ++ letter 0 ++ previous 0 0)) (log records_4) 104 0 3 (no_yes_no ∷ yes_no_yes ∷ no_yes_no ∷ [])

abbrev after_38 : List ℕ → Row
after_38 kept = after call_38 2 (log (records_4 ++ at 6 [])) (log (kept ++ at 6 [])) 4 (yes_no_yes ∷ [])

-- Document 02, paper 10: P1's log as version 2 with a service record in each of four places. In the middle of second 11 it has letters 0
-- and 1 besides: as a position it would make the until hold. Behind all it stands ten seconds behind the last position, which is open.
abbrev service_first : Row
service_first = on_fresh rule_1 (log_2 (service 9 ++ records_1)) 70 2 5 (no ∷ no ∷ no ∷ yes ∷ yes ∷ [])

abbrev service_between : Row
service_between =
    on_fresh rule_1 (log_2 (take 8 records_1 ++ service 10 ++ drop 8 records_1)) 70 2 5 (no ∷ no ∷ no ∷ yes ∷ yes ∷ [])

abbrev records_within : List ℕ
records_within = take 16 records_1 ++ at 11 (0 ∷ 1 ∷ 31 ∷ []) ++ drop 16 records_1

abbrev service_within : Row
service_within = on_fresh rule_1 (log_2 records_within) 70 2 5 (no ∷ no ∷ no ∷ yes ∷ yes ∷ [])

abbrev service_last : Row
service_last = on_fresh rule_1 (log_2 (records_1 ++ service 30)) 70 2 5 (no ∷ no ∷ no ∷ yes ∷ yes ∷ [])

-- service records alone
abbrev services : List ℕ
services = service 5 ++ service 6 ++ service 6

abbrev services_alone : Row
services_alone = on_fresh rule_1 (log_2 services) 70 2 0 []

-- P4's records with a service record behind the first and one behind the last, and the next call, as `after_4`: position 2 is record 3
abbrev records_4_serviced : List ℕ
records_4_serviced = take 8 records_4 ++ service 5 ++ drop 8 records_4 ++ service 6

abbrev call_4_serviced : Row
call_4_serviced = on_fresh (rule 1 2 (letter 0 ++ previous 0 0)) (log_2 records_4_serviced) 48 0 3 (no ∷ yes ∷ no ∷ [])

abbrev after_4_serviced : List ℕ → Row
after_4_serviced kept =
    after call_4_serviced 3 (log_2 (records_4_serviced ++ at 6 [])) (log_2 (kept ++ service 6 ++ at 6 [])) 4 (yes ∷ [])

-- Document 02, paper 11: P1 over a version 2 log, and P2's log, of which record 5 is then the first wanted, trimmed with the point that P1 left
abbrev call_1_again : Row
call_1_again = on_fresh rule_1 (log_2 records_1) 70 2 5 (no ∷ no ∷ no ∷ yes ∷ yes ∷ [])

abbrev records_2 : List ℕ
records_2 = records_1 ++ at 21 (1 ∷ [])

-- with records 0 to 4 set to all ones, and trimmed
abbrev overwritten_2 : List ℕ
overwritten_2 = log_2 (replicate 40 255 ++ at 20 (0 ∷ []) ++ at 21 (1 ∷ []))

abbrev trimmed_2 : List ℕ
trimmed_2 = log_3 5 (at 20 (0 ∷ []) ++ at 21 (1 ∷ []))

abbrev call_2_trimmed : Row
call_2_trimmed = after call_1_again 5 (log_2 records_2) trimmed_2 7 (yes ∷ yes ∷ [])

-- then with (22, 1) added
abbrev after_trimmed : (brought : List ℕ) → Row
after_trimmed brought = after call_2_trimmed 7 (log_2 (records_2 ++ at 22 (1 ∷ []))) brought 8 (yes ∷ [])

-- P1 with its log trimmed on a fresh point
abbrev call_1_trimmed : Row
call_1_trimmed = on_fresh rule_1 (log_3 0 records_1) 70 2 5 (no ∷ no ∷ no ∷ yes ∷ yes ∷ [])

-- P7's three records: trimmed behind the first, with (16, 0) added, trimmed behind the third, and closed
abbrev records_7 : List ℕ
records_7 = at 10 (0 ∷ []) ++ at 12 (0 ∷ []) ++ at 13 (0 ∷ [])

abbrev call_7_again : Row
call_7_again = on_fresh rule_1 (log_2 records_7) 70 2 1 (no ∷ [])

abbrev more_7 : List ℕ
more_7 = records_7 ++ at 16 (0 ∷ [])

abbrev call_7_grown : Row
call_7_grown = after call_7_again 1 (log_2 more_7) (log_3 1 (at 12 (0 ∷ []) ++ at 13 (0 ∷ []) ++ at 16 (0 ∷ []))) 3 (no ∷ no ∷ [])

abbrev close_7_trimmed : Row
close_7_trimmed = after call_7_grown 3 (log_2 more_7) (log_3 3 (at 16 (0 ∷ []))) 4 (no ∷ [])

unfoldable pub rows : List Row
rows =
    -- 1: P1 The run above.
    call_1
    -- 2: P2 Carry on after P1 with records 0 to 4 set to all ones and (21, 1) added: yes, yes, caught up.
    ∷ call_2
    -- 3: P3 Letter 0 since, 1 to no end, letter 1, over (5, 1) (5, 0) (6, 0) (7, none): no, no, yes, no.
    ∷ on_fresh (rule 1 3 (letter 0 ++ letter 1 ++ since 1 no_end))
    (log (at 5 (1 ∷ []) ++ at 5 (0 ∷ []) ++ at 6 (0 ∷ []) ++ at 7 [])) 65 0 4 (no ∷ no ∷ yes ∷ no ∷ [])
    -- 4: P4 Previous 0 to 0 of letter 0 over (5, 0) (5, none) (6, 0): no, yes, no.
    ∷ call_4
    -- 5: P5 Next 1 to 1 of letter 0 over (5, none) (6, 0) (8, 0): yes, no, and position 2 open.
    ∷ on_fresh (rule 1 2 (letter 0 ++ next 1 1)) (log (at 5 [] ++ at 6 (0 ∷ []) ++ at 8 (0 ∷ []))) 48 no_end 2 (yes ∷ no ∷ [])
    -- 6: P6 Not of P1's rule over (10, 0): no verdict.
    ∷ on_fresh (rule 1 4 (letter 0 ++ letter 1 ++ until 0 2 ++ negation)) (log (at 10 (0 ∷ []))) 86 2 0 []
    -- 7 and 8: P7 P1's rule over (10, 0) (12, 0): none; with (13, 0) added: no, then open.
    ∷ on_fresh rule_1 (log (at 10 (0 ∷ []) ++ at 12 (0 ∷ []))) 70 2 0 []
    ∷ on_fresh rule_1 (log (at 10 (0 ∷ []) ++ at 12 (0 ∷ []) ++ at 13 (0 ∷ []))) 70 2 1 (no ∷ [])
    -- 9: P8 Letter 0 until 0 to 5 of (letter 2 until 0 to 5 letter 3) over (0, 0 and 2) (11, 2): no, then open.
    ∷ on_fresh (rule 1 5 (letter 0 ++ letter 2 ++ letter 3 ++ until 0 5 ++ until 0 5))
    (log (at 0 (0 ∷ 2 ∷ []) ++ at 11 (2 ∷ []))) 120 10 1 (no ∷ [])
    -- 10: P9 A log of 8 bytes: 0 verdicts, caught up.
    ∷ on_fresh rule_1 (log []) 70 2 0 []
    -- 11 and 12: P10 Two untils over three letters, highs 3,600 and 446: 8,192 words; with 447: refusal 8.
    ∷ on_fresh (rule_10 446) (log []) 8192 4046 0 []
    ∷ refused_rule (rule_10 447) 8
    -- 13 to 15: High 3,600 passes, 3,601 is refusal 6; two errors, by request 8 version 3 and a wrong length, give 2.
    ∷ on_fresh (rule 1 3 (letter 0 ++ letter 1 ++ until 0 3600)) (log []) 7266 3600 0 []
    ∷ refused_rule (rule 1 3 (letter 0 ++ letter 1 ++ until 0 3601)) 6
    ∷ refused_rule (rule 3 1 []) 2
    -- 16 to 18: request 6: next, 1 to no end, of letter 0, over gaps 0, 1, 3,601 and 4,294,967,295 to records with letter 0; an
    -- until without upper end is refused
    ∷ on_fresh (rule 1 2 (letter 0 ++ next 1 no_end))
    (log (at 0 [] ++ at 0 (0 ∷ []) ++ at 1 (0 ∷ []) ++ at 3602 (0 ∷ [])))
    48 no_end 3 (no ∷ yes ∷ yes ∷ [])
    ∷ on_fresh (rule 1 2 (letter 0 ++ next 1 no_end)) (log (at 0 [] ++ at 4_294_967_295 (0 ∷ []))) 48 no_end 1 (yes ∷ [])
    ∷ refused_rule (rule 1 3 (letter 0 ++ letter 1 ++ until 0 no_end)) 6
    -- 19: request 3: an empty rule over no record: 16 words, reach 0
    ∷ on_fresh (rule 1 0 []) (log []) 16 0 0 []
    -- 20 and 21: over three records with a sheet of two bytes, yes, yes, more; then, with those two overwritten, yes, caught up
    ∷ call_20
    ∷ after call_20 2 (log records_20) (log (replicate 16 255 ++ at 7 [])) 3 (yes ∷ [])
    -- 22: a count of 0 with a length of 18 is refusal 4
    ∷ refused_rule (rule 1 0 (letter 0)) 4
    -- 23 and 24: request 2: previous 0 to 9 of P1's until over (10, 0) (12, 0): the until is open, previous says no at 0; with (12, 1)
    -- (12, 0) added the until is open at 3 alone: yes, yes, yes
    ∷ call_23
    ∷ after call_23 0 (log more_23) (log more_23) 4 (yes ∷ yes ∷ yes ∷ [])
    -- 25 and 26: after P4 record 2 is still wanted. With records 0 and 1 set to all ones: yes; with record 2, too: refusal 14
    ∷ after_4 (replicate 16 255 ++ at 6 (0 ∷ []))
    ∷ stopped (after_4 (replicate 24 255)) 14
    -- 27: request 8: P1 as a rule of version 2 with one formula: 8 words more, and the same verdicts
    ∷ on_fresh (rule 2 3 entries_1) (log records_1) 78 2 5 (no ∷ no ∷ no ∷ yes ∷ yes ∷ [])
    -- 28 and 29: P1's until and its not; then as P2
    ∷ call_28
    ∷ call_29
    -- 30 and 31: P1's until between two letters over P7's logs: the until is open, and holds the letters' answers back; then yes, no and
    -- yes, then open
    ∷ on_fresh rule_30 (log records_23) 110 2 0 []
    ∷ on_fresh rule_30 (log (records_23 ++ at 13 (0 ∷ []))) 110 2 1 (yes_no_yes ∷ [])
    -- 32: eight formulas over three records
    ∷ on_fresh (rule 2 8 letters) (log (at 5 (0 ∷ 1 ∷ 4 ∷ 7 ∷ []) ++ at 5 [] ++ at 6 (0 ∷ 1 ∷ 2 ∷ 3 ∷ 4 ∷ 5 ∷ 6 ∷ 7 ∷ []))) 152 0 3 (147 ∷ 0 ∷ 255 ∷ [])
    -- 33 to 35: nine formulas, and none, are refusal 7; a version 2 with a wrong length is 4
    ∷ refused_rule (rule 2 9 (letters ++ letter 8)) 7
    ∷ refused_rule (rule 2 0 []) 7
    ∷ refused_rule (rule 2 1 []) 4
    -- 36 and 37: 8,192 words with the 24, and one more
    ∷ on_fresh (rule_36 869) (log []) 8192 3600 0 []
    ∷ refused_rule (rule_36 870) 8
    -- 38 to 40: letter 0 between two of P4's rules: "paper 2's k, are the largest over the formulas", so that record 2 is still wanted, as
    -- in 25 and 26
    ∷ call_38
    ∷ after_38 (replicate 16 255 ++ at 6 (0 ∷ []))
    ∷ stopped (after_38 (replicate 24 255)) 14
    -- 41 to 44: request 10: a service record before P1's records, between them, in the middle of a second, and after all: P1's verdicts
    ∷ service_first
    ∷ service_between
    ∷ service_within
    ∷ service_last
    -- 45 and 46: then as P2 after 43, position 5 being record 6; after 44 with (31, 1) added, which is over: no, yes
    ∷ after service_within 6 (log_2 (records_within ++ at 21 (1 ∷ []))) (log_2 (replicate 48 255 ++ at 20 (0 ∷ []) ++ at 21 (1 ∷ []))) 7 (yes ∷ yes ∷ [])
    ∷ after service_last 5 (log_2 (records_1 ++ service 30 ++ at 31 (1 ∷ [])))
    (log_2 (replicate 40 255 ++ at 20 (0 ∷ []) ++ service 30 ++ at 31 (1 ∷ []))) 7 (no ∷ yes ∷ [])
    -- 47 and 48: service records alone: no verdict, and the record after all is wanted: with all of them overwritten, P1's verdicts
    ∷ services_alone
    ∷ after services_alone 3 (log_2 (services ++ records_1)) (log_2 (replicate 24 255 ++ records_1)) 5 (no ∷ no ∷ no ∷ yes ∷ yes ∷ [])
    -- 49 and 50: the bytes of 43 and of 47 as version 1, where letter 31 is a letter
    ∷ on_fresh rule_1 (log records_within) 70 2 6 (yes ∷ yes ∷ yes ∷ no ∷ yes ∷ yes ∷ [])
    ∷ on_fresh (rule 1 1 (letter 31)) (log services) 32 0 3 (yes ∷ yes ∷ yes ∷ [])
    -- 51: no position of version 2 has letter 31
    ∷ on_fresh (rule 1 1 (letter 31)) (log_2 (at 5 (0 ∷ []) ++ service 5 ++ at 6 [])) 32 0 2 (no ∷ no ∷ [])
    -- 52 to 54: previous over a service record; then with records 0 to 2 set to all ones: yes; with record 3, too: refusal 14
    ∷ call_4_serviced
    ∷ after_4_serviced (replicate 24 255 ++ at 6 (0 ∷ []))
    ∷ stopped (after_4_serviced (replicate 32 255)) 14
    -- 55 and 56: a service record's time is below that of the record before it; that of the first new record is below a service record's
    ∷ stopped (on_fresh rule_1 (log_2 (at 10 (0 ∷ []) ++ service 9 ++ at 12 (0 ∷ []))) 70 2 0 []) 14
    ∷ stopped (after services_alone 3 (log_2 services) (log_2 (replicate 24 255 ++ at 5 (0 ∷ []))) 0 []) 14
    -- 57 and 58: request 11: P1, then P2 with its log trimmed
    ∷ call_1_again
    ∷ call_2_trimmed
    -- 59 to 61: then with (22, 1), trimmed again; the version 2 log again, with all before it set to all ones; the older copy, with what it
    -- has before it set to all ones
    ∷ after_trimmed (log_3 7 (at 22 (1 ∷ [])))
    ∷ after_trimmed (log_2 (replicate 56 255 ++ at 22 (1 ∷ [])))
    ∷ after_trimmed (log_3 5 (replicate 16 255 ++ at 22 (1 ∷ [])))
    -- 62 to 65: a version 1 log then is 22; a record fewer, dropped ones counted, 13; the first wanted record dropped 24, also on a fresh point
    ∷ stopped (after_trimmed (log (replicate 56 255 ++ at 22 (1 ∷ [])))) 22
    ∷ stopped (after_trimmed (log_3 5 (at 20 (0 ∷ [])))) 13
    ∷ stopped (after_trimmed (log_3 8 [])) 24
    ∷ stopped (on_fresh rule_1 (log_3 1 (drop 8 records_1)) 70 2 0 []) 24
    -- 66 and 67: a fresh point's log trimmed, and then the version 2 log as P2 has it
    ∷ call_1_trimmed
    ∷ after call_1_trimmed 5 (log_2 records_2) overwritten_2 7 (yes ∷ yes ∷ [])
    -- 68 and 69: P7's log; trimmed and grown
    ∷ call_7_again
    ∷ call_7_grown
    -- 70: 45 with its log trimmed and a service record besides, which version 3 passes over, too
    ∷ after service_within 6 (log_2 (records_within ++ service 20 ++ at 21 (1 ∷ []))) (log_3 6 (at 20 (0 ∷ []) ++ service 20 ++ at 21 (1 ∷ []))) 7 (yes ∷ yes ∷ [])
    ∷ []

-- every row computes; an edit of the definitions that breaks a row has its number in an error
pub every_row : Right 1 rows
unfolding Right wrong rows passing spot positions computes computes_refusal brings_untouched computes_verdicts same blocks event_set first_entries offset push_kind read header_refusal entries_refusal has_next reach any all sat run progress settled_to largest depth joint_progress byte_of verdicts
every_row = (refl, (refl, (refl, (refl, (refl, (refl, (refl, (refl, (refl, (refl, (refl, (refl, (refl, (refl, (refl, (refl, (refl, (refl, (refl, (refl, (refl, (refl, (refl, (refl, (refl, (refl, (refl, (refl, (refl, (refl, (refl, (refl, (refl, (refl, (refl, (refl, (refl, (refl, (refl, (refl, (refl, (refl, (refl, (refl, (refl, (refl, (refl, (refl, (refl, (refl, (refl, (refl, (refl, (refl, (refl, (refl, (refl, (refl, (refl, (refl, (refl, (refl, (refl, (refl, (refl, (refl, (refl, (refl, (refl, (refl, tt))))))))))))))))))))))))))))))))))))))))))))))))))))))))))))))))))))))

-- CLOSINGS: document 02, paper 9

-- a call, whether it is a closing, and the word of the first closing in its checkpoint
pub record ClosingRow : Type 0 where
  pub closing : Bool
  pub closed_with : ℕ
  pub call : Row

unfoldable pub AllClose : ℕ → List ClosingRow → Type 0
AllClose n [] = Unit {0}
AllClose n (r ∷ rs) = (cond (computes r.closing r.closed_with r.call) 0 n ≡ 0) × AllClose (suc n) rs

-- a closing of an open point
abbrev closes : Row → ClosingRow
closes r = record { closing = true; closed_with = 0; call = r }

-- a closing again after one of three records, and a resume then
abbrev closes_again : Row → ClosingRow
closes_again r = record { closing = true; closed_with = 4; call = r }

abbrev resumes_then : Row → ClosingRow
resumes_then r = record { closing = false; closed_with = 4; call = r }

-- P7's three records, closed with a sheet of one byte three times, those with verdicts overwritten
abbrev close_7 : Row
close_7 = on_fresh rule_1 (log records_7) 70 2 3 (no ∷ no ∷ no ∷ [])

-- the same as version 2
abbrev close_7_serviced : Row
close_7_serviced = on_fresh rule_1 (log_2 records_7) 70 2 3 (no ∷ no ∷ no ∷ [])

abbrev first_of_3 : Row
first_of_3 = on_short close_7 1 (no ∷ [])

abbrev second_of_3 : Row
second_of_3 =
    with_room (after first_of_3 1 (log records_7) (log (replicate 8 255 ++ at 12 (0 ∷ []) ++ at 13 (0 ∷ []))) 3 []) 1 (no ∷ []) true

abbrev third_of_3 : Row
third_of_3 = with_room (after second_of_3 2 (log records_7) (log (replicate 16 255 ++ at 13 (0 ∷ []))) 3 []) 1 (no ∷ []) false

unfoldable pub closing_rows : List ClosingRow
closing_rows =
    -- 1: P6 closed: the until is no on the log as it ends
    closes (on_fresh (rule 1 4 (letter 0 ++ letter 1 ++ until 0 2 ++ negation)) (log (at 10 (0 ∷ []))) 86 2 1 (yes ∷ []))
    -- 2: P7's second log closed
    ∷ closes close_7
    -- 3: P5 closed: no position stands after the last
    ∷ closes (on_fresh (rule 1 2 (letter 0 ++ next 1 1)) (log (at 5 [] ++ at 6 (0 ∷ []) ++ at 8 (0 ∷ []))) 48 no_end 3 (yes ∷ no ∷ no ∷ []))
    -- 4: P8 closed
    ∷ closes (on_fresh (rule 1 5 (letter 0 ++ letter 2 ++ letter 3 ++ until 0 5 ++ until 0 5))
    (log (at 0 (0 ∷ 2 ∷ []) ++ at 11 (2 ∷ []))) 120 10 2 (no ∷ no ∷ []))
    -- 5 to 7: a sheet of one byte three times
    ∷ closes first_of_3
    ∷ closes_again second_of_3
    ∷ closes_again third_of_3
    -- 8 to 11: then a resume is 20, before a log of 7 bytes is 12; a closing with a record more is 21, with one fewer 13
    ∷ resumes_then (stopped (after close_7 3 (log records_7) (log records_7) 0 []) 20)
    ∷ resumes_then (stopped (after close_7 3 (log records_7) (take 7 (log records_7)) 0 []) 20)
    ∷ closes_again (stopped (after close_7 3 (log records_7) (log (records_7 ++ at 13 [])) 0 []) 21)
    ∷ closes_again (stopped (after close_7 3 (log records_7) (log (at 10 (0 ∷ []) ++ at 12 (0 ∷ []))) 0 []) 13)
    -- 12: an empty log closed: 0 verdicts, caught up
    ∷ closes (on_fresh rule_1 (log []) 70 2 0 [])
    -- 13: three formulas closed: P1's until between two letters, over P7's second log
    ∷ closes (on_fresh rule_30 (log records_7) 110 2 3 (yes_no_yes ∷ yes_no_yes ∷ yes_no_yes ∷ []))
    -- 14 and 15: 2 and 3 with service records at the end
    ∷ closes (on_fresh rule_1 (log_2 (records_7 ++ service 13 ++ service 99)) 70 2 3 (no ∷ no ∷ no ∷ []))
    ∷ closes (on_fresh (rule 1 2 (letter 0 ++ next 1 1)) (log_2 (at 5 [] ++ at 6 (0 ∷ []) ++ at 8 (0 ∷ []) ++ service 9)) 48 no_end 3 (yes ∷ no ∷ no ∷ []))
    -- 16: a service record more is 21
    ∷ closes_again (stopped (after close_7_serviced 3 (log_2 records_7) (log_2 (records_7 ++ service 13)) 0 []) 21)
    -- 17: 69's log trimmed again and closed
    ∷ closes close_7_trimmed
    ∷ []

pub every_closing : AllClose 1 closing_rows
unfolding AllClose closing_rows passing spot positions computes computes_refusal brings_untouched computes_verdicts same blocks event_set first_entries offset push_kind read header_refusal entries_refusal has_next reach any all sat run progress settled_to largest depth joint_progress byte_of verdicts
every_closing = (refl, (refl, (refl, (refl, (refl, (refl, (refl, (refl, (refl, (refl, (refl, (refl, (refl, (refl, (refl, (refl, (refl, tt)))))))))))))))))

-- TRIMMINGS: document 02, paper 11

-- a call of the tables before which its log is trimmed, the word of the first closing in its checkpoint, and the length of the lent buffer; then
-- the refusal's number or 0, and the bytes written
pub record TrimRow : Type 0 where
  pub call : Row
  pub closed_with : ℕ
  pub lent : ℕ
  pub number : ℕ
  pub written : List ℕ

-- into as many bytes as it takes
abbrev trims : Row → (written : List ℕ) → TrimRow
trims r written = record { call = r; closed_with = 0; lent = length written; number = 0; written = written }

abbrev not_trimmed : Row → (lent number : ℕ) → TrimRow
not_trimmed r lent number = record { call = r; closed_with = 0; lent = lent; number = number; written = [] }

unfoldable pub computes_trim : TrimRow → Bool
computes_trim t =
    let r = t.call in
    let point = point_before r t.closed_with in
    let a = trimming r.rule r.brought point t.lent in
    eqb a.number t.number
    && cond (eqb t.number 0)
    (brings_untouched r && (eqb a.written (length t.written) && same (trimmed_log r.brought point) t.written)) true

unfoldable pub AllTrim : ℕ → List TrimRow → Type 0
AllTrim n [] = Unit {0}
AllTrim n (t ∷ ts) = (cond (computes_trim t) 0 n ≡ 0) × AllTrim (suc n) ts

-- P2 with a version 2 log
abbrev call_2_again : Row
call_2_again = after call_1_again 5 (log_2 records_2) overwritten_2 7 (yes ∷ yes ∷ [])

unfoldable pub trim_rows : List TrimRow
trim_rows =
    -- 1: after P1: records 5 and 6, and 5 dropped
    trims call_2_again trimmed_2
    -- 2: what was written is the same when it is trimmed again
    ∷ trims call_2_trimmed trimmed_2
    -- 3 and 4: after 58 nothing of it is wanted; of the older copy, grown, the last record
    ∷ trims (after call_2_trimmed 7 (log_2 records_2) trimmed_2 7 []) (log_3 7 [])
    ∷ trims (after_trimmed (log_3 5 (replicate 16 255 ++ at 22 (1 ∷ [])))) (log_3 7 (at 22 (1 ∷ [])))
    -- 5: on a fresh point nothing is dropped
    ∷ trims call_1_again (log_3 0 records_1)
    -- 6 to 8: P7's log after its first call, and when it has grown: the count is that of all records dropped; and once it is closed
    ∷ trims (after call_7_again 1 (log_2 records_7) (log_2 records_7) 1 []) (log_3 1 (at 12 (0 ∷ []) ++ at 13 (0 ∷ [])))
    ∷ trims (after call_7_grown 3 (log_2 more_7) call_7_grown.brought 3 []) (log_3 3 (at 16 (0 ∷ [])))
    ∷ record {
      call = after close_7_trimmed 4 (log_2 more_7) close_7_trimmed.brought 4 [];
      closed_with = 5;
      lent = 16;
      number = 0;
      written = log_3 4 [];
    }
    -- 9: of 43's log 6 records are dropped, which hold 5 positions
    ∷ trims (after service_within 6 (log_2 records_within) (log_2 records_within) 5 []) (log_3 6 (at 20 (0 ∷ [])))
    -- 10 and 11: a version 1 log is 23, after a version 2 one 22
    ∷ not_trimmed call_1 64 23
    ∷ not_trimmed (after call_1_again 5 (log_2 records_1) (log records_1) 5 []) 64 22
    -- 12 and 13: a byte less than 1 takes is 25, and a log that has dropped what is wanted is 24
    ∷ not_trimmed call_2_again 31 25
    ∷ not_trimmed (after call_1_again 5 (log_2 records_2) (log_3 6 (at 21 (1 ∷ []))) 7 []) 31 24
    ∷ []

pub every_trim : AllTrim 1 trim_rows
unfolding AllTrim trim_rows passing spot positions computes_trim brings_untouched same blocks event_set first_entries offset push_kind read header_refusal entries_refusal has_next reach any depth largest
every_trim = (refl, (refl, (refl, (refl, (refl, (refl, (refl, (refl, (refl, (refl, (refl, (refl, (refl, tt)))))))))))))

-- THE COUNTS OF NO

-- a call of the table, a formula by its number, and the count of its no and the latest of them before the call and after it
pub record SummaryRow : Type 0 where
  pub call : Row
  pub formula : ℕ
  pub before : Noes
  pub after : Noes

abbrev noes : ℕ → Option ℕ → Noes
noes count latest = record { count = count; latest = latest }

-- laid behind those from before, the bytes of the call have these, and so have all verdicts given then
unfoldable pub Counts : SummaryRow → Type 0
Counts s =
    let c = length s.call.verdicts in
    let d = s.call.given in
    let all = all_verdicts false s.call.rule s.call.untouched (total_records s.call.brought) in
    (laid_behind s.before d (noes_in s.formula s.call.verdicts c) ≡ s.after) × (noes_in s.formula all (d + c) ≡ s.after)

unfoldable pub AllCount : List SummaryRow → Type 0
AllCount [] = Unit {0}
AllCount (s ∷ rest) = Counts s × AllCount rest

unfoldable pub summary_rows : List SummaryRow
summary_rows =
    -- a fresh point, and a log without a record: 0, none
    record { call = on_fresh rule_1 (log []) 70 2 0 []; formula = 0; before = noes 0 none; after = noes 0 none }
    -- after P1: 3 no, the latest at position 2
    ∷ record { call = call_1; formula = 0; before = noes 0 none; after = noes 3 (some 2) }
    -- after P2 the same
    ∷ record { call = call_2; formula = 0; before = noes 3 (some 2); after = noes 3 (some 2) }
    -- P1's until and its not: the until as P1, its not 2 no, the latest at position 4; then as P2, where the not is no twice more
    ∷ record { call = call_28; formula = 0; before = noes 0 none; after = noes 3 (some 2) }
    ∷ record { call = call_28; formula = 1; before = noes 0 none; after = noes 2 (some 4) }
    ∷ record { call = call_29; formula = 0; before = noes 3 (some 2); after = noes 3 (some 2) }
    ∷ record { call = call_29; formula = 1; before = noes 2 (some 4); after = noes 4 (some 6) }
    -- the latest is a position, where the record is 3
    ∷ record { call = service_within; formula = 0; before = noes 0 none; after = noes 3 (some 2) }
    -- an empty rule has no no
    ∷ record { call = call_20; formula = 0; before = noes 0 none; after = noes 0 none }
    ∷ []

pub every_summary : AllCount summary_rows
unfolding AllCount Counts summary_rows passing spot positions count_of latest_no event_set first_entries offset push_kind read any all sat run progress settled_to joint_progress byte_of verdicts
every_summary = ((refl, refl), ((refl, refl), ((refl, refl), ((refl, refl), ((refl, refl), ((refl, refl), ((refl, refl), ((refl, refl), ((refl, refl), tt)))))))))

-- WHAT A CARD HAS TO KNOW

-- the checkpoint's own words, of version 1, with the count of no and one more than the position of the latest
abbrev words_of_version_1 : (d n entries closed_with kind wanted count after : ℕ) → List ℕ
words_of_version_1 d n entries closed_with kind wanted count after =
    first_words d n 0 1 entries closed_with kind wanted ++ (count ∷ after ∷ replicate 6 0)

-- P1's rule and P4's, without a no where none is named
abbrev blocks_1 : List ℕ
blocks_1 = block 0 0 ++ block 1 0 ++ block 1536 2 ++ replicate 6 0

abbrev point_1_with : (d n closed_with kind wanted count after : ℕ) → List ℕ
point_1_with d n closed_with kind wanted count after = words_of_version_1 d n 3 closed_with kind wanted count after ++ blocks_1

abbrev point_1 : (d n closed_with kind wanted : ℕ) → List ℕ
point_1 d n closed_with kind wanted = point_1_with d n closed_with kind wanted 0 0

abbrev point_4 : (d n kind wanted : ℕ) → List ℕ
point_4 d n kind wanted = words_of_version_1 d n 2 0 kind wanted 0 0 ++ block 0 0 ++ block 768 0

-- P1's until and its not, with the count of each formula and one more than the position of the latest of each
abbrev point_28 : (d n kind wanted count after count' after' : ℕ) → List ℕ
point_28 d n kind wanted count after count' after' =
    first_words d n 0 2 7 0 kind wanted ++ (count ∷ count' ∷ replicate 6 0) ++ (after ∷ after' ∷ replicate 6 0) ++ blocks_1 ++ blocks_1 ++ block 256 0

pub record StatusRow : Type 0 where
  pub rule : List ℕ
  pub point : List ℕ
  pub answer : Answer

abbrev tells : (rule point : List ℕ) (d n first : ℕ) (closed : Bool) → StatusRow
tells rule p d n first closed =
    record { rule = rule; point = p; answer = told (record { given = d; seen = n; wanted = first; closed = closed }) }

unfoldable pub AllKnown : List StatusRow → Type 0
AllKnown [] = Unit {0}
AllKnown (r ∷ rest) = (known r.rule r.point ≡ r.answer) × AllKnown rest

unfoldable pub status_rows : List StatusRow
status_rows =
    -- a fresh point: everything is wanted
    tells rule_1 (point_1 0 0 0 0 0) 0 0 0 false
    -- after P1: 5 given, 6 seen; after P2: 7 and 7
    ∷ tells rule_1 (point_1 5 6 0 1 5) 5 6 5 false
    ∷ tells rule_1 (point_1 7 7 0 1 7) 7 7 7 false
    -- after P4 record 2 is still wanted
    ∷ tells call_4.rule (point_4 3 3 1 2) 3 3 2 false
    -- P1 closed with an empty sheet, and with room for all
    ∷ tells rule_1 (point_1 0 6 7 1 0) 0 6 0 true
    ∷ tells rule_1 (point_1 6 6 7 1 6) 6 6 6 true
    -- after 43 record 6 is wanted, which holds position 5; after 47 the record after all; after 52 record 3
    ∷ tells rule_1 (point_1 5 7 0 2 6) 5 7 6 false
    ∷ tells rule_1 (point_1 0 3 0 2 3) 0 3 3 false
    ∷ tells call_4.rule (point_4 3 5 2 3) 3 5 3 false
    -- a word too few is 9, another rule's point 10, more given than seen 11
    ∷ record { rule = rule_1; point = take 69 (point_1 5 6 0 1 5); answer = refused_with 9 }
    ∷ record { rule = call_4.rule; point = point_1 5 6 0 1 5; answer = refused_with 10 }
    ∷ record { rule = rule_1; point = point_1 7 6 0 1 6; answer = refused_with 11 }
    -- 11 as well: a closing with fewer records than were seen, a latest no without a count, and one behind the verdicts given
    ∷ record { rule = rule_1; point = point_1 5 6 6 1 5; answer = refused_with 11 }
    ∷ record { rule = rule_1; point = point_1_with 5 6 0 1 5 0 1; answer = refused_with 11 }
    ∷ record { rule = rule_1; point = point_1_with 5 6 0 1 5 1 6; answer = refused_with 11 }
    -- P1's until and its not: after 28; a latest no of the second without a count is 11
    ∷ tells rule_28 (point_28 5 6 1 5 3 3 2 5) 5 6 5 false
    ∷ record { rule = rule_28; point = point_28 5 6 1 5 3 3 0 5; answer = refused_with 11 }
    -- a point of version 1 is 10 under the same entries of version 2
    ∷ record { rule = rule 2 3 entries_1; point = point_1 5 6 0 1 5 ++ replicate 8 0; answer = refused_with 10 }
    ∷ []

pub every_status : AllKnown status_rows
unfolding AllKnown status_rows first_entries offset push_kind read header_refusal entries_refusal has_next reach any depth largest
every_status = (refl, (refl, (refl, (refl, (refl, (refl, (refl, (refl, (refl, (refl, (refl, (refl, (refl, (refl, (refl, (refl, (refl, (refl, tt))))))))))))))))))

-- 20 "after 11": a resume on P1's point, closed, is 20, and 11 where more was given than seen besides
pub closed_and_damaged :
    (resume_refusal false rule_1 (log records_7) (point_1 6 6 7 1 6) ≡ 20) × (resume_refusal false rule_1 (log records_7) (point_1 7 6 7 1 6) ≡ 11)
unfolding first_entries offset push_kind read header_refusal entries_refusal has_next reach any depth largest event_set
closed_and_damaged = (refl, refl)

-- what `summary` writes of the two formulas after 28, and of a fresh point
pub two_told :
    (counts_of (stored_noes 8 (point_28 5 6 1 5 3 3 2 5)) 2 ≡ 3 ∷ 2 ∷ []) × (latest_words (stored_noes 8 (point_28 5 6 1 5 3 3 2 5)) 2 ≡ 2 ∷ 4 ∷ []) ×
    (counts_of (stored_noes 8 (point_28 0 0 0 0 0 0 0 0)) 2 ≡ 0 ∷ 0 ∷ []) ×
    (latest_words (stored_noes 8 (point_28 0 0 0 0 0 0 0 0)) 2 ≡ no_position ∷ no_position ∷ [])
unfolding listed
two_told = (refl, refl, refl, refl)

-- HOW MANY FORMULAS

abbrev CountsAs : List ℕ → (number formulas : ℕ) → Type 0
CountsAs rule number formulas = formula_count rule ≡ record { number = number; formulas = formulas }

-- one of version 1, the empty rule included; two; eight; and nine are refusal 7
pub formulas_counted : CountsAs rule_1 0 1 × CountsAs (rule 1 0 []) 0 1 × CountsAs rule_28 0 2 × CountsAs (rule 2 8 letters) 0 8 × CountsAs (rule 2 9 (letters ++ letter 8)) 7 0
unfolding first_entries offset push_kind read header_refusal entries_refusal any
formulas_counted = (refl, refl, refl, refl, refl)
