-- Where a call stops: "The first that applies is returned. Rule checks precede point checks."
use Rattle.std.specs.Prelude.{ℕ, ◌-◌, Bool, false, ◌&&◌, not as negate, List, length, leb, ltb, eqb}
use Rattle.rule.specs.declared.Entry.{Entry}
use Rattle.rule.specs.Entries.{version, count, decoded}
use Rattle.rule.specs.Refusal.{first, or_else, refusal}
use Rattle.trace.specs.Format.{skips_of, dropped, records_of, total_records, malformed, records_from}
use Rattle.trace.specs.Order.{disordered}
use Rattle.trace.specs.Making.{trimmed}
use Rattle.checkpoint.specs.Checkpoint.{seen, last, closed_with, log_kind, kind_of_log, first_wanted, need, foreign, words_outside}

-- open, on a checkpoint of so many words: refusals 1 to 9
abbrev pub open_refusal : List ℕ → ℕ → ℕ
open_refusal rule lent = or_else (refusal rule) (first 9 (ltb lent (need rule)) 0)

-- "20 when carry on is given a closed point" (document 02, paper 9)
abbrev pub resumes_closed : (closing : Bool) (closed_with : ℕ) → Bool
resumes_closed closing closed_with = negate closing && ltb 0 closed_with

-- "21 when closing is repeated with more records than at its first call that was not refused"
abbrev pub closes_more : (closing : Bool) (closed_with records : ℕ) → Bool
closes_more closing closed_with records = closing && (ltb 0 closed_with && leb closed_with records)

-- "22 when the log's version differs from that of the last carry on or closing with this point that was not refused" (document 02, paper
-- 10); "a point may go from 2 to 3 and back, and 22 is amended so" (paper 11)
abbrev pub other_version : (log : List ℕ) (noted : ℕ) → Bool
other_version log noted = ltb 0 noted && negate (eqb noted (kind_of_log (skips_of log)))

-- refusals 12 and 22, or what comes after them
abbrev pub version_refusal : (log p : List ℕ) (other : ℕ) → ℕ
version_refusal log p other = first 12 (malformed log) (first 22 (other_version log (log_kind p)) other)

-- refusals 13, 21, 24 and 14, or what comes after them. All records count, dropped ones too; "overwriting stops before" the first wanted one
-- "and 14 starts from it"; "24 when a log has dropped the first record wanted or one after it .., after 13 and 21"
abbrev pub records_refusal : (more : Bool) (log p : List ℕ) (other : ℕ) → ℕ
records_refusal more log p other =
    first 13 (ltb (total_records log) (seen p))
    (first 21 more
    (first 24 (ltb (first_wanted p) (dropped log))
    (first 14 (disordered (records_from log (first_wanted p)) (seen p - first_wanted p) (last p)) other)))

-- refusal 20 and these of a resume or a closing, of a log's bytes and a checkpoint's words
abbrev pub log_refusal : (closing : Bool) (log p : List ℕ) → ℕ
log_refusal closing log p =
    first 20 (resumes_closed closing (closed_with p))
    (version_refusal log p (records_refusal (closes_more closing (closed_with p) (total_records log)) log p 0))

-- those of a trimming into so many bytes: "Checks are carry on's, less 20"; "23 when a version 1 log is to be trimmed, after 22"; "25 when the
-- lent buffer is short, after 14"
abbrev pub trimming_refusal : (lent : ℕ) (log p : List ℕ) → ℕ
trimming_refusal lent log p =
    version_refusal log p
    (first 23 (negate (skips_of log))
    (records_refusal false log p (first 25 (ltb lent (length (trimmed log (first_wanted p)))) 0)))

-- refusals 10 and 11, of a rule's version and n entries and a checkpoint's words, or what comes after them
abbrev pub words_refusal : (version : ℕ) → List Entry → ℕ → List ℕ → ℕ → ℕ
words_refusal version t n p other = first 10 (foreign version t n p) (first 11 (words_outside version t n p) other)

-- refusals 10 and 11 and these, of a rule's version and n entries, a log's bytes and a checkpoint's words
abbrev pub point_refusal : (closing : Bool) (version : ℕ) → List Entry → ℕ → List ℕ → List ℕ → ℕ
point_refusal closing version t n log p = words_refusal version t n p (log_refusal closing log p)

-- resume and closing: all refusals, for every rule, log and checkpoint, forged ones included
abbrev pub resume_refusal : (closing : Bool) (rule log point : List ℕ) → ℕ
resume_refusal closing rule log point =
    or_else (open_refusal rule (length point)) (point_refusal closing (version rule) (decoded rule) (count rule) log point)

-- trim, into a buffer of so many bytes
abbrev pub trim_refusal : (rule log point : List ℕ) (lent : ℕ) → ℕ
trim_refusal rule log point lent =
    or_else (open_refusal rule (length point))
    (words_refusal (version rule) (decoded rule) (count rule) point (trimming_refusal lent log point))

-- summary: "checks 1 to 11", for every rule and checkpoint
abbrev pub summary_refusal : (rule point : List ℕ) → ℕ
summary_refusal rule point =
    or_else (open_refusal rule (length point)) (words_refusal (version rule) (decoded rule) (count rule) point 0)

-- a log that is wanted whole, with a fresh checkpoint or with none: "12, 24 for any dropped record, and 14 from the first record on" (document
-- 02, paper 13)
abbrev pub whole_log_refusal : (log : List ℕ) → ℕ
whole_log_refusal log = first 12 (malformed log) (first 24 (ltb 0 (dropped log)) (first 14 (disordered (records_of log) 0 0) 0))
