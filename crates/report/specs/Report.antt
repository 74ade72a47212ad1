-- The text that the program prints (document 01, "A full run"), from the bytes of a rule and of a log alone.
use Rattle.std.specs.Prelude.{ℕ, zero, suc, Bool, false, cond, ◌||◌, List, [], ◌++◌, length, get_or, ltb, eqb}
use Rattle.bits.specs.Packed.{bit}
use Rattle.rule.specs.Refusal.{or_else, refusal}
use Rattle.trace.specs.Format.{record_count, records_of}
use Rattle.checks.specs.Refusal.{whole_log_refusal}
use Rattle.decimal.specs.Text.{ascii, decimal, verdict_word}
use Rattle.meaning.specs.Verdicts.{formulas_of, columns, all_verdicts}

-- "A refusal prints `refused` and its number."
abbrev pub refused_text : ℕ → List ℕ
refused_text number = ascii "refused " ++ decimal number ++ ascii "\n"

-- "The first line has verdicts given and records": service records, too (document 02, paper 10)
abbrev pub first_line : (given records : ℕ) → List ℕ
first_line given records = ascii "verdicts " ++ decimal given ++ ascii " of " ++ decimal records ++ ascii "\n"

-- "the words on a printed line become one per formula": those of the first n bits of a verdict, "in rule order from 0"
unfoldable pub verdict_words : (verdict n : ℕ) → List ℕ
verdict_words verdict zero = []
verdict_words verdict (suc n) = verdict_words verdict n ++ verdict_word (bit verdict n)

-- "each other line a position and its verdict"
abbrev pub line : (position columns verdict : ℕ) → List ℕ
line position columns verdict = decimal position ++ verdict_words verdict columns ++ ascii "\n"

-- the lines of the first n verdicts; "counted from 0"
unfoldable pub lines : (columns : ℕ) (verdicts : List ℕ) → ℕ → List ℕ
lines columns verdicts zero = []
lines columns verdicts (suc n) = lines columns verdicts n ++ line n columns (get_or verdicts n 0)

-- the first line, and a line for each verdict
abbrev pub verdicts_text : (records columns : ℕ) (verdicts : List ℕ) → List ℕ
verdicts_text records columns verdicts = first_line (length verdicts) records ++ lines columns verdicts (length verdicts)

-- "opens, carries on": the first refusal that applies. The checkpoint is fresh, with nothing given, seen or noted, and has room for
-- every rule that passes 8. So 9, 10, 11, 13, 20 and 22 are never met, and 24 is for any dropped record
abbrev pub run_refusal : (rule log : List ℕ) → ℕ
run_refusal rule log = or_else (refusal rule) (whole_log_refusal log)

-- "a file above 65,536 bytes prints `too long` before all else"
abbrev pub too_long : (rule log : List ℕ) → Bool
too_long rule log = ltb 65536 (length rule) || ltb 65536 (length log)

-- the text of a rule and a log. A log of 65,536 bytes has at most 8,191 records, so that the sheet of 8,191 bytes takes all verdicts
abbrev pub run_text : (rule log : List ℕ) → List ℕ
run_text rule log =
    cond (eqb (run_refusal rule log) 0)
    (verdicts_text (record_count (records_of log)) (columns (formulas_of rule)) (all_verdicts false rule log (record_count (records_of log))))
    (refused_text (run_refusal rule log))

-- what is printed, all of it
abbrev pub report : (rule log : List ℕ) → List ℕ
report rule log = cond (too_long rule log) (ascii "too long\n") (run_text rule log)
