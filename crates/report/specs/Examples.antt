-- Document 01's run, from its bytes to its text, the same log with an empty rule, with two formulas and with a service record, and two
-- small cases, by computation.
use Rattle.std.specs.Prelude.{ℕ, List, [], ◌∷◌, ◌++◌, ◌≡◌, refl, drop}
use Rattle.mtl.specs.Satisfaction.{any, all, sat}
use Rattle.mtl.specs.Progress.{run, progress, settled_to, joint_progress}
use Rattle.rule.specs.Entries.{first_entries}
use Rattle.rule.specs.Words.{offset}
use Rattle.rule.specs.Postfix.{push_kind, read}
use Rattle.rule.specs.Refusal.{header_refusal, entries_refusal}
use Rattle.trace.specs.Positions.{passing, spot, positions}
use Rattle.verdicts.specs.Bytes.{byte_of}
use Rattle.meaning.specs.Verdicts.{verdicts}
use Rattle.decimal.specs.Text.{ascii, decimal_in, decimal}
use Rattle.report.specs.Report.{verdict_words, lines, report}

-- "Rule: letter 0, letter 1, until 0 to 2; 38 bytes"
abbrev pub rule : List ℕ
rule =
    0x4B ∷ 0x52 ∷ 0x4C ∷ 0 ∷ 1 ∷ 3 ∷ 0 ∷ 0
    ∷ 0 ∷ 0 ∷ 0 ∷ 0 ∷ 0 ∷ 0 ∷ 0 ∷ 0 ∷ 0 ∷ 0
    ∷ 0 ∷ 1 ∷ 0 ∷ 0 ∷ 0 ∷ 0 ∷ 0 ∷ 0 ∷ 0 ∷ 0
    ∷ 6 ∷ 0 ∷ 0 ∷ 0 ∷ 0 ∷ 0 ∷ 0 ∷ 0 ∷ 0 ∷ 2
    ∷ []

-- "Records (time, letters): (10, 0) (11, 0) (11, none) (12, 0) (13, 1) (20, 0)."
abbrev pub log : List ℕ
log =
    0x4B ∷ 0x4C ∷ 0x47 ∷ 0 ∷ 1 ∷ 0 ∷ 0 ∷ 0
    ∷ 0 ∷ 0 ∷ 0 ∷ 10 ∷ 0 ∷ 0 ∷ 0 ∷ 1
    ∷ 0 ∷ 0 ∷ 0 ∷ 11 ∷ 0 ∷ 0 ∷ 0 ∷ 1
    ∷ 0 ∷ 0 ∷ 0 ∷ 11 ∷ 0 ∷ 0 ∷ 0 ∷ 0
    ∷ 0 ∷ 0 ∷ 0 ∷ 12 ∷ 0 ∷ 0 ∷ 0 ∷ 1
    ∷ 0 ∷ 0 ∷ 0 ∷ 13 ∷ 0 ∷ 0 ∷ 0 ∷ 2
    ∷ 0 ∷ 0 ∷ 0 ∷ 20 ∷ 0 ∷ 0 ∷ 0 ∷ 1
    ∷ []

-- "Output, all of it"
pub full_run : report rule log ≡ ascii "verdicts 5 of 6\n0 no\n1 no\n2 no\n3 yes\n4 yes\n"
unfolding ascii decimal_in verdict_words lines first_entries offset push_kind read header_refusal entries_refusal any all sat run progress settled_to joint_progress byte_of verdicts
full_run = refl

-- request 3: an empty rule over the same log
pub empty_rule : report (0x4B ∷ 0x52 ∷ 0x4C ∷ 0 ∷ 1 ∷ 0 ∷ 0 ∷ 0 ∷ []) log ≡ ascii "verdicts 6 of 6\n0 yes\n1 yes\n2 yes\n3 yes\n4 yes\n5 yes\n"
unfolding ascii decimal_in verdict_words lines first_entries offset read header_refusal entries_refusal any settled_to joint_progress byte_of verdicts
empty_rule = refl

-- request 8: the same until, and its not behind it
pub two_formulas : report (0x4B ∷ 0x52 ∷ 0x4C ∷ 0 ∷ 2 ∷ 7 ∷ 0 ∷ 0 ∷ drop 8 rule ++ drop 8 rule ++ (1 ∷ 0 ∷ 0 ∷ 0 ∷ 0 ∷ 0 ∷ 0 ∷ 0 ∷ 0 ∷ 0 ∷ [])) log
    ≡ ascii "verdicts 5 of 6\n0 no yes\n1 no yes\n2 no yes\n3 yes no\n4 yes no\n"
unfolding ascii decimal_in verdict_words lines first_entries offset push_kind read header_refusal entries_refusal any all sat run progress settled_to joint_progress byte_of verdicts
two_formulas = refl

-- request 10: the same records as version 2 with a service record before them: the total counts it, and no position is its
pub serviced : report rule (0x4B ∷ 0x4C ∷ 0x47 ∷ 0 ∷ 2 ∷ 0 ∷ 0 ∷ 0 ∷ 0 ∷ 0 ∷ 0 ∷ 9 ∷ 0x80 ∷ 0 ∷ 0 ∷ 0 ∷ drop 8 log)
    ≡ ascii "verdicts 5 of 7\n0 no\n1 no\n2 no\n3 yes\n4 yes\n"
unfolding ascii decimal_in verdict_words lines passing spot positions first_entries offset push_kind read header_refusal entries_refusal any all sat run progress settled_to joint_progress byte_of verdicts
serviced = refl

-- the same log with no rule
pub no_rule : report [] log ≡ ascii "refused 1\n"
unfolding ascii decimal_in header_refusal
no_rule = refl

-- numbers of several digits
pub digits : decimal 8190 ++ decimal 0 ≡ ascii "81900"
unfolding ascii decimal_in
digits = refl
