-- `check_point` meets its contract: the refusals of the words come first, then those of the log.
use mathlib.Core.Path.{sym, ◌∙◌}
use Rattle.refusal.proofs.Numbers.{handed_on}
use Rattle.checks.specs.Refusal.{log_refusal}
use Rattle.checks.proofs.Checks.{stops, goes_on, words_first}
use Rattle.checks.proofs.check_point.Goals as goal

pub returns-in_err-check_words : goal.returns-in_err-check_words
returns-in_err-check_words c =
    let a = c.args in
    let r = a.rule.now in
    handed_on c.from_residual.result _ c.from_residual.ensures.1
    ∙ stops _ _ (log_refusal a.closing a.log.now a.point.now) c.in_err-check_words.ensures
    ∙ sym (words_first r.version r.entries r.count a.point.now _)

pub returns : goal.returns
returns c =
    let a = c.args in
    let r = a.rule.now in
    c.check_log.ensures ∙ sym (words_first r.version r.entries r.count a.point.now _ ∙ goes_on _ _ c.in_ok-check_words.ensures)
