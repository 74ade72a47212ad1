-- `resume_or_close` meets its contract: a refusal has written nothing, and an accepted call lends `emit` the words that the rule needs.
use mathlib.Core.Path.{sym, ◌∙◌}
use Rattle.std.proofs.lemmas.Result.{err_from_is_err_and}
use Rattle.checks.proofs.Checks.{goes_on}
use Rattle.checks.proofs.Sizes.{open_accepted}
use Rattle.monitor.proofs.Resuming.{resume_refused, resume_given, ready_of}
use Rattle.monitor.proofs.resume_or_close.Goals as goal

pub returns-in_err-check_point : goal.returns-in_err-check_point
returns-in_err-check_point c =
    let a = c.args in
    let d = c.in_ok-admitted.ensures in
    let p = err_from_is_err_and c.from_residual-in_err-check_point.result c.from_residual-in_err-check_point.ensures.1 in
    rw (p.1, p.2)
    (resume_refused a.closing a.rule.now a.log.now a.point.now a.sheet.now c.in_err-check_point.field-0.0
    ((rw (d.version_is, d.entries_are, d.count_is) at c.in_err-check_point.ensures) ∙ sym (goes_on _ _ (open_accepted _ _ _ d))))

pub emit-requires : goal.emit-requires
emit-requires c =
    let a = c.args in
    let d = c.in_ok-admitted.ensures in
    ready_of a.closing a.rule.now a.log.now a.point.now c.in_ok-admitted.admitted d c.ends-ends.result c.ends-ends.ensures
    (sym (rw (d.version_is, d.entries_are, d.count_is) at c.in_ok-check_point.ensures)) c.most_formulas.result c.header_words.result c.depth.result c.most_formulas.ensures c.header_words.ensures c.depth.ensures c.records_from.result.now c.records_from.ensures

pub returns : goal.returns
returns c =
    let a = c.args in
    let d = c.in_ok-admitted.ensures in
    let e = c.emit in
    resume_given a.closing a.rule.now a.log.now a.point.now c.in_ok-admitted.admitted d c.ends-ends.result c.ends-ends.ensures
    (sym (rw (d.version_is, d.entries_are, d.count_is) at c.in_ok-check_point.ensures)) c.most_formulas.result c.header_words.result c.depth.result c.most_formulas.ensures c.header_words.ensures c.depth.ensures a.sheet.now c.records_from.result.now
    c.skips.result e.result e.new.words e.new.sheet c.records_from.ensures c.skips.ensures e.ensures
