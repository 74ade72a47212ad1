-- `report::run` meets its contract: each of the three calls by one law.
use native.Mathlib.Omega.{arith}
use mathlib.Core.Path.{refl}
use Rattle.std.proofs.lemmas.Result.{err_from_is_err_and}
use Rattle.report.proofs.Runs.{not_opened, not_resumed, resumed}
use Rattle.report.proofs.run.Goals as goal

pub returns-in_err-open : goal.returns-in_err-open
returns-in_err-open c =
    let a = c.args in
    let p = err_from_is_err_and c.from_residual.result c.from_residual.ensures.1 in
    rw (p.1, p.2) (not_opened a.rule.now a.log.now c.requires _ c.open.new.point c.in_err-open.field-0.0 refl c.in_err-open.ensures).0

pub returns-in_err-emitted : goal.returns-in_err-emitted
returns-in_err-emitted c =
    let a = c.args in
    let p = err_from_is_err_and c.from_residual-in_err-emitted.result c.from_residual-in_err-emitted.ensures.1 in
    rw (p.1, p.2)
    (not_resumed a.rule.now a.log.now c.requires _ c.open.new.point refl c.in_ok-open.ensures a.sheet.now c.resume.new.point c.resume.new.sheet
    c.in_err-emitted.field-0.0 c.in_err-emitted.ensures).0

pub returns : goal.returns
returns c =
    let a = c.args in
    let e = c.in_ok-emitted in
    (resumed a.rule.now a.log.now c.requires _ c.open.new.point refl c.in_ok-open.ensures a.sheet.now c.resume.new.point c.resume.new.sheet
    e.emitted.count e.emitted.more e.ensures (omega arith) c.in_ok-columns.columns c.in_ok-columns.ensures).ran
