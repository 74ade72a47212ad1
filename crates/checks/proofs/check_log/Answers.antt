-- `check_log` meets its contract: each return by the tests that led there.
use mathlib.Core.Bool.{Bool}
use mathlib.Core.Path.{sym, ap, ◌∙◌}
use Rattle.refusal.proofs.Numbers.{handed_on}
use Rattle.checkpoint.specs.Checkpoint.{closed_with}
use Rattle.checks.specs.Refusal.{closes_more, records_refusal}
use Rattle.checks.proofs.Checks.{passed_over, stops, goes_on, version_first, few_records}
use Rattle.checks.proofs.check_log.Goals as goal

pub returns-in_err-check_version : goal.returns-in_err-check_version
returns-in_err-check_version c =
    let a = c.args in
    handed_on c.from_residual.result _ c.from_residual.ensures.1
    ∙ stops _ _ _ c.in_err-check_version.ensures
    ∙ sym (passed_over 20 _ _ c.if-closing-noted.false ∙ version_first a.log.now a.point.now _)

pub total_records-requires : goal.total_records-requires
total_records-requires c = few_records c.args.log.now c.args.point.now 0 c.in_ok-check_version.ensures

pub check_records-requires : goal.check_records-requires
check_records-requires c = (c.requires, few_records c.args.log.now c.args.point.now 0 c.in_ok-check_version.ensures)

pub returns : goal.returns
returns c =
    let a = c.args in
    let log = a.log.now in
    let p = a.point.now in
    let more = c.closes_more-more.ensures ∙ ap (closes_more a.closing (closed_with p)) c.total_records.ensures in
    c.check_records.ensures
    ∙ ap (λ (b : Bool). records_refusal b log p 0) more
    ∙ sym (passed_over 20 _ _ c.if-closing-noted.false ∙ version_first log p _ ∙ goes_on _ _ c.in_ok-check_version.ensures)
