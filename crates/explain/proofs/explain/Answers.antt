-- `explain::explain` meets its contract: a rule and a log that are not refused, and the reason.
use mathlib.Core.Path.{◌≡◌, sym, ◌∙◌}
use Rattle.rule.specs.Entries.{version, count, decoded}
use Rattle.rule.specs.Refusal.{refusal}
use Rattle.rule.specs.Measure.{measured}
use Rattle.rule.specs.Contract.{measured_entries}
use Rattle.rule.proofs.Outcome.{passes_with}
use Rattle.rule.proofs.Acceptance.{accepted}
use Rattle.engine.specs.Tops.{Ended}
use Rattle.meaning.specs.Verdicts.{formulas_of}
use Rattle.monitor.proofs.Meaning.{rule_ended}
use Rattle.explain.proofs.Calling.{log_passes, explained}
use Rattle.explain.proofs.explain.Goals as goal
use Rattle.explain.proofs.explain.Goals.{After-ends-ends}

-- the rule is not refused
fine : (c : After-ends-ends) → refusal c.args.rule.now ≡ 0
fine c =
    let s = c.args.rule.now in
    let d = c.in_ok-rule.ensures in
    let all : measured_entries (version s) (decoded s) (count s) ≡ measured s = simp d.accepted in
    (passes_with s c.in_ok-measure.field-0 ((rw (d.version_is, d.entries_are, d.count_is) at c.in_ok-measure.ensures) ∙ all)).accepted

-- and its formulas end where `ends` says
ended : (c : After-ends-ends) →
    let r = c.in_ok-rule.rule in
    Ended r.entries r.count c.ends-ends.result.at c.ends-ends.result.number (formulas_of c.args.rule.now)
ended c =
    let d = c.in_ok-rule.ensures in
    rw (d.entries_are, d.count_is) (rule_ended c.args.rule.now (fine c) c.ends-ends.result (rw (d.entries_are, d.count_is) at c.ends-ends.ensures))

pub copy_reason-requires : goal.copy_reason-requires
copy_reason-requires c =
    let a = c.args in
    let rule = a.rule.now in
    let d = c.in_ok-rule.ensures in
    let at = (goal.at.copy_reason-requires c).After-ends-ends in
    let well = log_passes rule a.log.now a.formula a.position a.text.now (sym c.in_ok-check_log.ensures) in (
      rw (d.entries_are, d.count_is) (accepted rule (fine at)).well_formed,
      rw c.records.ensures well.0,
      (formulas_of rule, ended at),
    )

pub returns : goal.returns
returns c =
    let a = c.args in
    let rule = a.rule.now in
    let at = (goal.at.returns c).After-ends-ends in
    let passes = sym c.in_ok-check_log.ensures in
    let well = log_passes rule a.log.now a.formula a.position a.text.now passes in
    let copies = c.copy_reason.ensures (formulas_of rule) (ended at) (rw c.records.ensures well.1) in
    explained rule a.log.now a.formula a.position a.text.now (fine at) passes c.copy_reason.result c.copy_reason.new.text (rw (c.records.ensures, c.skips.ensures) at copies)
