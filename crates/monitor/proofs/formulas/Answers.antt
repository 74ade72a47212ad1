-- `formulas` meets its contract: the formulas of an accepted rule are counted by where they end.
use mathlib.Core.Path.{◌≡◌, ◌∙◌}
use Rattle.rule.specs.Entries.{version, count, decoded}
use Rattle.rule.specs.Measure.{measured}
use Rattle.rule.specs.Contract.{measured_entries}
use Rattle.rule.proofs.Outcome.{passes_with}
use Rattle.monitor.proofs.Summarizing.{columns_are, formulas_told}
use Rattle.monitor.proofs.formulas.Goals as goal

pub returns : goal.returns
returns c =
    let s = c.args.rule.now in
    let d = c.in_ok-rule.ensures in
    let m = c.in_ok-measure.field-0 in
    let all : measured_entries (version s) (decoded s) (count s) ≡ measured s = simp d.accepted in
    let fine = (passes_with s m ((rw (d.version_is, d.entries_are, d.count_is) at c.in_ok-measure.ensures) ∙ all)).accepted in
    formulas_told s fine c.columns_of.result
    (columns_are s fine _ _ d.entries_are d.count_is c.ends-ends.result c.ends-ends.ensures _ c.columns_of.ensures)
