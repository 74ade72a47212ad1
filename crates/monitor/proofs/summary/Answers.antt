-- `summary` meets its contract: the counts are read where no refusal is met.
use mathlib.Core.Path.{◌≡◌, sym, ◌∙◌}
use native.Mathlib.Omega.{arith}
use Rattle.checks.specs.Refusal.{summary_refusal}
use Rattle.checks.proofs.Checks.{goes_on}
use Rattle.checks.proofs.Sizes.{open_accepted}
use Rattle.meaning.specs.Verdicts.{formulas_of, columns}
use Rattle.monitor.proofs.Summarizing.{columns_are, counts_fit, summary_told}
use Rattle.monitor.proofs.summary.Goals as goal
use Rattle.monitor.proofs.summary.Goals.{After-columns_of-formulas}

-- no refusal was met
fine : (c : After-columns_of-formulas) → summary_refusal c.args.rule.now c.args.point.now ≡ 0
fine c =
    let d = c.in_ok-admitted.ensures in
    goes_on _ _ (open_accepted _ _ _ d) ∙ sym (rw (d.version_is, d.entries_are, d.count_is) at c.in_ok-check_words.ensures)

columns_for : (c : After-columns_of-formulas) → c.columns_of-formulas.result ≡ columns (formulas_of c.args.rule.now)
columns_for c =
    let d = c.in_ok-admitted.ensures in
    columns_are c.args.rule.now d.accepted _ _ d.entries_are d.count_is c.ends-ends.result c.ends-ends.ensures _ c.columns_of-formulas.ensures

pub write_noes-requires : goal.write_noes-requires
write_noes-requires c =
    let a = c.args in
    let d = c.in_ok-admitted.ensures in
    let at = (goal.at.write_noes-requires c).After-columns_of-formulas in
    let fit = counts_fit a.rule.now a.point.now (fine at) _ d.version_is c.columns_of-formulas.result (columns_for at) in
    omega (arith, fit, c.most_formulas.ensures)

pub returns : goal.returns
returns c =
    let a = c.args in
    let d = c.in_ok-admitted.ensures in
    let w = c.write_noes in
    let at = (goal.at.returns c).After-columns_of-formulas in
    summary_told a.rule.now a.point.now (fine at) a.no.now a.latest.now w.new.no w.new.latest _ d.version_is c.columns_of-formulas.result (columns_for at)
    (w.ensures.no_after, rw c.most_formulas.ensures at w.ensures.latest_after)
