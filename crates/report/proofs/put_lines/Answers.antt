-- `report::put_lines` meets its contract.
use native.Mathlib.Numerals.{add-one}
use native.Mathlib.Omega.{arith}
use Rattle.decimal.proofs.Texts.{puts_none, puts_more}
use Rattle.report.specs.Report.{lines}
use Rattle.report.proofs.put_lines.Goals as goal

pub loop-i-init : goal.loop-i-init
unfolding lines
loop-i-init c = puts_none _ (omega arith)

pub loop-i-preserved : goal.loop-i-preserved
unfolding lines
loop-i-preserved c = rw (add-one c.loop-i.i) (puts_more c.loop-i.invariant c.put_line.ensures)
