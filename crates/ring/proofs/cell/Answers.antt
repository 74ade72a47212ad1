-- `ring::cell` meets its contract: past the last cell comes the first again.
use native.Mathlib.Omega.{arith}
use Rattle.ring.proofs.Cells.{wrap_low, wrap_high}
use Rattle.ring.proofs.cell.Goals as goal

pub returns-then-at-cells : goal.returns-then-at-cells
returns-then-at-cells c = let e = wrap_low c.args.cells c.args.at (omega arith) in omega arith

pub returns-then-over-cells : goal.returns-then-over-cells
returns-then-over-cells c = let e = wrap_high c.args.cells c.args.at (omega arith) in omega arith
