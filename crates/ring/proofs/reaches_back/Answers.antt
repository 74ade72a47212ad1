-- `ring::reaches_back` meets its contract.
use native.Mathlib.Omega.{arith}
use Rattle.ring.proofs.Cells.{oldest}
use Rattle.ring.proofs.reaches_back.Goals as goal

pub returns : goal.returns
returns c =
    let a = c.args in
    oldest a.cells a.block.now c.min-start.result c.cell.result a.low a.at c.saturating_sub.result
    (λ h. omega arith)
    (c.cell.ensures.2 (omega arith))
    c.saturating_sub.ensures
