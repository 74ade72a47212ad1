-- `ring::keep_if` meets its contract.
use native.Mathlib.Omega.{arith}
use Rattle.blocks.specs.Ring.{kept}
use Rattle.ring.proofs.Cells.{emptied, unwritten}
use Rattle.ring.proofs.keep_if.Goals as goal

pub returns-then-not-left : goal.returns-then-not-left
returns-then-not-left c = λ cells. rw c.if-not-left.true (emptied cells c.args.block.now (omega arith))

pub returns-else-not-left : goal.returns-else-not-left
returns-else-not-left c = λ cells. unwritten cells (kept c.args.left) c.args.block.now (λ qs r. rw c.if-not-left.false)
