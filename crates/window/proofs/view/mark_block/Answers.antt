-- `window::view::mark_block` meets its contract, by the laws of proofs/Marks. Assumes nothing.
use Prim.Native.Nat.{◌%◌, ◌<◌}
use native.Mathlib.Omega.{arith}
use lib.Dec.{ltb}
use borrow.Author.Tests.{ltb-true}
use Rattle.mtl.proofs.Bounded.{and_iff}
use Rattle.bits.proofs.Laws.{power}
use Rattle.window.proofs.Marks.{mark_set}
use Rattle.window.proofs.view.mark_block.Goals as goal
use Rattle.window.proofs.view.mark_block.Goals.{Then-needed-block}

-- the block has a mark
low : (c : Then-needed-block) → c.args.block < 3968
low c = let a = c.args in ltb-true a.block 3968 ((and_iff a.needed (ltb a.block 3968)).0 c.if-needed-block.true).1

pub returns-then-needed-block : goal.returns-then-needed-block
returns-then-needed-block c =
    let a = c.args in
    rw (power (a.block % 64) (omega arith)) (mark_set a.marks.now a.block c.requires a.needed (low (goal.at.returns-then-needed-block c).Then-needed-block))
