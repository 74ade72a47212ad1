-- `blocks::take_right` meets its contract: the word put last is what `rest` gives. Assumes nothing.
use native.Mathlib.Omega.{arith}
use lib.ListN.{length-set}
use Rattle.blocks.proofs.take_right.Goals as goal

pub bounds-block-3-2 : goal.bounds-block-3-2
bounds-block-3-2 c = simp length-set (omega arith)

pub bounds-block-4-2 : goal.bounds-block-4-2
bounds-block-4-2 c = simp length-set (omega arith)

pub returns : goal.returns
returns c = rw c.rest-bits.ensures
