-- `blocks::take_both` meets its contract: the right buffer first, and then the left one alike. Assumes nothing.
use native.Mathlib.Omega.{arith}
use lib.ListN.{length-set}
use Rattle.blocks.proofs.take_both.Goals as goal

pub bounds-block-2-2 : goal.bounds-block-2-2
bounds-block-2-2 c = simp length-set (omega arith)

pub returns : goal.returns
returns c = rw (c.take_right.ensures, c.rest-bits.ensures)
