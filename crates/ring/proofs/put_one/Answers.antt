-- `ring::put_one` meets its contract.
use native.Mathlib.Omega.{arith}
use lib.ListN.{length-set}
use Rattle.ring.proofs.Cells.{put_alone}
use Rattle.ring.proofs.put_one.Goals as goal

pub bounds-block-10 : goal.bounds-block-10
bounds-block-10 c = let a = c.args in omega (arith, length-set a.block.now 9 0)

pub returns : goal.returns
returns c = let a = c.args in put_alone a.block.now a.some c.flag.result a.time c.flag.ensures (omega arith)
