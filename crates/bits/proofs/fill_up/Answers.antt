-- `bits::fill_up` meets its contract: with each turn of the loop it has looked twice as far. Assumes nothing.
use native.Mathlib.Omega.{arith}
use borrow.Author.Tests.{ltb-false}
use Rattle.bits.proofs.Filling.{from_top, filling_one, up_more, up_filled}
use Rattle.bits.proofs.fill_up.Goals as goal

pub loop-far-init : goal.loop-far-init
loop-far-init c = let a = c.args in (omega arith, omega arith, filling_one (from_top a.left) (from_top a.right))

pub loop-far-preserved : goal.loop-far-preserved
loop-far-preserved c =
    let a = c.args in
    let l = c.loop-far in
    (omega arith, omega arith, up_more a.left a.right l.far l.found l.held l.invariant.2)

pub returns : goal.returns
returns c =
    let a = c.args in
    let l = c.loop-far in
    up_filled a.left a.right l.far l.found l.held (omega (arith, ltb-false)) l.invariant.2
