-- `window::gather` meets its contract, by the laws of proofs/Windows on passing and copying.
-- Assumes nothing.
use Prim.Native.Nat.{◌+◌, ◌≤◌}
use native.Mathlib.Omega.{arith}
use Rattle.window.proofs.Windows.{ended, gathering_group, gathered}
use Rattle.window.proofs.gather.Goals as goal
use Rattle.window.proofs.gather.Goals.{In-loop-copy, In-loop-copy-2}

-- what the loops' tests say
fits : (c : In-loop-copy) → (c.loop-copy.k + 8 ≤ 65) × (c.loop-copy.at + 8 ≤ c.count-end.result)
fits c = omega (arith, c.can_take.ensures.0 c.loop-copy-test.true, c.loop-copy.invariant.going.few)

fits_2 : (c : In-loop-copy-2) →
    (c.loop-copy-2.k + 1 ≤ 65) × (c.loop-copy-2.at + 1 ≤ c.count-end.result)
fits_2 c = omega (arith, c.can_take-in-loop-copy-2.ensures.0 c.loop-copy-2-test.true, c.loop-copy-2.invariant.going.few)

pub loop-copy-preserved : goal.loop-copy-preserved
loop-copy-preserved c =
    let a = c.args in
    let l = c.loop-copy in
    let (few, inside) = fits (goal.at.loop-copy-preserved c).In-loop-copy in
    let g = c.copy_group-k in
    gathering_group a.records.now a.from l.k l.at 8 g.result l.copy g.new.copy l.invariant few (omega arith) g.ensures

pub loop-copy-2-preserved : goal.loop-copy-2-preserved
loop-copy-2-preserved c =
    let a = c.args in
    let l = c.loop-copy-2 in
    let (few, inside) = fits_2 (goal.at.loop-copy-2-preserved c).In-loop-copy-2 in
    let g = c.copy_mixed-k in
    gathering_group a.records.now a.from l.k l.at 1 g.result l.copy g.new.copy l.invariant few (omega arith) g.ensures

pub returns : goal.returns
returns c =
    let a = c.args in
    let l = c.loop-copy-2 in
    gathered a.records.now a.from l.k l.at l.copy l.invariant
    (ended (c.can_take-in-loop-copy-2.ensures.1 c.loop-copy-2-test.false) (omega arith))
