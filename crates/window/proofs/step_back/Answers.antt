-- `window::step_back` meets its contract: from record `at` on stand as many positions as were counted, and the last one
-- counted stands there. Assumes nothing.
use Prim.Native.Nat.{◌<◌}
use Rattle.window.proofs.Windows.{back_on, back_found, goes_on, stops}
use Rattle.window.proofs.step_back.Goals as goal
use Rattle.window.proofs.step_back.Goals.{In-loop-left}

-- what the loop's test says
goes : (c : In-loop-left) → (0 < c.loop-left.left) × (0 < c.loop-left.at)
goes c = goes_on 0 c.loop-left.left 0 c.loop-left.at c.loop-left-test.true

pub loop-left-preserved : goal.loop-left-preserved
loop-left-preserved c =
    let a = c.args in
    let l = c.loop-left in
    let (some, inside) = goes (goal.at.loop-left-preserved c).In-loop-left in
    back_on a.records.now a.n l.left l.at c.service.result l.invariant some inside c.service.ensures.0 c.service.ensures.1

pub returns : goal.returns
returns c =
    let a = c.args in
    let l = c.loop-left in
    back_found a.records.now a.n l.left l.at l.invariant (stops 0 l.left 0 l.at c.loop-left-test.false)
