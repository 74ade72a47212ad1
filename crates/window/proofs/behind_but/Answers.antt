-- `window::behind_but` meets its contract: what is passed from the end down is counted. Assumes nothing.
use native.Mathlib.Omega.{arith}
use Rattle.window.proofs.Windows.{down_on, down_here}
use Rattle.window.proofs.behind_but.Goals as goal

pub loop-at-preserved : goal.loop-at-preserved
loop-at-preserved c =
    let a = c.args in
    let l = c.loop-at in
    let here = c.service-here in
    down_on a.records.now a.from a.end a.n l.left l.at l.invariant here.result (omega arith) here.ensures.0 here.ensures.1 (omega arith)

pub returns-then-left-here : goal.returns-then-left-here
returns-then-left-here c =
    let a = c.args in
    let l = c.loop-at in
    let here = c.service-here in
    down_here a.records.now a.from a.end a.n l.left l.at l.invariant (omega arith) here.result (omega arith) here.ensures.0 here.ensures.1 (omega arith)
