-- `window::count_mixed` meets its contract: the first i are counted. Assumes nothing.
use Rattle.window.proofs.Windows.{counted_on}
use Rattle.window.proofs.count_mixed.Goals as goal

pub loop-i-preserved : goal.loop-i-preserved
loop-i-preserved c =
    let a = c.args in
    let l = c.loop-i in
    counted_on a.records.now a.from l.i l.found c.service.result c.service.ensures.0 l.invariant
