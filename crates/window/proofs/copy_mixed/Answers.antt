-- `window::copy_mixed` meets its contract: the first i are copied. Assumes nothing.
use native.Mathlib.Omega.{arith}
use Rattle.window.proofs.Windows.{copied_on}
use Rattle.window.proofs.copy_mixed.Goals as goal

pub loop-i-preserved : goal.loop-i-preserved
loop-i-preserved c =
    let a = c.args in
    let l = c.loop-i in
    let copied = l.invariant in
    let few = copied.counted.few in
    let long = copied.long in
    copied_on a.records.now a.from a.copy.now a.k l.i l.copied c.service.result l.copy c.copy_record.new.copy
    (omega arith) (omega arith) c.service.ensures.0 c.copy_record.ensures copied
