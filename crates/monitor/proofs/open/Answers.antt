-- `open` meets its contract: what `fresh::write` leaves stands for the rule on a log with no record.
use native.Mathlib.Omega.{arith}
use Rattle.monitor.proofs.Starts.{opens_done}
use Rattle.monitor.proofs.open.Goals as goal

pub returns : goal.returns
returns c =
    let a = c.args in
    let d = c.in_ok-admitted.ensures in
    let w = c.write in
    opens_done a.rule.now a.point.now w.new.words _ d.accepted d.room (omega (arith, d.words_are)) w.auto.words
    (rw (d.version_is, d.entries_are, d.count_is) at w.ensures)
