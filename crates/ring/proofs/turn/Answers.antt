-- `ring::turn` meets its contract: what its parts do to the list, one after the other.
use Rattle.blocks.specs.Ring.{turned}
use Rattle.ring.proofs.Cells.{followed}
use Rattle.ring.proofs.turn.Goals as goal

pub returns : goal.returns
returns c =
    let a = c.args in
    let d = c.drop_old in
    let k = c.keep_if in
    let p = c.push_if in
    let all = followed (followed d.ensures (k.ensures a.cells)) p.ensures in
    record { rings = all; by_index = λ qs r. c.reaches_back.ensures (turned a.cells a.high a.left a.right a.at qs) (all.ring qs r) }
