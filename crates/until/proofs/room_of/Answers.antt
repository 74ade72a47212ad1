-- `until::room_of` meets its contract. Assumes nothing.
use Rattle.until.proofs.Steps.{room}
use Rattle.until.proofs.room_of.Goals as goal

pub returns : goal.returns
returns c =
    room c.args.block.now c.args.total c.requires.2 (rw c.min-both.ensures at c.available-take.ensures.0) c.available-take.ensures.1 c.min.ensures c.min-2.ensures
