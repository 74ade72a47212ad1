-- `window::pick_one` meets its contract. Assumes nothing.
use Rattle.window.proofs.Picking.{picks_one}
use Rattle.window.proofs.pick_one.Goals as goal

pub returns : goal.returns
returns c =
    let a = c.args in
    picks_one a.records.now a.letter a.i c.service-count.result c.letter_group.result c.requires.0
    c.service-count.ensures.0 c.letter_group.ensures
