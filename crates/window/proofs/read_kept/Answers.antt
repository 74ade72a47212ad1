-- `window::read_kept` meets its contract, by the laws of proofs/Copies. Assumes nothing.
use Rattle.window.proofs.Copies.{lettered_held}
use Rattle.window.proofs.read_kept.Goals as goal

pub returns : goal.returns
returns c =
    let hold = c.hold-held in
    let a = c.args in
    let letters = c.letter_bits-bits in record { lettered = lettered_held a.records.now a.letter a.at a.n hold.new.copy.bytes hold.result letters.result c.behind_some-end.result c.requires.0 hold.ensures.held letters.ensures c.behind_some-end.ensures; keeps = hold.ensures.keeps }
