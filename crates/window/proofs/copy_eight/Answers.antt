-- `window::copy_eight` meets its contract: pair by pair. Assumes nothing.
use Rattle.window.proofs.Windows.{transcribed_more}
use Rattle.window.proofs.copy_eight.Goals as goal

pub returns : goal.returns
returns c =
    let a = c.args in
    let s = a.records.now in
    let two = c.copy_pair.ensures in
    let four = transcribed_more s a.from 2 2 a.k two c.copy_pair-2.ensures in
    let six = transcribed_more s a.from 4 2 a.k four c.copy_pair-3.ensures in
    transcribed_more s a.from 6 2 a.k six c.copy_pair-4.ensures
