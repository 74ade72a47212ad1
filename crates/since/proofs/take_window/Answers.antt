-- `since::take_window` meets its contract: the window's own bytes are turned over.
use Rattle.since.proofs.take_window.Goals as goal

pub read-read-requires : goal.read-read-requires
read-read-requires c = c.requires.2

pub take_all-requires : goal.take_all-requires
take_all-requires c =
    let pre = c.requires in
    (pre.0, pre.1, pre.4, rw c.read-read.ensures pre.3, pre.5)

pub returns : goal.returns
returns c = rw c.read-read.ensures at c.take_all.ensures
