-- `until::tells` meets its contract: what `by_first` says of the window's records. Assumes nothing.
use Rattle.until.proofs.tells.Goals as goal

pub read-requires : goal.read-requires
read-requires c = c.requires.1.inside

pub by_first-requires : goal.by_first-requires
by_first-requires c =
    rw c.read.ensures c.requires.1.long

pub returns : goal.returns
returns c e starts first =
    rw (c.last_of.ensures, c.saturating_sub.ensures, c.read.ensures) at (c.by_first.ensures e starts first)
