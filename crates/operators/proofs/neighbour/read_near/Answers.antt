-- `operators::neighbour::read_near` meets its contract. Assumes nothing.
use Rattle.operators.proofs.neighbour.read_near.Goals as goal

pub read-requires : goal.read-requires
read-requires c = c.requires.2

pub near-requires : goal.near-requires
near-requires c = let pre = c.requires in (rw c.read.ensures pre.1, pre.0)

pub returns : goal.returns
returns c = rw c.read.ensures at c.near.ensures
