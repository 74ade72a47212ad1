-- `until::walk_ahead` meets its contract: `walk_inside` on the window's records. Assumes nothing.
use Rattle.until.proofs.walk_ahead.Goals as goal

pub read-requires : goal.read-requires
read-requires c = c.requires.4.inside

pub walk_inside-requires : goal.walk_inside-requires
walk_inside-requires c =
    let pre = c.requires in
    (pre.1, pre.2, rw c.read.ensures pre.4.long, rw c.saturating_sub.ensures pre.3)

pub returns : goal.returns
returns c =
    record {
      by_index = simp (c.saturating_sub.ensures, c.read.ensures) at c.walk_inside.ensures.by_index;
      fact = simp (c.saturating_sub.ensures, c.read.ensures) at c.walk_inside.ensures.fact;
    }
