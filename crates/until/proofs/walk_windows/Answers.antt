-- `until::walk_windows` meets its contract: a walk over the windows' records. Assumes nothing.
use native.Mathlib.Omega.{arith}
use Rattle.until.proofs.walk_windows.Goals as goal

pub read-next-requires : goal.read-next-requires
read-next-requires c = c.requires.has_records.0.inside

pub next_time-after-requires : goal.next_time-after-requires
next_time-after-requires c =
    rw c.read-next.ensures c.requires.has_records.0.long

pub read-requires : goal.read-requires
read-requires c = c.requires.has_records.1.inside

pub walk_words-requires : goal.walk_words-requires
walk_words-requires c =
    let gap = c.saturating_sub in
    let starts = c.read in
    let next = c.read-next in
    let pre = c.requires in
    let long = pre.has_records.0.long in
    (pre.in_bounds.1, rw next.ensures (omega arith), rw gap.ensures pre.in_bounds.3, rw (gap.ensures, starts.ensures, c.either.ensures) pre.has_records.1.long)

pub returns : goal.returns
returns c =
    rw (c.last_of.ensures, c.saturating_sub.ensures, c.read.ensures, c.either.ensures, c.next_time-after.ensures, c.time_of_none.ensures, c.read-next.ensures)
    at c.walk_words.ensures
