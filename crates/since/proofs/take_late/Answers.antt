-- `since::take_late` meets its contract: both ways of taking do.
use Rattle.since.proofs.Turn.{turns_take}
use Rattle.since.proofs.take_late.Goals as goal

pub take_inside-requires : goal.take_inside-requires
take_inside-requires c =
    let pre = c.requires in
    (pre.0, pre.1, pre.2, pre.3, pre.4, pre.5, rw (c.saturating_sub.ensures, c.time-2.ensures.0, c.unwrap_or-first.ensures, c.time.ensures.0) at c.if-saturating_sub-high.true)

pub returns-then-saturating_sub-high : goal.returns-then-saturating_sub-high
returns-then-saturating_sub-high c =
    let held = rw c.cells_for.ensures.0 at c.oldest-oldest.ensures in
    c.take_inside.ensures (λ qs r. (held.value _ qs r, held.some qs r))

pub returns : goal.returns
returns c = turns_take c.turn_all.ensures
