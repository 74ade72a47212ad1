-- `since::turn_word` meets its contract: what left's last fail leaves, and right's times from there on.
use Rattle.ring.proofs.Cells.{followed}
use Rattle.since.proofs.turn_word.Goals as goal

pub returns : goal.returns
returns c =
    rw (c.saturating_sub-from.ensures, c.find_last_zero-after.ensures.0, c.cells_for.ensures.0)
    at (followed (c.keep_if.ensures c.cells_for.result) c.push_all.ensures)
