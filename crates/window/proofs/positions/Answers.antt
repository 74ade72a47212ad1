-- `window::positions` meets its contract: the count of the log's kind. Assumes nothing.
use mathlib.Core.Path.{ap, ◌∙◌}
use Rattle.trace.specs.Positions.{positions}
use Rattle.window.proofs.Windows.{counted_whole}
use Rattle.window.proofs.positions.Goals as goal

pub returns-then-skips : goal.returns-then-skips
returns-then-skips c =
    let s = c.args.records.now in
    let n = c.count in
    rw c.if-skips.true (counted_whole s n.result c.count_many.result c.count_many.ensures ∙ ap (positions s) n.ensures)
