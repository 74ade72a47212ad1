-- `window::view::View::of` meets its contract: what is known of the log, and the marks. Assumes nothing.
use native.Mathlib.Omega.{arith}
use Rattle.trace.specs.Format.{record_count}
use Rattle.trace.proofs.Positions.{before_few}
use Rattle.window.proofs.view.View.of.Goals as goal

pub overflow_add-result : goal.overflow_add-result
overflow_add-result c =
    let a = c.args in
    omega (arith, c.mark_positions-positions.ensures.0, before_few a.skips a.records.now (record_count a.records.now), c.requires)
