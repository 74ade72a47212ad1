-- `window::is_position` meets its contract, by the laws of proofs/Windows. Assumes nothing.
use mathlib.Core.Path.{sym, ◌∙◌}
use Rattle.window.specs.View.{skips}
use Rattle.window.proofs.Windows.{position_dense}
use Rattle.window.proofs.is_position.Goals as goal

pub returns-then-has_room : goal.returns-then-has_room
returns-then-has_room c =
    let a = c.args in
    position_dense (skips a.view.now) a.records.now a.at c.service.result (sym c.has_room.ensures ∙ c.if-has_room.true) c.service.ensures.0
