-- `window::is_clear` meets its contract: a service record's block is marked. Assumes nothing.
use mathlib.Core.Path.{sym, ◌∙◌}
use Rattle.window.proofs.Marks.{clear, not_clear}
use Rattle.window.proofs.is_clear.Goals as goal

pub returns-then-has_room : goal.returns-then-has_room
returns-then-has_room c =
    let a = c.args in
    let x = c.is_marked in
    let y = c.is_marked-then-has_room in
    let fits = sym c.has_room.ensures ∙ c.if-has_room.true in (
      clear a.view.now a.records.now a.from a.n c.requires.0 c.requires.1 x.result y.result x.ensures y.ensures fits,
      λ e inside some. not_clear a.view.now a.records.now a.from a.n c.requires.0 c.requires.1 x.result y.result x.ensures y.ensures e,
    )
