-- `engine::layout::first_entry` meets its contract: by the operands that the kind takes.
use mathlib.Core.Path.{sym, ◌∙◌}
use Rattle.engine.proofs.layout.first_entry.Goals as goal

pub returns-then-takes_left : goal.returns-then-takes_left
returns-then-takes_left c =
    let t = sym c.takes_left.ensures ∙ c.if-takes_left.true in
    rw (t, c.left_entry.ensures)

pub returns-then-takes_right : goal.returns-then-takes_right
returns-then-takes_right c =
    let f = sym c.takes_left.ensures ∙ c.if-takes_left.false in
    let t = sym c.takes_right.ensures ∙ c.if-takes_right.true in
    rw (f, t, c.one_less.ensures)

pub returns-else-takes_right : goal.returns-else-takes_right
returns-else-takes_right c =
    let f = sym c.takes_left.ensures ∙ c.if-takes_left.false in
    let g = sym c.takes_right.ensures ∙ c.if-takes_right.false in
    rw (f, g)
