-- `window::pick_group` meets its contract. Assumes nothing.
use mathlib.Core.Path.{sym, ◌∙◌}
use Rattle.window.proofs.Picking.{picks_plain}
use Rattle.window.proofs.pick_group.Goals as goal

pub returns : goal.returns
returns c =
    let a = c.args in
    let group = c.letter_group-bits in
    picks_plain a.records.now a.letter a.from a.n group.result c.requires.0
    (sym c.group_has_service.ensures ∙ c.if-group_has_service.false) group.ensures
