-- `window::copy_group` meets its contract: what was copied first are the positions, or it is written over. Assumes nothing.
use mathlib.Core.Path.{sym, ◌∙◌}
use Rattle.window.proofs.Windows.{copied_plain}
use Rattle.window.proofs.copy_group.Goals as goal

pub returns-else-group_has_service : goal.returns-else-group_has_service
returns-else-group_has_service c =
    let a = c.args in
    copied_plain a.records.now a.from 8 a.k c.copy_eight.ensures c.requires.0
    (sym c.group_has_service.ensures ∙ c.if-group_has_service.false)
