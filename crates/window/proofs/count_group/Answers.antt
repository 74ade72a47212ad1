-- `window::count_group` meets its contract. Assumes nothing.
use mathlib.Core.Path.{sym, ◌∙◌}
use Rattle.window.proofs.Windows.{counted_all}
use Rattle.window.proofs.count_group.Goals as goal

pub returns-else-group_has_service : goal.returns-else-group_has_service
returns-else-group_has_service c =
    let a = c.args in
    counted_all a.records.now a.from a.n (sym c.group_has_service.ensures ∙ c.if-group_has_service.false)
