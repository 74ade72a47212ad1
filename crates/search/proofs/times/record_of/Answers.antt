-- `search::times::record_of` meets its contract.
use Rattle.search.proofs.Showing.{found_place}
use Rattle.search.proofs.times.record_of.Goals as goal

pub returns : goal.returns
returns c L whole h =
    let a = c.args in
    found_place a.view.now a.records.now L whole a.i c.saturating_sub-behind.result c.find.result h c.saturating_sub-behind.ensures c.find.ensures
