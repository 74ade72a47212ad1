-- `havdrims::havdrims_tally` meets its contract: the number is that of the outcome of `tally`.
use Rattle.havdrims.proofs.Outcomes.{tallying}
use Rattle.havdrims.proofs.havdrims_tally.Goals as goal

pub returns : goal.returns
returns c = tallying c.tally.result c.tally.ensures c.number.ensures
