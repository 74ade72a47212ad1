-- `havdrims::havdrims_summary` meets its contract: the number is that of the outcome of `summary`.
use Rattle.havdrims.proofs.Outcomes.{summarizing}
use Rattle.havdrims.proofs.havdrims_summary.Goals as goal

pub returns : goal.returns
returns c = summarizing c.summary.result c.summary.ensures c.number.ensures
