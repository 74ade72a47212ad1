-- `havdrims::havdrims_close` meets its contract: the outcome of `close`, handed over.
use Rattle.havdrims.proofs.Outcomes.{resuming}
use Rattle.havdrims.proofs.havdrims_close.Goals as goal

pub returns : goal.returns
returns c = resuming c.close.ensures c.hand_over.ensures
