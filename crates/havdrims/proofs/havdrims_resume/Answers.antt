-- `havdrims::havdrims_resume` meets its contract: the outcome of `resume`, handed over.
use Rattle.havdrims.proofs.Outcomes.{resuming}
use Rattle.havdrims.proofs.havdrims_resume.Goals as goal

pub returns : goal.returns
returns c = resuming c.resume.ensures c.hand_over.ensures
