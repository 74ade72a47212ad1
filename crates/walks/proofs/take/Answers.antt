-- `walks::take` meets its contract. Assumes nothing.
use Rattle.walks.proofs.take.Goals as goal

pub returns : goal.returns
returns c = (cc, c.time.ensures.1)
