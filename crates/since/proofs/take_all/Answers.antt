-- `since::take_all` meets its contract: both ways of taking do.
use Rattle.since.proofs.take_all.Goals as goal

pub returns-then-low-eq0 : goal.returns-then-low-eq0
returns-then-low-eq0 c = rw c.if-low-eq0.true c.take_word.ensures

pub returns : goal.returns
returns c = c.take_late.ensures
