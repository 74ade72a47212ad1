-- `later_end` meets its contract: the test is the one that the definition makes.
use borrow.Author.Tests.{eq-eqb, ne_eqb}
use Rattle.held.proofs.later_end.Goals as goal

pub returns-then-last-eq0 : goal.returns-then-last-eq0
returns-then-last-eq0 c = rw (eq-eqb _ _ c.if-last-eq0.true)

pub returns-else-last-eq0 : goal.returns-else-last-eq0
returns-else-last-eq0 c = rw (ne_eqb _ _ c.if-last-eq0.false)
