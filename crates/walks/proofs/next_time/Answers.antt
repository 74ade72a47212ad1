-- `walks::next_time` meets its contract: each return rewrites the definition with the test that led there. Assumes nothing.
use borrow.Author.Tests.{lt-ltb, le-ltb}
use Rattle.walks.proofs.next_time.Goals as goal

pub returns-then-i-end : goal.returns-then-i-end
returns-then-i-end c = simp (lt-ltb _ _ c.if-i-end.true, c.time.ensures.0)

pub returns-else-i-end : goal.returns-else-i-end
returns-else-i-end c = simp (le-ltb _ _ c.if-i-end.false)
