-- `walks::settle` meets its contract: each return rewrites the definition with the test that led there. Assumes nothing.
use Rattle.walks.proofs.settle.Goals as goal

pub returns-then-met-over : goal.returns-then-met-over
returns-then-met-over c = simp (← c.saturating_sub.ensures, ← c.saturating_sub-2.ensures, c.if-met-over.true)

pub returns-else-met-over : goal.returns-else-met-over
returns-else-met-over c = simp (← c.saturating_sub.ensures, ← c.saturating_sub-2.ensures, c.if-met-over.false)
