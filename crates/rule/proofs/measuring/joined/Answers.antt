-- `measuring::joined` meets its contract: the test on the kind is that of `Joined-by`.
use native.Mathlib.Omega.{arith}
use borrow.Author.Tests.{eq-eqb, ne_eqb}
use borrow.Author.Rules.{rules}
use Rattle.rule.proofs.measuring.joined.Goals as goal

pub returns-then-e-eq0 : goal.returns-then-e-eq0
returns-then-e-eq0 c = search (rules, eq-eqb)

pub returns-else-e-eq0 : goal.returns-else-e-eq0
returns-else-e-eq0 c = (
  simp (ne_eqb _ _ c.if-e-eq0.false, c.added.ensures.0, c.max.ensures),
  omega (arith, c.added.ensures, c.max.ensures),
)
