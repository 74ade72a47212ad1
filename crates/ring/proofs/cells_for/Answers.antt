-- `ring::cells_for` meets its contract: one cell without upper end.
use native.Mathlib.Omega.{arith}
use borrow.Author.Tests.{eq-eqb, ne_eqb}
use Rattle.mtl.specs.Formula.{unbounded}
use Rattle.ring.proofs.cells_for.Goals as goal

pub returns-then-high-eq4294967295 : goal.returns-then-high-eq4294967295
returns-then-high-eq4294967295 c = rw (eq-eqb c.args.high unbounded (omega arith)) (omega arith)

pub returns-else-high-eq4294967295 : goal.returns-else-high-eq4294967295
returns-else-high-eq4294967295 c = rw (ne_eqb c.args.high unbounded (omega arith)) (omega arith)
