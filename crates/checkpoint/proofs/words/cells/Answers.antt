-- `check::cells` meets its contract: a since's words are 16 and its ring's cells.
use Prim.Native.Nat.{ℕ, ◌-◌}
use native.Mathlib.Omega.{arith}
use mathlib.Core.Path.{ap, ◌∙◌}
use borrow.Author.Tests.{ne_eqb}
use Rattle.rule.proofs.Spans.{own_least}
use Rattle.checkpoint.proofs.Offsets.{since_cells}
use Rattle.checkpoint.proofs.words.cells.Goals as goal

pub overflow_sub-result : goal.overflow_sub-result
overflow_sub-result c = omega (arith, c.own_words.ensures.0, own_least c.args.e.kind c.args.e.high)

pub returns-then-e-eq5 : goal.returns-then-e-eq5
returns-then-e-eq5 c =
    let e = c.args.e in ap (λ (n : ℕ). n - 16) c.own_words.ensures.0 ∙ since_cells e c.if-e-eq5.true

pub returns-else-e-eq5 : goal.returns-else-e-eq5
returns-else-e-eq5 c = rw (ne_eqb c.args.e.kind 5 c.if-e-eq5.false)
