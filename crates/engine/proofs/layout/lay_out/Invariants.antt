-- The invariants of `engine::layout::lay_out`.
use Prim.Native.Nat.{ℕ, ◌<◌}
use mathlib.Core.Path.{◌≡◌}
use lib.ListN.{get_or, length}
use Rattle.engine.specs.Layout.{subformula_first, Laid}
use Rattle.engine.proofs.layout.lay_out.Given as goal

abbrev pub invariant-loop-k : goal.invariant-loop-k
invariant-loop-k l = (length l.table ≡ 128) × Laid l.rule.entries l.k l.table × (length l.firsts ≡ 128) × ((j : ℕ) → j < l.k → get_or l.firsts j 0 ≡ subformula_first l.rule.entries j)
