-- The invariants of `engine::layout::lay_tops`.
use Prim.Native.Nat.{ℕ}
use mathlib.Core.Path.{◌≡◌}
use mathlib.Core.List.{List}
use lib.ListN.{length}
use Rattle.mtl.specs.Formula.{Formula}
use Rattle.rule.specs.declared.Entry.{Entry}
use Rattle.engine.specs.Tops.{LaidAs}
use Rattle.engine.proofs.Places.{Before}
use Rattle.engine.proofs.layout.lay_tops.Given as goal

abbrev pub invariant-loop-k : goal.invariant-loop-k
invariant-loop-k l = (length l.tops ≡ 8) × ((t : List Entry) (n : ℕ) (fs : List Formula) → LaidAs t n l.table l.ends.at l.ends.number fs → Before l.tops l.base l.from fs l.k)
