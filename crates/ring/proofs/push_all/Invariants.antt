-- The invariants of `ring::push_all`.
use Prim.Native.Nat.{◌≤◌}
use mathlib.Core.Path.{◌≡◌}
use lib.ListN.{length}
use Rattle.trace.specs.Format.{time_at}
use Rattle.ring.proofs.Cells.{Pushing}
use Rattle.ring.proofs.push_all.Given as goal

abbrev pub invariant-loop-i : goal.invariant-loop-i
invariant-loop-i l = (l.from ≤ l.i) × (l.i ≤ l.n) × (l.count ≤ l.cells) × (length l.block ≡ length l.initial.block) ×
    Pushing l.cells (time_at l.window) l.right l.from l.initial.block l.start l.i l.block l.count l.newest
