-- The invariants of `ring::drop_old`.
use Prim.Native.Nat.{◌≤◌, ◌<◌}
use Rattle.ring.proofs.Cells.{Remains}
use Rattle.ring.proofs.drop_old.Given as goal

abbrev pub invariant-loop-count : goal.invariant-loop-count
invariant-loop-count l = (l.start < l.cells) × (l.count ≤ l.cells) × Remains l.cells l.high l.at l.block l.start l.count

abbrev pub decreases-loop-count : goal.decreases-loop-count
decreases-loop-count l = l.count
