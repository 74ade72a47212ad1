-- The invariants of `since::find_by_runs`.
use Prim.Native.Nat.{◌-◌, ◌≤◌, ◌<◌}
use mathlib.Core.Bool.{false}
use mathlib.Core.Path.{◌≡◌}
use Rattle.bits.specs.Packed.{bit}
use Rattle.trace.specs.Format.{time_at}
use Rattle.blocks.specs.Ring.{Rises}
use Rattle.since.proofs.Runs.{Settled}
use Rattle.since.proofs.find_by_runs.Given as goal

abbrev pub invariant-loop-end : goal.invariant-loop-end
invariant-loop-end l = (l.end ≤ l.n) × (0 < l.end → bit l.marks (l.end - 1) ≡ false) ×
    (Rises (time_at l.window) l.n l.first → Settled l.low (time_at l.window) l.marks l.first l.n l.end l.answers)

abbrev pub decreases-loop-end : goal.decreases-loop-end
decreases-loop-end l = l.end
