-- The invariants of `since::find_by_groups`.
use Prim.Native.Nat.{◌*◌}
use Rattle.bits.proofs.Laws.{Pushed}
use Rattle.trace.specs.Format.{time_at}
use Rattle.since.specs.Old.{old_enough}
use Rattle.since.proofs.find_by_groups.Given as goal

abbrev pub invariant-loop-group : goal.invariant-loop-group
invariant-loop-group l = Pushed (old_enough l.low (time_at l.window) l.marks l.first) 0 (l.group * 8) l.answers
