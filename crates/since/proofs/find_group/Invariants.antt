-- The invariants of `since::find_group`.
use Prim.Native.Nat.{◌+◌}
use mathlib.Core.Path.{◌≡◌}
use Rattle.bits.proofs.Laws.{Pushed}
use Rattle.trace.specs.Format.{times_from}
use Rattle.blocks.specs.Ring.{newest_at}
use Rattle.since.specs.Old.{old_enough}
use Rattle.since.proofs.find_group.Given as goal

abbrev pub invariant-loop-i : goal.invariant-loop-i
invariant-loop-i l = (l.due ≡ newest_at (times_from l.window l.from) l.marks l.last l.i + l.low) × Pushed (old_enough l.low (times_from l.window l.from) l.marks l.last) 0 l.i l.answers
