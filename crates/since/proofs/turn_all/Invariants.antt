-- The invariants of `since::turn_all`.
use mathlib.Core.Path.{◌≡◌}
use lib.ListN.{length}
use Rattle.trace.specs.Format.{time_at}
use Rattle.since.proofs.Turn.{Turning}
use Rattle.since.proofs.turn_all.Given as goal

abbrev pub invariant-loop-i : goal.invariant-loop-i
invariant-loop-i l = (length l.block ≡ length l.initial.block) × Turning l.low l.high (time_at l.window) l.left l.right l.initial.block l.i l.answers l.block
