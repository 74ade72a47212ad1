-- The invariants of `blocks::time::close`.
use Prim.Native.Nat.{◌*◌}
use Rattle.bits.proofs.Laws.{Pushed}
use Rattle.trace.specs.Format.{time_at}
use Rattle.blocks.specs.Near.{close_after}
use Rattle.blocks.proofs.time.close.Given as goal

abbrev pub invariant-loop-group : goal.invariant-loop-group
invariant-loop-group l = Pushed (close_after l.far (time_at l.window)) 0 (l.group * 8) l.answers
