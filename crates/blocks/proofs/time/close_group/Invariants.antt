-- The invariants of `blocks::time::close_group`.
use Rattle.bits.proofs.Laws.{Downward}
use Rattle.trace.specs.Format.{time_at}
use Rattle.blocks.specs.Near.{close_after}
use Rattle.blocks.proofs.time.close_group.Given as goal

abbrev pub invariant-loop-i : goal.invariant-loop-i
invariant-loop-i l = Downward (close_after l.far (time_at l.window)) l.from l.n l.i l.answers
