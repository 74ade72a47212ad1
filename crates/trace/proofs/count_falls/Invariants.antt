-- The invariant of `trace::count_falls`.
use Rattle.trace.specs.Order.{FallsBetween}
use Rattle.trace.proofs.count_falls.Given as goal

abbrev pub invariant-loop-i : goal.invariant-loop-i
invariant-loop-i l = FallsBetween l.records l.from l.i l.falls
