-- The invariant of `trace::times_fall`.
use Prim.Native.Nat.{◌+◌, ◌*◌}
use Rattle.trace.specs.Order.{FallsBetween}
use Rattle.trace.proofs.times_fall.Given as goal

abbrev pub invariant-loop-group : goal.invariant-loop-group
invariant-loop-group l = FallsBetween l.records 1 (1 + l.group * 8) l.falls
