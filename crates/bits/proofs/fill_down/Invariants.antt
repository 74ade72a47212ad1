-- The invariants of `bits::fill_down`.
use Prim.Native.Nat.{◌-◌, ◌<◌}
use Rattle.bits.specs.Packed.{bit}
use Rattle.bits.proofs.Filling.{Filling}
use Rattle.bits.proofs.fill_down.Given as goal

abbrev pub invariant-loop-far : goal.invariant-loop-far
invariant-loop-far l = (0 < l.far) × (l.far < 128) × Filling (bit l.left) (bit l.right) l.far (bit l.found) (bit l.held)

abbrev pub decreases-loop-far : goal.decreases-loop-far
decreases-loop-far l = 128 - l.far
