-- The invariants of `bits::fill_up`.
use Prim.Native.Nat.{◌-◌, ◌<◌}
use Rattle.bits.proofs.Filling.{from_top, Filling}
use Rattle.bits.proofs.fill_up.Given as goal

abbrev pub invariant-loop-far : goal.invariant-loop-far
invariant-loop-far l = (0 < l.far) × (l.far < 128) × Filling (from_top l.left) (from_top l.right) l.far (from_top l.found) (from_top l.held)

abbrev pub decreases-loop-far : goal.decreases-loop-far
decreases-loop-far l = 128 - l.far
