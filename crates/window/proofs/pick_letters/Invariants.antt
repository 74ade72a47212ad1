-- The invariants of `window::pick_letters`.
use Prim.Native.Nat.{◌-◌}
use Rattle.window.proofs.Picking.{Picking}
use Rattle.window.proofs.pick_letters.Given as goal

abbrev pub invariant-loop-group : goal.invariant-loop-group
invariant-loop-group l = Picking l.records l.letter l.from l.n l.k l.at l.bits

abbrev pub decreases-loop-group : goal.decreases-loop-group
decreases-loop-group l = l.end - l.at

abbrev pub invariant-loop-one : goal.invariant-loop-one
invariant-loop-one l = Picking l.records l.letter l.from l.n l.k l.at l.bits

abbrev pub decreases-loop-one : goal.decreases-loop-one
decreases-loop-one l = l.end - l.at
