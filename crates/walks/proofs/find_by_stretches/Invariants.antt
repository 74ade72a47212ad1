-- The invariants of `walks::find_by_stretches`.
use Prim.Native.Nat.{ℕ, ◌-◌, ◌≤◌, ◌<◌}
use mathlib.Core.Bool.{true, false}
use mathlib.Core.Path.{◌≡◌}
use Rattle.bits.specs.Packed.{bit}
use Rattle.trace.specs.Format.{time_at}
use Rattle.walks.specs.Settle.{Rising, Words}
use Rattle.walks.proofs.Stretches.{Stretched}
use Rattle.walks.proofs.find_by_stretches.Given as goal

abbrev pub invariant-loop-end : goal.invariant-loop-end
invariant-loop-end l = (l.end < l.n) × (0 < l.end → (bit l.leads (l.end - 1) ≡ true) × (bit l.leads l.end ≡ false)) ×
    ((left right : ℕ) (positive : 0 < l.low) (few : l.n ≤ 64) (w : Words left right l.n l.own l.leads) → Rising (time_at l.ahead) l.n →
    Stretched l.low (time_at l.ahead) left right l.n positive few w l.end l.latest l.bits)

abbrev pub decreases-loop-end : goal.decreases-loop-end
decreases-loop-end l = l.end
