-- The invariants of `walks::walk`.
use Prim.Native.Nat.{◌+◌, ◌-◌, ◌<◌, ◌^◌}
use Rattle.trace.specs.Format.{time_at}
use Rattle.walks.specs.Settle.{Limits, Walks, next_of}
use Rattle.walks.proofs.walk.Given as goal

abbrev pub invariant-loop-count : goal.invariant-loop-count
invariant-loop-count l = (l.bits < 2 ^ l.count) ×
    Limits l.lead l.n l.bits l.count l.took l.initial.last l.last ×
    Walks l.low l.high (time_at l.starts) (next_of (time_at l.ahead) l.n l.after) l.lead l.n l.left l.right l.initial.last l.bits l.count l.took l.last

abbrev pub decreases-loop-count : goal.decreases-loop-count
decreases-loop-count l = (l.n - l.took) + (64 - l.count)
