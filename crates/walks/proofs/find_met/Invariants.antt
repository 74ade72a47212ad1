-- The invariants of `walks::find_met`.
use Prim.Native.Nat.{ℕ, ◌+◌, ◌≤◌, ◌<◌}
use Rattle.trace.specs.Format.{time_at}
use Rattle.walks.proofs.find_met.Given as goal

abbrev pub invariant-loop-i : goal.invariant-loop-i
invariant-loop-i l = (j : ℕ) → l.i ≤ j → j < l.end → l.to < time_at l.ahead j + l.low
