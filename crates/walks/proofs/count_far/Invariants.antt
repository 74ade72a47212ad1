-- The invariants of `walks::count_far`.
use Prim.Native.Nat.{ℕ, ◌+◌, ◌-◌, ◌≤◌, ◌<◌}
use Rattle.trace.specs.Format.{time_at}
use Rattle.walks.proofs.count_far.Given as goal

abbrev pub invariant-loop-i : goal.invariant-loop-i
invariant-loop-i l = (j : ℕ) → l.i ≤ j → j < l.n → time_at l.ahead (l.n - 1) ≤ time_at l.ahead j + l.high
