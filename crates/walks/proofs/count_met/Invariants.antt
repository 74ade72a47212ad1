-- The invariants of `walks::count_met`.
use Prim.Native.Nat.{ℕ, ◌+◌, ◌≤◌, ◌<◌}
use Rattle.trace.specs.Format.{time_at}
use Rattle.walks.proofs.count_met.Given as goal

abbrev pub invariant-loop-i : goal.invariant-loop-i
invariant-loop-i l = (j : ℕ) → j < l.i → time_at l.starts j + l.low ≤ l.to
