-- The invariants of `since::find_old`.
use Prim.Native.Nat.{ℕ, ◌-◌, ◌≤◌, ◌<◌}
use Rattle.trace.specs.Format.{time_at}
use Rattle.since.proofs.find_old.Given as goal

abbrev pub invariant-loop-i : goal.invariant-loop-i
invariant-loop-i l = (k : ℕ) → l.from ≤ k → k < l.i → time_at l.window k - l.last < l.low
