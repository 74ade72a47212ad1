-- The invariants of `search::times::first_record`.
use Prim.Native.Nat.{ℕ, ◌<◌}
use mathlib.Core.Bool.{false}
use mathlib.Core.Path.{◌≡◌}
use lib.Dec.{leb}
use Rattle.trace.specs.Format.{time_at}
use Rattle.search.proofs.times.first_record.Given as goal

abbrev pub invariant-loop-r : goal.invariant-loop-r
invariant-loop-r l = (j : ℕ) → j < l.r → leb l.bound (time_at l.records j) ≡ false
