-- The invariants of `search::find_in`.
use Prim.Native.Nat.{ℕ, ◌<◌}
use mathlib.Core.Bool.{false}
use mathlib.Core.Path.{◌≡◌}
use Rattle.search.specs.Scan.{sought_bit}
use Rattle.search.proofs.find_in.Given as goal

abbrev pub invariant-loop-i : goal.invariant-loop-i
invariant-loop-i l = (j : ℕ) → j < l.i → sought_bit l.bits l.done l.want l.from j ≡ false
