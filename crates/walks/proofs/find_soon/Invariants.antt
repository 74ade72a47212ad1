-- The invariants of `walks::find_soon`.
use Prim.Native.Nat.{ℕ, ◌-◌, ◌≤◌, ◌<◌, ◌^◌}
use mathlib.Core.Path.{◌≡◌}
use Rattle.bits.specs.Packed.{Packed}
use Rattle.trace.specs.Format.{time_at}
use Rattle.walks.specs.Settle.{first_right, is_soon}
use Rattle.walks.proofs.find_soon.Given as goal

-- of n positions, those behind the first i
pub record Looked (high : ℕ) (time : ℕ → ℕ) (right n i next bits : ℕ) : Type 0 where
  pub inside : i ≤ n
  pub small : bits < 2 ^ (n - i)
  pub is_next : next ≡ first_right time right (n - i) i
  pub packed : Packed (is_soon high time right n) i (n - i) bits

abbrev pub invariant-loop-i : goal.invariant-loop-i
invariant-loop-i l = Looked l.high (time_at l.ahead) l.right l.n l.i l.next l.bits
