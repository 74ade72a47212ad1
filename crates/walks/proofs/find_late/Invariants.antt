-- The invariants of `walks::find_late`.
use Prim.Native.Nat.{ℕ, ◌-◌, ◌<◌, ◌^◌}
use mathlib.Core.Bool.{true}
use mathlib.Core.Path.{◌≡◌}
use Rattle.bits.specs.Packed.{bit, Packed}
use Rattle.trace.specs.Format.{time_at}
use Rattle.walks.specs.Settle.{Rising, latest_right, is_late}
use Rattle.walks.proofs.find_late.Given as goal

-- of n positions, those behind the first i
pub record Seen (low : ℕ) (time : ℕ → ℕ) (left right n own i latest bits : ℕ) : Type 0 where
  pub is_latest : bit own i ≡ true → latest ≡ latest_right time left right (n - i) i
  pub packed : Packed (is_late low time left right n) i (n - i) bits

pub record Looked (low : ℕ) (time : ℕ → ℕ) (left right n own i latest bits : ℕ) : Type 0 where
  pub inside : i < n
  pub small : bits < 2 ^ (n - i)
  pub seen : Rising time n → Seen low time left right n own i latest bits

abbrev pub invariant-loop-i : goal.invariant-loop-i
invariant-loop-i l = Looked l.low (time_at l.ahead) l.left l.right l.n l.own l.i l.latest l.bits
