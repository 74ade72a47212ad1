-- `walks::yes_for` meets its contract: one less than a power of two, as the code computes it, and 64 bits are all. Assumes nothing.
use Prim.Native.Nat.{ℕ, ◌-◌}
use native.Mathlib.Omega.{arith}
use mathlib.Core.Path.{◌≡◌, refl, ap}
use lib.Pow.{pow_pos}
use Rattle.bits.proofs.Laws.{power}
use Rattle.walks.proofs.yes_for.Goals as goal

pub overflow_sub-result : goal.overflow_sub-result
overflow_sub-result c = let n = c.args.n in omega (arith, power n (omega arith), pow_pos n)

pub returns-then-n-lt64 : goal.returns-then-n-lt64
returns-then-n-lt64 c = let a = c.args in ap (λ (m : ℕ). m - 1) (power a.n (omega arith))

pub returns-else-n-lt64 : goal.returns-else-n-lt64
returns-else-n-lt64 c =
    let a = c.args in
    let all : a.n ≡ 64 = omega arith in
    rw all refl
