-- `walks::first_bits` meets its contract: a remainder by a power of two leaves the first bits, and 64 bits are all. Assumes nothing.
use Prim.Native.Nat.{ℕ, ◌%◌}
use native.Mathlib.Omega.{arith}
use mathlib.Core.Path.{◌≡◌, ap}
use lib.Pow.{pow_pos}
use Rattle.bits.proofs.Laws.{power}
use Rattle.walks.proofs.first_bits.Goals as goal

pub nonzero_rem-result : goal.nonzero_rem-result
nonzero_rem-result c = let n = c.args.n in omega (arith, power n (omega arith), pow_pos n)

pub returns-then-n-lt64 : goal.returns-then-n-lt64
returns-then-n-lt64 c = let a = c.args in ap (λ (m : ℕ). a.word % m) (power a.n (omega arith))

pub returns-else-n-lt64 : goal.returns-else-n-lt64
returns-else-n-lt64 c =
    let a = c.args in
    let all : a.n ≡ 64 = omega arith in
    rw all (omega arith)
