-- `bits::repeat` meets its contract: one less than a power of two has all bits below it.
-- Assumes nothing.
use Prim.Native.Nat.{ℕ, ◌-◌}
use native.Mathlib.Omega.{arith}
use mathlib.Core.Path.{sym, ap, ◌∙◌}
use lib.Pow.{pow_pos}
use Rattle.bits.specs.Packed.{bit}
use Rattle.bits.proofs.Laws.{power}
use Rattle.bits.proofs.Filling.{ones_bit}
use Rattle.bits.proofs.repeat.Goals as goal

pub returns-then-x : goal.returns-then-x
returns-then-x c =
    let a = c.args in
    let p = power a.n (omega arith) in
    (omega (arith, p, pow_pos a.n), λ i h. ap (λ (v : ℕ). bit (v - 1) i) p ∙ ones_bit a.n i h ∙ sym c.if-x.true)
