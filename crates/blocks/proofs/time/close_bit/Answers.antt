-- `blocks::time::close_bit` meets its contract. Assumes nothing.
use Prim.Native.Nat.{ℕ, ◌+◌, ◌-◌}
use native.Mathlib.Omega.{arith}
use mathlib.Core.Path.{◌≡◌, ap, ◌∙◌}
use lib.Dec.{leb}
use borrow.Author.Tests.{leb-true, le-leb}
use Rattle.mtl.proofs.Bounded.{same_test}
use Rattle.bits.specs.Packed.{number}
use Rattle.bits.proofs.Laws.{number_lt}
use Rattle.blocks.proofs.time.close_bit.Goals as goal

-- a sum is compared in place of a difference, which could be negative
sum_test : (far earlier later : ℕ) → leb later (earlier + far) ≡ leb (later - earlier) far
sum_test far earlier later =
    same_test (leb later (earlier + far)) (leb (later - earlier) far) (
      λ e. let h = leb-true later (earlier + far) e in le-leb (later - earlier) far (omega arith),
      λ e. let h = leb-true (later - earlier) far e in le-leb later (earlier + far) (omega arith),
    )

pub returns : goal.returns
returns c =
    let a = c.args in
    let test = sum_test a.far a.earlier a.later in
    (c.flag.ensures ∙ ap number test, omega (arith, c.flag.ensures, number_lt (leb a.later (a.earlier + a.far))))
