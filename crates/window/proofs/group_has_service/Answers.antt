-- `window::group_has_service` meets its contract: the highest bit of `joined` says whether one of the first i is a service record.
-- Assumes nothing.
use Prim.Native.Nat.{ℕ, ◌+◌, ◌*◌, ◌/◌, ◌%◌, ◌<◌}
use native.Mathlib.Omega.{arith}
use native.Mathlib.Numerals.{add-one}
use mathlib.Core.Bool.{Bool, true, false}
use mathlib.Core.List.{List}
use mathlib.Core.Path.{◌≡◌, refl, ap, ◌∙◌}
use lib.Bits.{bit_or, or_lt}
use lib.Dec.{eqb}
use lib.ListN.{get_or}
use Rattle.mtl.specs.Satisfaction.{any}
use Rattle.bits.specs.Packed.{bit, number}
use Rattle.bits.proofs.Laws.{bit_of_or}
use Rattle.trace.specs.Positions.{is_service}
use Rattle.window.proofs.Windows.{top_bit}
use Rattle.window.proofs.group_has_service.Invariants.{Joined}
use Rattle.window.proofs.group_has_service.Goals as goal

is_one : (b : Bool) → eqb (number b) 1 ≡ b
is_one true = refl
is_one false = refl

module _ (s : List ℕ) (byte : (k : ℕ) → get_or s k 0 < 256) where
  top : (i : ℕ) → bit (get_or s (i * 8 + 4) 0) 7 ≡ is_service s i
  top i =
      let digit : get_or s (i * 8 + 4) 0 / 128 % 2 ≡ number (is_service s i) = omega (arith, top_bit s i byte, byte (i * 8 + 4)) in
      ap (λ (d : ℕ). eqb d 1) digit ∙ is_one (is_service s i)

  one_more : (from i joined : ℕ) → Joined s from i joined → Joined s from (i + 1) (bit_or joined (get_or s ((from + i) * 8 + 4) 0))
  unfolding any
  one_more from i joined (small, told) =
      let b = get_or s ((from + i) * 8 + 4) 0 in
      (or_lt 8 joined b small (byte ((from + i) * 8 + 4)), rw (bit_of_or joined b 7, told, top (from + i), add-one i))

pub loop-i-init : goal.loop-i-init
unfolding any
loop-i-init c = (omega arith, refl)

pub loop-i-preserved : goal.loop-i-preserved
loop-i-preserved c =
    let a = c.args in
    let l = c.loop-i in
    one_more a.records.now (λ k. (c.type_inv.records k).fits) a.from l.i l.joined l.invariant
