-- Records whose times fall, counted in groups that lie one behind the other.
use Prim.Native.Nat.{ℕ, ◌+◌, ◌-◌, ◌≤◌, ◌<◌}
use native.Mathlib.Omega.{arith}
use mathlib.Core.Bool.{Bool, true, false, ◌&&◌}
use mathlib.Core.Logic.{⊎_elim}
use mathlib.Core.List.{List}
use mathlib.Core.Path.{◌≡◌, sym, ap, ◌∙◌}
use lib.Dec.{ltb}
use borrow.Author.Tests.{lt-ltb, le-ltb}
use Rattle.mtl.specs.Satisfaction.{any}
use Rattle.mtl.proofs.Bounded.{any_iff, any_false_iff, le_or_lt}
use Rattle.bits.specs.Packed.{number}
use Rattle.trace.specs.Format.{time_at}
use Rattle.trace.specs.Order.{falls_at, FallsBetween}

module _ (s : List ℕ) where
  one_told : (at : ℕ) (b : Bool) → falls_at s at ≡ b → FallsBetween s at (at + 1) (number b)
  one_told at true e = (omega arith, λ z. absurd (omega arith), λ some. (at, omega arith, omega arith, e))
  one_told at false e =
      (omega arith, λ z i low high. let same : i ≡ at = omega arith in rw same e, λ some. absurd (omega arith))

  -- one record, which is not the first
  pub one_between : (at r : ℕ) → 0 < at → r ≡ number (ltb (time_at s at) (time_at s (at - 1))) → FallsBetween s at (at + 1) r
  one_between at r later is =
      let b = ltb (time_at s at) (time_at s (at - 1)) in
      rw is (one_told at b (ap (λ (x : Bool). x && b) (lt-ltb 0 at later)))

  -- two groups, one behind the other
  pub joined : (a b c q r : ℕ) → a ≤ b → b ≤ c → FallsBetween s a b q → FallsBetween s b c r → FallsBetween s a c (q + r)
  joined a b c q r first second (few, none, some) (few', none', some') = (
    omega arith,
    λ z i low high. ⊎_elim (λ (l : b ≤ i). none' (omega arith) i l high) (λ (l : i < b). none (omega arith) i low l) (le_or_lt b i),
    λ more.
        ⊎_elim
        (λ (l : 1 ≤ q). let (i, low, high, e) = some l in (i, low, omega arith, e))
        (λ (l : q < 1). let (i, low, high, e) = some' (omega arith) in (i, omega arith, high, e))
        (le_or_lt 1 q),
  )

  -- all but the first record, which does not fall
  pub all_between : (end r : ℕ) → FallsBetween s 1 end r → ltb 0 r ≡ any end (falls_at s)
  all_between end r (few, none, some) =
      ⊎_elim
      (λ (l : 1 ≤ r). let (i, low, high, e) = some l in lt-ltb 0 r l ∙ sym ((any_iff end (falls_at s)).1 (i, high, e)))
      (λ (l : r < 1).
      le-ltb 0 r (omega arith) ∙
      sym ((any_false_iff end (falls_at s)).1
      (λ i high.
      ⊎_elim
      (λ (low : 1 ≤ i). none (omega arith) i low high)
      (λ (low : i < 1). ap (λ (x : Bool). x && ltb (time_at s i) (time_at s (i - 1))) (le-ltb 0 i (omega arith)))
      (le_or_lt 1 i))))
      (le_or_lt 1 r)
