-- The lowest bit of a word: the word without it, and a word of one bit. Assumes nothing.
use Prim.Native.Nat.{ℕ, zero, suc, ◌+◌, ◌*◌, ◌-◌, ◌/◌, ◌%◌, ◌≤◌, ◌<◌, ◌^◌}
use native.Mathlib.Nat.{pow-suc}
use native.Mathlib.Omega.{arith}
use mathlib.Core.Bool.{Bool, true, false, true≢false}
use mathlib.Core.Path.{◌≡◌, refl, sym, ap, ap₂, ◌∙◌}
use borrow.Author.Tests.{eqb-true}
use lib.Bits.{bit_and, and_block, and_self, and_shifted}
use lib.Dec.{eqb}
use lib.Pow.{mod-pow-add, pow-add, pow_pos, shl_exact, shl_lt, shl-shr, split}
use Rattle.bits.specs.Packed.{bit, number}
use Rattle.bits.proofs.Laws.{bit_below, bit_half, bit_rest, number_lt}
use Rattle.bits.proofs.Filling.{no_bit, zero_bit}

digit_off : (d : ℕ) → d < 2 → eqb d 1 ≡ false → d ≡ 0
digit_off zero h e = refl
digit_off (suc zero) h e = absurd (true≢false e)
digit_off (suc (suc d)) h e = absurd (omega arith)

-- a word none of whose bits is one is 0
pub no_bits : (k w : ℕ) → w < 2 ^ k → ((i : ℕ) → i < k → bit w i ≡ false) → w ≡ 0
no_bits zero w h off = omega arith
no_bits (suc k) w h off =
    let half = no_bits k (w / 2) (omega (arith, pow-suc 2 k)) (λ i l. sym (bit_half w i) ∙ off (suc i) (omega arith)) in
    let first = digit_off (w / 2 ^ 0 % 2) (omega arith) (off 0 (omega arith)) in
    omega arith

module _ (w i : ℕ) (below : (j : ℕ) → j < i → bit w j ≡ false) where
  nothing_below : (k : ℕ) → k ≤ i → w % 2 ^ k ≡ 0
  nothing_below zero h = omega arith
  nothing_below (suc k) h =
      let e : suc k ≡ 1 + k = omega arith in
      let d = digit_off (w / 2 ^ k % 2) (omega arith) (below k (omega arith)) in
      ap (λ (m : ℕ). w % 2 ^ m) e ∙ mod-pow-add w 1 k ∙ ap₂ (λ (x y : ℕ). x * 2 ^ k + y) d (nothing_below k (omega arith)) ∙ (omega arith)

  -- without its lowest bit, as the code makes it
  module _ (on : bit w i ≡ true) where
    parts : w ≡ w / 2 ^ (1 + i) * 2 ^ (1 + i) + 2 ^ i
    parts =
        let d = eqb-true (w / 2 ^ i % 2) 1 on in
        let low : w % 2 ^ (1 + i) ≡ 2 ^ i =
        mod-pow-add w 1 i ∙ ap₂ (λ (x y : ℕ). x * 2 ^ i + y) d (nothing_below i (omega arith)) ∙ (omega arith) in
        sym (split w (1 + i)) ∙ ap (λ (x : ℕ). w / 2 ^ (1 + i) * 2 ^ (1 + i) + x) low

    pub without_lowest : bit_and w (w - 1) ≡ w / 2 ^ (1 + i) * 2 ^ (1 + i)
    without_lowest =
        let q = w / 2 ^ (1 + i) in
        let k = 1 + i in
        let twice = pow-add 2 1 i in
        let some = pow_pos i in
        let less : w - 1 ≡ q * 2 ^ k + (2 ^ i - 1) = omega (arith, parts) in
        let once : 2 ^ i ≡ 1 * 2 ^ i = omega arith in
        let none : bit_and (2 ^ i) (2 ^ i - 1) ≡ 0 = ap (λ (x : ℕ). bit_and x (2 ^ i - 1)) once ∙ and_shifted 1 i (2 ^ i - 1) (omega arith) in
        ap₂ bit_and parts less
        ∙ and_block k q q (2 ^ i) (2 ^ i - 1) (omega arith) (omega arith)
        ∙ ap₂ (λ (x y : ℕ). x * 2 ^ k + y) (and_self q) none
        ∙ (omega arith)

    pub gone : (j : ℕ) → j ≤ i → bit (bit_and w (w - 1)) j ≡ false
    gone j h =
        let e : w / 2 ^ (1 + i) * 2 ^ (1 + i) ≡ 0 + w / 2 ^ (1 + i) * 2 ^ (1 + i) = omega arith in
        ap (λ (x : ℕ). bit x j) (without_lowest ∙ e) ∙ bit_below 0 (1 + i) (w / 2 ^ (1 + i)) j (omega arith) ∙ zero_bit j

    pub stays : (j : ℕ) → i < j → bit (bit_and w (w - 1)) j ≡ bit w j
    stays j h =
        let k = 1 + i in
        let q = w / 2 ^ k in
        let at : j ≡ k + (j - k) = omega arith in
        ap (λ (x : ℕ). bit x j) without_lowest
        ∙ ap (bit (q * 2 ^ k)) at
        ∙ sym (bit_rest (q * 2 ^ k) k (j - k))
        ∙ ap (λ (x : ℕ). bit x (j - k)) (shl-shr q k)
        ∙ bit_rest w k (j - k)
        ∙ ap (bit w) (sym at)

-- a word of one bit, at place i, as the code makes it
module _ (x : Bool) (i : ℕ) (few : i < 64) where
  exact : number x * 2 ^ i % 2 ^ 64 ≡ number x * 2 ^ i
  exact = shl_exact 1 i 64 (omega (arith, number_lt x)) (omega arith)

  of_number : (x : Bool) → bit (number x) 0 ≡ x
  of_number true = refl
  of_number false = refl

  pub one_bit : bit (number x * 2 ^ i % 2 ^ 64) i ≡ x
  one_bit =
      let e : i ≡ i + 0 = omega arith in
      ap (λ (y : ℕ). bit y i) exact
      ∙ ap (bit (number x * 2 ^ i)) e
      ∙ sym (bit_rest (number x * 2 ^ i) i 0)
      ∙ ap (λ (y : ℕ). bit y 0) (shl-shr (number x) i)
      ∙ of_number x

  pub none_before : (j : ℕ) → j < i → bit (number x * 2 ^ i % 2 ^ 64) j ≡ false
  none_before j h =
      let e : number x * 2 ^ i ≡ 0 + number x * 2 ^ i = omega arith in
      ap (λ (y : ℕ). bit y j) (exact ∙ e) ∙ bit_below 0 i (number x) j h ∙ zero_bit j

  pub none_behind : (j : ℕ) → i < j → bit (number x * 2 ^ i % 2 ^ 64) j ≡ false
  none_behind j h = no_bit (1 + i) (number x * 2 ^ i % 2 ^ 64) j (rw exact (shl_lt 1 i (omega (arith, number_lt x)))) (omega arith)
