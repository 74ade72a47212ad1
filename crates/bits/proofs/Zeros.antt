-- The bits of a word that are 0, counted and found by what the machine counts of its turned bits. Assumes nothing.
use Prim.Native.Nat.{ℕ, zero, suc, ◌+◌, ◌*◌, ◌-◌, ◌/◌, ◌%◌, ◌≤◌, ◌<◌, ◌^◌, min}
use native.Mathlib.Nat.{eq-or-lt_of_le, mod-lt, pow-suc}
use native.Mathlib.Omega.{arith}
use mathlib.Core.Bool.{Bool, true, false, cond, true≢false}
use mathlib.Core.Bool.{not as negate}
use mathlib.Core.Logic.{⊎_elim}
use mathlib.Core.Path.{◌≡◌, refl, sym, ap, ◌∙◌}
use borrow.Author.Tests.{eq-eqb, ne_eqb}
use lib.Count.{ones, ones_cat, ones-le, count_leading_zeros, leading_unique, under, count_trailing_zeros}
use lib.Pow.{mod-pow-add, pow_pos}
use Rattle.bits.specs.Packed.{bit, number, zeros, last_zero, FirstZero}
use Rattle.bits.proofs.Laws.{number_bit, bit_not, bit_half}

module _ (w : ℕ) (small : w < 2 ^ 64) where
  -- the first n bits, turned
  abbrev pub turned_bits : ℕ → ℕ
  turned_bits n = (2 ^ 64 - 1 - w) % 2 ^ n

  -- one bit more
  turned_more : (n : ℕ) → n < 64 → turned_bits (suc n) ≡ number (negate (bit w n)) * 2 ^ n + turned_bits n
  turned_more n h =
      ap turned_bits (omega arith)
      ∙ mod-pow-add (2 ^ 64 - 1 - w) 1 n
      ∙ ap (λ (x : ℕ). x * 2 ^ n + turned_bits n) (sym (number_bit (2 ^ 64 - 1 - w) n) ∙ ap number (bit_not 64 w n small h))

  turned_lt : (n : ℕ) → turned_bits n < 2 ^ n
  turned_lt n = mod-lt (2 ^ 64 - 1 - w) (pow_pos n)

  -- a bit that is 0 counts
  ones_turned : (b : Bool) → ones (number (negate b)) ≡ cond b 0 1
  unfolding ones
  ones_turned true = refl
  ones_turned false = refl

  zeros_are : (n : ℕ) → n ≤ 64 → ones (turned_bits n) ≡ zeros n w
  unfolding ones zeros
  zeros_are zero h = let none : turned_bits 0 ≡ 0 = omega arith in ap ones none
  zeros_are (suc n) h =
      let here = ones_turned (bit w n) in
      let before = zeros_are n (omega arith) in
      ap ones (turned_more n h) ∙ ones_cat n (number (negate (bit w n))) (turned_bits n) (turned_lt n) ∙ omega arith

  -- the length in digits of the turned bits
  record Length (n m : ℕ) : Type 0 where
    within : m ≤ n
    below : turned_bits n < 2 ^ m
    least : 2 ^ m ≤ 2 * turned_bits n + 1

  length_more : (b : Bool) (n m : ℕ) → bit w n ≡ b → n < 64 → Length n m → Length (suc n) (cond b m (suc n))
  length_more true n m e h so_far =
      let same : turned_bits (suc n) ≡ turned_bits n = turned_more n h ∙ rw e (omega arith) in
      record { within = omega arith; below = omega arith; least = omega arith }
  length_more false n m e h so_far =
      let more : turned_bits (suc n) ≡ 2 ^ n + turned_bits n = turned_more n h ∙ rw e (omega arith) in
      let double = pow-suc 2 n in
      let small = turned_lt n in
      record { within = omega arith; below = omega arith; least = omega arith }

  length_is : (n : ℕ) → n ≤ 64 → Length n (last_zero n w)
  unfolding last_zero
  length_is zero h = record { within = omega arith; below = omega arith; least = omega arith }
  length_is (suc n) h = length_more (bit w n) n (last_zero n w) refl h (length_is n (omega arith))

  last_is : (n : ℕ) → n ≤ 64 → count_leading_zeros 64 (turned_bits n) ≡ 64 - last_zero n w
  last_is n h =
      let l = length_is n h in
      let within = l.within in
      sym (leading_unique 64 (turned_bits n) (64 - last_zero n w) (last_zero n w) (omega arith) l.below l.least)

  -- by what the machine counts of t, the turned bits
  module _ (n t : ℕ) (few : n ≤ 64) (turned : t ≡ turned_bits n) where
    pub zeros_counted : (ones t ≡ zeros n w) × (ones t ≤ n)
    zeros_counted = (ap ones turned ∙ zeros_are n few, ones-le n t (rw turned (turned_lt n)))

    pub last_found : (count_leading_zeros 64 t ≤ 64) × (64 - count_leading_zeros 64 t ≡ last_zero n w) × (64 - count_leading_zeros 64 t ≤ n)
    last_found =
        let within = (length_is n few).within in
        let found : count_leading_zeros 64 t ≡ 64 - last_zero n w = ap (count_leading_zeros 64) turned ∙ last_is n few in
        (omega arith, omega arith, omega arith)

-- the last bit that is 0 is 0, and those behind it are 1
pub last_is_zero : (n w : ℕ) → 0 < last_zero n w → bit w (last_zero n w - 1) ≡ false
unfolding last_zero
last_is_zero zero w h = absurd (omega arith)
last_is_zero (suc n) w h = by (bit w n) refl (λ l. last_is_zero n w l) h
  where
    by : (b : Bool) → bit w n ≡ b → (0 < last_zero n w → bit w (last_zero n w - 1) ≡ false) → 0 < cond b (last_zero n w) (suc n) →
        bit w (cond b (last_zero n w) (suc n) - 1) ≡ false
    by true e before h = before h
    by false e before h = let s : suc n - 1 ≡ n = omega arith in ap (bit w) s ∙ e

pub one_behind_last : (n w i : ℕ) → last_zero n w ≤ i → i < n → bit w i ≡ true
unfolding last_zero
one_behind_last zero w i h l = absurd (omega arith)
one_behind_last (suc n) w i h l = by (bit w n) refl (λ a b. one_behind_last n w i a b) h
  where
    by : (b : Bool) → bit w n ≡ b → (last_zero n w ≤ i → i < n → bit w i ≡ true) → cond b (last_zero n w) (suc n) ≤ i → bit w i ≡ true
    by true e before h = ⊎_elim (λ s. ap (bit w) s ∙ e) (λ m. before h m) (eq-or-lt_of_le {n = i} {m = n} (omega arith))
    by false e before h = absurd (omega arith)

-- the first of k bits that is 1, and those before it are 0
record FirstOne (w k at : ℕ) : Type 0 where
  zeros_before : (i : ℕ) → i < at → bit w i ≡ false
  one : at < k → bit w at ≡ true

-- where bit 0 is 0, by the bits behind it
behind_zero : (w k at : ℕ) → w % 2 ≡ 0 → FirstOne (w / 2) k at → FirstOne w (suc k) (suc at)
behind_zero w k at e next = record { zeros_before = before; one = λ h. bit_half w at ∙ next.one (omega arith) }
  where
    before : (i : ℕ) → i < suc at → bit w i ≡ false
    before zero h = ne_eqb (w / 2 ^ 0 % 2) 1 (omega arith)
    before (suc i) h = bit_half w i ∙ next.zeros_before i (omega arith)

first_one : (k w : ℕ) → FirstOne w k (count_trailing_zeros k w)
unfolding count_trailing_zeros
first_one zero w = record { zeros_before = λ i h. absurd (omega arith); one = λ h. absurd (omega arith) }
first_one (suc k) w = by (w % 2) (omega arith) refl (first_one k (w / 2))
  where
    by : (d : ℕ) → d < 2 → w % 2 ≡ d → FirstOne (w / 2) k (count_trailing_zeros k (w / 2)) → FirstOne w (suc k) (under d (count_trailing_zeros k (w / 2)))
    by zero l e next = behind_zero w k (count_trailing_zeros k (w / 2)) e next
    by (suc d) l e next = record { zeros_before = λ i h. absurd (omega arith); one = λ h. eq-eqb (w / 2 ^ 0 % 2) 1 (omega arith) }

twice : (b : Bool) → negate (negate b) ≡ b
twice true = refl
twice false = refl

-- by what the machine counts of the turned bits
module _ (w : ℕ) (small : w < 2 ^ 64) where
  abbrev at : ℕ
  at = count_trailing_zeros 64 (2 ^ 64 - 1 - w)

  -- a bit by its turned one
  turned_bit : (i : ℕ) → i < 64 → (x : Bool) → bit (2 ^ 64 - 1 - w) i ≡ x → bit w i ≡ negate x
  turned_bit i h x e = sym (twice (bit w i)) ∙ ap negate (sym (bit_not 64 w i small h) ∙ e)

  pub first_found : (n first : ℕ) → n ≤ 64 → first ≡ min at n → FirstZero w n first
  first_found n first few e =
      let f = first_one 64 (2 ^ 64 - 1 - w) in
      record {
        most = omega arith;
        ones = λ i h. turned_bit i (omega arith) false (f.zeros_before i (omega arith));
        ends = λ h. let s : first ≡ at = omega arith in ap (bit w) s ∙ turned_bit at (omega arith) true (f.one (omega arith));
      }

-- where it lies
pub zero_within : (n w : ℕ) → last_zero n w ≤ n
unfolding last_zero
zero_within zero w = omega arith
zero_within (suc n) w = by (bit w n) (zero_within n w)
  where
    by : (x : Bool) → last_zero n w ≤ n → cond x (last_zero n w) (suc n) ≤ suc n
    by true h = omega arith
    by false h = omega arith

-- the last of them is not 0
pub zero_before : (n w : ℕ) → 0 < n → bit w (n - 1) ≡ true → last_zero n w < n
unfolding last_zero
zero_before zero w some e = absurd (omega arith)
zero_before (suc n) w some e =
    let s : suc n - 1 ≡ n = omega arith in
    by (bit w n) (ap (bit w) (sym s) ∙ e) (zero_within n w)
  where
    by : (x : Bool) → x ≡ true → last_zero n w ≤ n → cond x (last_zero n w) (suc n) < suc n
    by true f h = omega arith
    by false f h = absurd (true≢false (sym f))
