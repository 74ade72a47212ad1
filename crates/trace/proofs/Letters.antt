-- A letter's bit in a record, and words of every other position put together. Assumes nothing.
use Prim.Native.Nat.{ℕ, zero, suc, ◌+◌, ◌-◌, ◌*◌, ◌/◌, ◌%◌, ◌≤◌, ◌<◌, ◌^◌}
use native.Mathlib.Nat.{add-mul, mul_assoc, mul_comm}
use native.Mathlib.Omega.{arith}
use mathlib.Core.Bool.{Bool, true, false, ◌&&◌, ◌||◌}
use mathlib.Core.List.{List}
use mathlib.Core.Path.{◌≡◌, refl, sym, ap, ap₂, ◌∙◌}
use borrow.Author.Tests.{eq-eqb, ne_eqb}
use lib.Arith.{digits_lt}
use lib.Bits.{bit_and, bit_or, or_lt}
use lib.Dec.{eqb}
use lib.ListN.{get_or}
use lib.Pow.{pow-add, pow_mono, shl_lt, shl-shr}
use Rattle.bits.specs.Packed.{bit, number, Packed}
use Rattle.bits.proofs.Laws.{bit_mod, bit_rest, mask_bit, power, packed_none, packed_first, packed_front, packed_same, packed_or, pushed_all}
use Rattle.trace.specs.Format.{word_at, has_letter}
use Rattle.trace.specs.Letters.{whole_at, place_of, every_other, Raised}

-- a mask of one bit, as the code makes it
pub masked : (w s : ℕ) → s < 64 → bit_and w (1 * 2 ^ s % 2 ^ 64) ≡ number (bit w s) * 2 ^ s
masked w s h = ap (bit_and w) (power s h) ∙ mask_bit w s

module _ (s : List ℕ) (bytes : (i : ℕ) → get_or s i 0 < 256) where
  -- byte j of four, counted from the last
  byte_of : (at j : ℕ) → j < 4 → word_at s at / 2 ^ (j * 8) % 2 ^ 8 ≡ get_or s (at + (3 - j)) 0
  byte_of at zero h = omega (arith, bytes (at + 3))
  byte_of at (suc zero) h = omega (arith, bytes (at + 2), bytes (at + 3))
  byte_of at (suc (suc zero)) h = omega (arith, bytes (at + 1), bytes (at + 2), bytes (at + 3))
  byte_of at (suc (suc (suc zero))) h =
      let first : word_at s at / 2 ^ 24 % 2 ^ 8 ≡ get_or s at 0 = omega (arith, bytes at, bytes (at + 1), bytes (at + 2), bytes (at + 3)) in
      first ∙ ap (λ (n : ℕ). get_or s n 0) (omega arith)
  byte_of at (suc (suc (suc (suc j)))) h = absurd (omega arith)

  -- a letter's bit stands in its byte of the event set
  bit_of : (i k : ℕ) → k < 32 → bit (get_or s (i * 8 + (7 - k / 8)) 0) (k % 8) ≡ has_letter s k i
  bit_of i k h =
      let w = word_at s (i * 8 + 4) in
      ap (λ (n : ℕ). bit (get_or s n 0) (k % 8)) (omega arith)
      ∙ ap (λ (v : ℕ). bit v (k % 8)) (sym (byte_of (i * 8 + 4) (k / 8) (omega arith)))
      ∙ bit_mod (w / 2 ^ (k / 8 * 8)) 8 (k % 8) (omega arith)
      ∙ bit_rest w (k / 8 * 8) (k % 8)
      ∙ ap (bit w) (omega arith)

  -- byte 7 - j of a record as one number
  whole_byte : (i j : ℕ) → j < 4 → whole_at s i / 2 ^ ((7 - j) * 8) % 2 ^ 8 ≡ get_or s (i * 8 + (7 - j)) 0
  whole_byte i zero h =
      omega (arith, bytes (i * 8), bytes (i * 8 + 1), bytes (i * 8 + 2), bytes (i * 8 + 3), bytes (i * 8 + 4), bytes (i * 8 + 5), bytes (i * 8 + 6), bytes (i * 8 + 7))
  whole_byte i (suc zero) h =
      omega (arith, bytes (i * 8), bytes (i * 8 + 1), bytes (i * 8 + 2), bytes (i * 8 + 3), bytes (i * 8 + 4), bytes (i * 8 + 5), bytes (i * 8 + 6), bytes (i * 8 + 7))
  whole_byte i (suc (suc zero)) h =
      omega (arith, bytes (i * 8), bytes (i * 8 + 1), bytes (i * 8 + 2), bytes (i * 8 + 3), bytes (i * 8 + 4), bytes (i * 8 + 5), bytes (i * 8 + 6), bytes (i * 8 + 7))
  whole_byte i (suc (suc (suc zero))) h =
      omega (arith, bytes (i * 8), bytes (i * 8 + 1), bytes (i * 8 + 2), bytes (i * 8 + 3), bytes (i * 8 + 4), bytes (i * 8 + 5), bytes (i * 8 + 6), bytes (i * 8 + 7))
  whole_byte i (suc (suc (suc (suc j)))) h = absurd (omega arith)

  pub whole_bit : (i k : ℕ) → k < 32 → bit (whole_at s i) (place_of k) ≡ has_letter s k i
  whole_bit i k h =
      let w = whole_at s i in
      sym (bit_rest w ((7 - k / 8) * 8) (k % 8))
      ∙ sym (bit_mod (w / 2 ^ ((7 - k / 8) * 8)) 8 (k % 8) (omega arith))
      ∙ ap (λ (v : ℕ). bit v (k % 8)) (whole_byte i (k / 8) (omega arith))
      ∙ bit_of i k h

doubled : (a q : ℕ) → a * 2 * q ≡ a * q * 2
doubled a q = mul_assoc a 2 q ∙ ap (λ (k : ℕ). a * k) (mul_comm 2 q) ∙ sym (mul_assoc a q 2)

-- such a word is one of 64 bits
pub raised_fits : (f : ℕ → Bool) (n up w : ℕ) → n + up ≤ 65 → Raised f n up w → w < 2 ^ 64
raised_fits f n up w most r =
    let less : r.answers * 2 * 2 ^ up < 2 ^ (n + up) = shl_lt n up r.small in
    let double = doubled r.answers (2 ^ up) in
    omega (arith, r.told, less, double, pow_mono {i = n + up} {j = 65} most)

-- m more behind the i that are there: these are moved down, and those added where they stand
module _ (f : ℕ → Bool) (i m e w a q : ℕ) (few : i + m ≤ 64) (so_far : Raised f i (e + m) w) (small : a * 2 < 2 ^ m) (more : Packed f i m a) (told : q ≡ a * 2 ^ (e + i)) where
  pub glide : Raised f (i + m) e (w / 2 ^ m + q)
  glide =
      let b = so_far.answers in
      let start : 0 + i ≡ i = omega arith in
      let pushed = pushed_all f 0 i m a b few (omega arith) (rw start more) (record { small = omega (arith, so_far.small); packed = so_far.packed }) in
      record {
        answers = b + a * 2 ^ i;
        small = omega (arith, pow-add 2 i m, mul_comm (2 ^ i) (2 ^ m), doubled a (2 ^ i), digits_lt small so_far.small);
        packed = pushed.packed;
        told = ap₂ (λ (x y : ℕ). x + y) down up ∙ sym (add-mul b (a * 2 ^ i) (2 ^ e));
      }
    where
      down : w / 2 ^ m ≡ so_far.answers * 2 ^ e
      down =
          ap (λ (x : ℕ). x / 2 ^ m) (so_far.told ∙ ap (λ (x : ℕ). so_far.answers * x) (pow-add 2 e m) ∙ sym (mul_assoc so_far.answers (2 ^ e) (2 ^ m)))
          ∙ shl-shr (so_far.answers * 2 ^ e) m

      up : q ≡ a * 2 ^ i * 2 ^ e
      up = told ∙ ap (λ (x : ℕ). a * x) (pow-add 2 e i ∙ mul_comm (2 ^ e) (2 ^ i)) ∙ sym (mul_assoc a (2 ^ i) (2 ^ e))

-- the same as a loop does it, m positions in each turn, whose answers come p places up
module _ (f : ℕ → Bool) (m p i w a q : ℕ) (few : i * m + m ≤ 64) (low : i * m ≤ p) (so_far : Raised f (i * m) (p + m - i * m) w) (small : a * 2 < 2 ^ m)
    (more : Packed f (i * m) m a)
    (told : q ≡ a * 2 ^ p) where
  pub turned : Raised f ((i + 1) * m) (p + m - (i + 1) * m) (w / 2 ^ m + q)
  turned =
      let next : (i + 1) * m ≡ i * m + 1 * m = add-mul i 1 m in
      let up : p + m - i * m ≡ p - i * m + m = omega arith in
      let place : p ≡ p - i * m + i * m = omega arith in
      let size : i * m + m ≡ (i + 1) * m = omega arith in
      let left : p - i * m ≡ p + m - (i + 1) * m = omega arith in
      rw (size, left) at (glide f (i * m) m (p - i * m) w a q few (rw up at so_far) small more (told ∙ ap (λ (k : ℕ). a * 2 ^ k) place))

  pub turned_fits : p + m ≤ 65 → (i + 1) * m ≤ p + m → w / 2 ^ m + q < 2 ^ 64
  turned_fits most inside = raised_fits f ((i + 1) * m) (p + m - (i + 1) * m) (w / 2 ^ m + q) (omega arith) turned

module _ (f : ℕ → Bool) (from : ℕ) where
  -- position i, which is even, and the one behind it
  pub one_of_two : (i : ℕ) → Packed (every_other f from) (i * 2) 2 (number (f (from + i * 2)))
  one_of_two i = record { few = omega arith; same = at }
    where
      first : (x : Bool) → eqb ((i * 2 + 0) % 2) 0 && x ≡ bit (number x) 0
      first true = ap (λ (y : Bool). y && true) (eq-eqb ((i * 2 + 0) % 2) 0 (omega arith))
      first false = ap (λ (y : Bool). y && false) (eq-eqb ((i * 2 + 0) % 2) 0 (omega arith))

      second : (x y : Bool) → eqb ((i * 2 + 1) % 2) 0 && y ≡ bit (number x) 1
      second true y = ap (λ (z : Bool). z && y) (ne_eqb ((i * 2 + 1) % 2) 0 (omega arith))
      second false y = ap (λ (z : Bool). z && y) (ne_eqb ((i * 2 + 1) % 2) 0 (omega arith))

      at : (j : ℕ) → j < 2 → every_other f from (i * 2 + j) ≡ bit (number (f (from + i * 2))) j
      at zero h = ap (λ (k : ℕ). eqb ((i * 2 + 0) % 2) 0 && f k) (omega arith) ∙ first (f (from + i * 2))
      at (suc zero) h = second (f (from + i * 2)) (f (from + (i * 2 + 1)))
      at (suc (suc j)) h = absurd (omega arith)

  -- those of a later group, which begins at an even position
  pub behind : (i a : ℕ) → Packed (every_other f (from + i * 8)) 0 8 a → Packed (every_other f from) (i * 8) 8 a
  behind i a =
      packed_same (every_other f (from + i * 8)) (every_other f from) 0 (i * 8) 8 a
      (λ j h.
      let same : (i * 8 + j) % 2 ≡ (0 + j) % 2 = omega arith in
      let here : from + (i * 8 + j) ≡ from + i * 8 + (0 + j) = omega arith in
      ap₂ (λ (d k : ℕ). eqb d 0 && f k) same here)

  -- those between
  abbrev odd : ℕ → Bool
  odd i = eqb (i % 2) 1 && f (from + i)

  parity : (d k : ℕ) → d + k ≡ 1 → eqb k 1 ≡ eqb d 0
  parity zero k e = eq-eqb k 1 (omega arith)
  parity (suc d) k e = ne_eqb k 1 (omega arith) ∙ sym (ne_eqb (suc d) 0 (omega arith))

  both : (d : ℕ) (x : Bool) → d < 2 → (eqb d 0 && x) || (eqb d 1 && x) ≡ x
  both zero true h = refl
  both zero false h = refl
  both (suc zero) true h = refl
  both (suc zero) false h = refl
  both (suc (suc d)) x h = absurd (omega arith)

  between_packed : (n b : ℕ) → 0 < n → n ≤ 64 → Packed (every_other f (from + 1)) 0 n b → Packed odd 0 n (b * 2)
  between_packed n b some few k =
      let size : n - 1 + 1 ≡ n = omega arith in
      let none : b * 2 + 0 ≡ b * 2 = omega arith in
      rw (size, none) at
      (packed_front odd 0 (n - 1) b false (omega arith) refl
      (packed_same (every_other f (from + 1)) odd 0 (0 + 1) (n - 1) b
      (λ i h.
      let here : from + (0 + 1 + i) ≡ from + 1 + (0 + i) = omega arith in
      ap₂ (λ (x y : Bool). x && y) (parity ((0 + i) % 2) ((0 + 1 + i) % 2) (omega arith)) (ap f here))
      (packed_first (every_other f (from + 1)) 0 n b (n - 1) (omega arith) k)))

  -- a word of every other position, and one of those between
  pub joined : (n up v w : ℕ) → 0 < n → n ≤ 64 → 0 < up → Raised (every_other f from) n up v → Raised (every_other f (from + 1)) n up w →
      (bit_or (v / 2 ^ up) (w / 2 ^ (up - 1)) < 2 ^ n) × Packed f from n (bit_or (v / 2 ^ up) (w / 2 ^ (up - 1)))
  joined n up v w some few high r t =
      let a = r.answers in
      let b = t.answers in
      let even : v / 2 ^ up ≡ a = ap (λ (x : ℕ). x / 2 ^ up) r.told ∙ shl-shr a up in
      let twice : b * 2 ^ up ≡ b * 2 * 2 ^ (up - 1) = halved b in
      let between : w / 2 ^ (up - 1) ≡ b * 2 = ap (λ (x : ℕ). x / 2 ^ (up - 1)) (t.told ∙ twice) ∙ shl-shr (b * 2) (up - 1) in
      rw (even, between) (or_lt n a (b * 2) (omega (arith, r.small)) t.small, all)
    where
      halved : (b : ℕ) → b * 2 ^ up ≡ b * 2 * 2 ^ (up - 1)
      halved b =
          let e : up ≡ 1 + (up - 1) = omega arith in
          ap (λ (k : ℕ). b * 2 ^ k) e ∙ ap (λ (x : ℕ). b * x) (pow-add 2 1 (up - 1)) ∙ sym (mul_assoc b 2 (2 ^ (up - 1)))

      all : Packed f from n (bit_or r.answers (t.answers * 2))
      all =
          let a = packed_or (every_other f from) odd 0 n r.answers (t.answers * 2) r.packed (between_packed n t.answers some few t.packed) in
          packed_same (λ i. every_other f from i || odd i) f 0 from n (bit_or r.answers (t.answers * 2))
          (λ i h. let e : 0 + i ≡ i = omega arith in rw e (sym (both (i % 2) (f (from + i)) (omega arith)))) a
