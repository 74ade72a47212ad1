-- Words of answers: taken apart, put together, and combined bit by bit. Assumes nothing.
use Prim.Native.Nat.{ℕ, zero, suc, ◌+◌, ◌*◌, ◌-◌, ◌/◌, ◌%◌, ◌≤◌, ◌<◌, ◌^◌}
use native.Mathlib.Nat.{add-mul-div_right, add-mul-mod_self_right, div-eq_of_lt, eq-or-lt_of_le, lt_of_lt_of_le, mul_comm, pow-suc, zero-add}
use native.Mathlib.Numerals.{add-one}
use native.Mathlib.Omega.{arith}
use mathlib.Core.Bool.{Bool, true, false, ◌&&◌, ◌||◌}
use mathlib.Core.Bool.{not as negate}
use mathlib.Core.Logic.{◌⊎◌, inl, inr, ⊎_elim}
use mathlib.Core.Path.{◌≡◌, refl, sym, ap, ap₂, ◌∙◌}
use borrow.Author.Tests.{eq-eqb, ne_eqb, leb-true, leb-false}
use lib.Bits.{bit_and, bit_or, and_high, and_shr, and_mod, or_shr, or_mod}
use lib.Arith.{digits_lt}
use lib.Dec.{eqb, leb}
use lib.Pow.{field, mod-mod-pow, pow-add, pow_mono, pow_pos, shl_exact, shr-shr}
use Rattle.bits.specs.Packed.{bit, number, with_bit, Packed}

-- the power of two as the code computes it
pub power : (n : ℕ) → n < 64 → 1 * 2 ^ n % 2 ^ 64 ≡ 2 ^ n
power n h = let one : 1 * 2 ^ n ≡ 2 ^ n = omega arith in shl_exact 1 n 64 (omega arith) (omega arith) ∙ one

pub number_lt : (x : Bool) → number x < 2
number_lt true = omega arith
number_lt false = omega arith

number_digit : (d : ℕ) → d < 2 → number (eqb d 1) ≡ d
number_digit zero h = refl
number_digit (suc zero) h = refl
number_digit (suc (suc d)) h = absurd (omega arith)

-- a bit as a number
pub number_bit : (w i : ℕ) → number (bit w i) ≡ w / 2 ^ i % 2
number_bit w i = number_digit (w / 2 ^ i % 2) (omega arith)

-- bit 0, and the bits of a half
bit_first : (w : ℕ) (x : Bool) → bit (w * 2 + number x) 0 ≡ x
bit_first w true = eq-eqb ((w * 2 + 1) / 2 ^ 0 % 2) 1 (omega arith)
bit_first w false = ne_eqb ((w * 2 + 0) / 2 ^ 0 % 2) 1 (omega arith)

pub bit_rest : (w n i : ℕ) → bit (w / 2 ^ n) i ≡ bit w (n + i)
bit_rest w n i = ap (λ (v : ℕ). eqb (v % 2) 1) (shr-shr w n i)

-- the bits behind the first, one place further down
pub bit_half : (w i : ℕ) → bit w (suc i) ≡ bit (w / 2) i
bit_half w i = ap (bit w) (omega arith) ∙ sym (bit_rest w 1 i)

half : (w : ℕ) (x : Bool) → (w * 2 + number x) / 2 ≡ w
half w true = omega arith
half w false = omega arith

bit_next : (w : ℕ) (x : Bool) (i : ℕ) → bit (w * 2 + number x) (i + 1) ≡ bit w i
bit_next w x i = ap (bit (w * 2 + number x)) (add-one i) ∙ bit_half (w * 2 + number x) i ∙ ap (λ (v : ℕ). bit v i) (half w x)

pub with_bit_lt : (w n : ℕ) (x : Bool) → w < 2 ^ n → with_bit w n x < 2 ^ (n + 1)
with_bit_lt w n true h = omega (arith, pow-add 2 n 1)
with_bit_lt w n false h = omega (arith, pow-add 2 n 1)

-- no bit below n is lost by a remainder
pub bit_mod : (w n i : ℕ) → i < n → bit (w % 2 ^ n) i ≡ bit w i
bit_mod w n i h =
    let j = n - (1 + i) in
    let e : n ≡ (j + 1) + i = omega arith in
    ap (λ (m : ℕ). bit (w % 2 ^ m) i) e
    ∙ ap (λ (v : ℕ). eqb (v % 2) 1) (field w (j + 1) i)
    ∙ ap (λ (v : ℕ). eqb v 1) (mod-mod-pow (w / 2 ^ i) j 1)

-- a bit behind the first n is above them
pub bit_below : (w n y i : ℕ) → i < n → bit (w + y * 2 ^ n) i ≡ bit w i
bit_below w n y i h =
    sym (bit_mod (w + y * 2 ^ n) n i h) ∙ ap (λ (v : ℕ). bit v i) (add-mul-mod_self_right w y (2 ^ n)) ∙ bit_mod w n i h

-- above the first n bits stand the others
pub above : (w n y : ℕ) → w < 2 ^ n → (w + y * 2 ^ n) / 2 ^ n ≡ y
above w n y h = add-mul-div_right w y (pow_pos n) ∙ ap (λ (v : ℕ). v + y) (div-eq_of_lt h) ∙ zero-add y

bit_number : (x : Bool) → eqb ((0 + number x) % 2) 1 ≡ x
bit_number true = refl
bit_number false = refl

bit_top : (w n : ℕ) (x : Bool) → w < 2 ^ n → bit (with_bit w n x) n ≡ x
bit_top w n x h =
    ap (λ (v : ℕ). eqb (v % 2) 1) (add-mul-div_right w (number x) (pow_pos n) ∙ ap (λ (v : ℕ). v + number x) (div-eq_of_lt h))
    ∙ bit_number x

-- no positions
pub packed_none : (f : ℕ → Bool) (p w : ℕ) → Packed f p 0 w
packed_none f p w = record { few = omega arith; same = λ i h. absurd (omega arith) }

-- the first m of them
pub packed_first : (f : ℕ → Bool) (p n w m : ℕ) → m ≤ n → Packed f p n w → Packed f p m w
packed_first f p n w m h k = record { few = omega arith; same = λ i l. k.same i (omega arith) }

-- those behind the first m
pub packed_rest : (f : ℕ → Bool) (p n w m : ℕ) → m ≤ n → Packed f p n w → Packed f (p + m) (n - m) (w / 2 ^ m)
packed_rest f p n w m h k = record {
  few = omega arith;
  same = λ i l. ap f (omega arith) ∙ k.same (m + i) (omega arith) ∙ sym (bit_rest w m i);
}

-- one more in front of them
pub packed_front : (f : ℕ → Bool) (p n w : ℕ) (x : Bool) → n < 64 → f p ≡ x → Packed f (p + 1) n w → Packed f p (n + 1) (w * 2 + number x)
packed_front f p n w x h e k = record { few = omega arith; same = at }
  where
    at : (i : ℕ) → i < n + 1 → f (p + i) ≡ bit (w * 2 + number x) i
    at zero l = ap f (omega arith) ∙ e ∙ sym (bit_first w x)
    at (suc i) l =
        ap f (omega arith) ∙ k.same i (omega arith) ∙ sym (bit_next w x i) ∙ ap (bit (w * 2 + number x)) (add-one i)

-- one more behind them
pub packed_push : (f : ℕ → Bool) (p n w : ℕ) (x : Bool) → n < 64 → w < 2 ^ n → f (p + n) ≡ x → Packed f p n w → Packed f p (n + 1) (with_bit w n x)
packed_push f p n w x h small e k = record {
  few = omega arith;
  same = λ i l.
      ⊎_elim
      (λ top. ap (λ (j : ℕ). f (p + j)) top ∙ e ∙ sym (bit_top w n x small) ∙ ap (bit (with_bit w n x)) (sym top))
      (λ below. k.same i below ∙ sym (bit_below w n (number x) i below))
      (eq-or-lt_of_le (omega arith));
}

-- a word that is filled bit by bit with `push`: i are there
pub record Pushed (f : ℕ → Bool) (p i word : ℕ) : Type 0 where
  pub small : word < 2 ^ i
  pub packed : Packed f p i word

pub pushed_none : (f : ℕ → Bool) (p : ℕ) → Pushed f p 0 0
pushed_none f p = record { small = omega arith; packed = packed_none f p 0 }

pub pushed_more : (f : ℕ → Bool) (p i w : ℕ) (x : Bool) (w' : ℕ) → i < 64 → f (p + i) ≡ x → (w' ≡ with_bit w i x) × (w' < 2 ^ (i + 1)) →
    Pushed f p i w → Pushed f p (i + 1) w'
pushed_more f p i w x w' few here gave so_far =
    record { small = gave.1; packed = rw gave.0 (packed_push f p i w x few so_far.small here so_far.packed) }

pub le_or_lt : (a b : ℕ) → (a ≤ b) ⊎ (b < a)
le_or_lt a b = at (leb a b) refl
  where
    at : (t : Bool) → leb a b ≡ t → (a ≤ b) ⊎ (b < a)
    at true e = inl (leb-true a b e)
    at false e = inr (leb-false a b e)

-- m more behind the i that are there
pub pushed_all : (f : ℕ → Bool) (p i m v w : ℕ) → i + m ≤ 64 → v < 2 ^ m → Packed f (p + i) m v → Pushed f p i w → Pushed f p (i + m) (w + v * 2 ^ i)
pushed_all f p i m v w few small more so_far = record {
  small = omega (arith, pow-add 2 i m, mul_comm (2 ^ i) (2 ^ m), digits_lt small so_far.small);
  packed = record {
    few = few;
    same = λ j h.
        ⊎_elim
        (λ high.
        ap f (omega arith) ∙ more.same (j - i) (omega arith)
        ∙ sym (ap (λ (u : ℕ). bit u (j - i)) (above w i v so_far.small))
        ∙ bit_rest (w + v * 2 ^ i) i (j - i)
        ∙ ap (bit (w + v * 2 ^ i)) (omega arith))
        (λ low. so_far.packed.same j low ∙ sym (bit_below w i v j low))
        (le_or_lt i j);
  };
}

-- a group of m answers behind the i that are there, as the code puts it
module _ (f : ℕ → Bool) (p i m v w : ℕ) (few : i + m ≤ 64) (group : (v < 2 ^ m) × Packed f (p + i) m v) (so_far : Pushed f p i w) where
  pub grown : Pushed f p (i + m) (w + v * 2 ^ i % 2 ^ 64)
  grown = rw (shl_exact m i 64 group.0 (omega arith)) (pushed_all f p i m v w few group.0 group.1 so_far)

  pub grown_fits : w + v * 2 ^ i % 2 ^ 64 < 2 ^ 64
  grown_fits = lt_of_lt_of_le grown.small (pow_mono few)

-- the bit that a mask of one bit leaves
pub mask_bit : (w s : ℕ) → bit_and w (2 ^ s) ≡ number (bit w s) * 2 ^ s
mask_bit w s =
    let one : 2 ^ s ≡ 2 ^ (1 + s) - 2 ^ s = omega (arith, pow-add 2 1 s) in
    ap (bit_and w) one ∙ and_high w 1 s ∙ ap (λ (d : ℕ). d * 2 ^ s) (sym (number_bit w s))

-- answers that agree, position by position
pub packed_same : (f g : ℕ → Bool) (p q n w : ℕ) → ((i : ℕ) → i < n → g (q + i) ≡ f (p + i)) → Packed f p n w → Packed g q n w
packed_same f g p q n w e k = record { few = k.few; same = λ i l. e i l ∙ k.same i l }

-- the connectives, bit by bit

not_digits : (x y : ℕ) → x + y ≡ 1 → eqb x 1 ≡ negate (eqb y 1)
not_digits zero y e = sym (ap negate (eq-eqb y 1 (omega arith)))
not_digits (suc x) y e = eq-eqb (suc x) 1 (omega arith) ∙ sym (ap negate (ne_eqb y 1 (omega arith)))

pub bit_not : (k w i : ℕ) → w < 2 ^ k → i < k → bit (2 ^ k - 1 - w) i ≡ negate (bit w i)
bit_not zero w i h l = absurd (omega arith)
bit_not (suc k) w zero h l = not_digits ((2 ^ suc k - 1 - w) / 2 ^ 0 % 2) (w / 2 ^ 0 % 2) (omega (arith, pow-suc 2 k))
bit_not (suc k) w (suc i) h l =
    let less : w / 2 < 2 ^ k = omega (arith, pow-suc 2 k) in
    bit_half (2 ^ suc k - 1 - w) i
    ∙ ap (λ (v : ℕ). bit v i) (omega (arith, pow-suc 2 k))
    ∙ bit_not k (w / 2) i less (omega arith)
    ∙ sym (ap negate (bit_half w i))

pub packed_not : (f : ℕ → Bool) (p n w : ℕ) → w < 2 ^ 64 → Packed f p n w → Packed (λ i. negate (f i)) p n (2 ^ 64 - 1 - w)
packed_not f p n w h k = record {
  few = k.few;
  same = λ i l. ap negate (k.same i l) ∙ sym (bit_not 64 w i h (omega arith));
}

or_digits : (x y : ℕ) → x < 2 → y < 2 → eqb (bit_or x y) 1 ≡ eqb x 1 || eqb y 1
or_digits zero y h l = refl
or_digits (suc zero) zero h l = refl
or_digits (suc zero) (suc zero) h l = refl
or_digits (suc zero) (suc (suc y)) h l = absurd (omega arith)
or_digits (suc (suc x)) y h l = absurd (omega arith)

pub bit_of_or : (v w i : ℕ) → bit (bit_or v w) i ≡ bit v i || bit w i
bit_of_or v w i =
    ap (λ (u : ℕ). eqb (u % 2) 1) (or_shr v w i)
    ∙ ap (λ (u : ℕ). eqb u 1) (or_mod (v / 2 ^ i) (w / 2 ^ i) 1)
    ∙ or_digits (v / 2 ^ i % 2) (w / 2 ^ i % 2) (omega arith) (omega arith)

pub packed_or : (f g : ℕ → Bool) (p n v w : ℕ) → Packed f p n v → Packed g p n w → Packed (λ i. f i || g i) p n (bit_or v w)
packed_or f g p n v w a b = record {
  few = a.few;
  same = λ i l. ap₂ (λ (x y : Bool). x || y) (a.same i l) (b.same i l) ∙ sym (bit_of_or v w i);
}

and_digits : (x y : ℕ) → x < 2 → y < 2 → eqb (bit_and x y) 1 ≡ eqb x 1 && eqb y 1
and_digits zero y h l = refl
and_digits (suc zero) zero h l = refl
and_digits (suc zero) (suc zero) h l = refl
and_digits (suc zero) (suc (suc y)) h l = absurd (omega arith)
and_digits (suc (suc x)) y h l = absurd (omega arith)

pub bit_of_and : (v w i : ℕ) → bit (bit_and v w) i ≡ bit v i && bit w i
bit_of_and v w i =
    ap (λ (u : ℕ). eqb (u % 2) 1) (and_shr v w i)
    ∙ ap (λ (u : ℕ). eqb u 1) (and_mod (v / 2 ^ i) (w / 2 ^ i) 1)
    ∙ and_digits (v / 2 ^ i % 2) (w / 2 ^ i % 2) (omega arith) (omega arith)

pub packed_and : (f g : ℕ → Bool) (p n v w : ℕ) → Packed f p n v → Packed g p n w → Packed (λ i. f i && g i) p n (bit_and v w)
packed_and f g p n v w a b = record {
  few = a.few;
  same = λ i l. ap₂ (λ (x y : Bool). x && y) (a.same i l) (b.same i l) ∙ sym (bit_of_and v w i);
}

-- a word that is filled from the last of n positions down: those behind the first i are there
pub record Downward (f : ℕ → Bool) (from n i word : ℕ) : Type 0 where
  pub inside : i ≤ n
  pub small : word < 2 ^ (n - i)
  pub packed : Packed f (from + i) (n - i) word

module _ (f : ℕ → Bool) (from n : ℕ) where
  pub downward_none : Downward f from n n 0
  downward_none =
      let e : n - n ≡ 0 = omega arith in
      record { inside = omega arith; small = rw e (omega arith); packed = rw e (packed_none f (from + n) 0) }

  pub downward_bound : (i word most : ℕ) → n ≤ most → Downward f from n i word → word < 2 ^ most
  downward_bound i word most few done = let size : n - i ≤ most = omega arith in lt_of_lt_of_le done.small (pow_mono size)

  -- position i - 1 in front of them
  pub downward_more : (i word r : ℕ) → 0 < i → n ≤ 64 → r ≡ number (f (from + (i - 1))) → Downward f from n i word → Downward f from n (i - 1) (word * 2 + r)
  downward_more i word r h few e done =
      let x = f (from + (i - 1)) in
      let one : n - (i - 1) ≡ (n - i) + 1 = omega arith in
      let next : from + i ≡ (from + (i - 1)) + 1 = omega arith in
      record {
        inside = omega arith;
        small = rw (one, e) (omega (arith, done.small, pow-add 2 (n - i) 1, number_lt x));
        packed = rw (one, e) (packed_front f (from + (i - 1)) (n - i) word x (omega arith) refl (rw next at done.packed));
      }

  pub downward_all : (i word : ℕ) → i ≡ 0 → Downward f from n i word → (word < 2 ^ n) × Packed f from n word
  downward_all i word e done =
      let start : from + i ≡ from = omega arith in
      let size : n - i ≡ n = omega arith in
      (rw size at done.small, rw (start, size) at done.packed)
