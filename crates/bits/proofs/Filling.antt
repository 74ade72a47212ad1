-- Words filled from the bits of one word along those of another, by doubling. Assumes nothing.
use Prim.Native.Nat.{ℕ, zero, suc, ◌+◌, ◌*◌, ◌-◌, ◌/◌, ◌%◌, ◌≤◌, ◌<◌, ◌^◌}
use native.Mathlib.Nat.{div-eq_of_lt, lt_of_lt_of_le}
use native.Mathlib.Omega.{arith}
use mathlib.Core.Bool.{Bool, true, false, ◌&&◌, ◌||◌}
use mathlib.Core.Bool.{not as negate}
use mathlib.Core.Logic.{⊎_elim}
use mathlib.Core.Path.{◌≡◌, refl, sym, ap, ap₂, ◌∙◌}
use borrow.Author.Tests.{lt-ltb, le-ltb, le-leb, lt-leb}
use lib.Bits.{bit_and, bit_or}
use lib.Dec.{eqb, leb, ltb}
use lib.Pow.{pow_mono, pow_pos}
use Rattle.bits.specs.Packed.{bit, FilledDown, FilledUp, Prolonged, OnesBetween}
use Rattle.bits.proofs.Laws.{bit_rest, bit_mod, bit_not, bit_of_or, bit_of_and, bit_below, above, le_or_lt}

module _ (left right : ℕ → Bool) where
  -- right holds at one of the s places from i on, and left from i up to it
  unfoldable pub found_in : (s i : ℕ) → Bool
  found_in zero i = false
  found_in (suc s) i = right i || (left i && found_in s (suc i))

  -- left holds at all s places from i on
  unfoldable pub held_in : (s i : ℕ) → Bool
  held_in zero i = true
  held_in (suc s) i = left i && held_in s (suc i)

  found_one : (i : ℕ) → found_in 1 i ≡ right i
  unfolding found_in
  found_one i = by (right i) (left i)
    where
      by : (r l : Bool) → r || (l && false) ≡ r
      by true l = refl
      by false true = refl
      by false false = refl

  held_one : (i : ℕ) → held_in 1 i ≡ left i
  unfolding held_in
  held_one i = by (left i)
    where
      by : (l : Bool) → l && true ≡ l
      by true = refl
      by false = refl

  -- DOUBLING: what is found within s + t places is found within s, or within t behind them where left holds so far
  found_more : (s t i : ℕ) → found_in (s + t) i ≡ found_in s i || (held_in s i && found_in t (i + s))
  unfolding found_in held_in
  found_more zero t i = let n : zero + t ≡ t = omega arith in let e : i ≡ i + zero = omega arith in ap₂ found_in n e
  found_more (suc s) t i =
      let n : suc s + t ≡ suc (s + t) = omega arith in
      let e : suc i + s ≡ i + suc s = omega arith in
      ap (λ (k : ℕ). found_in k i) n
      ∙ ap (λ (x : Bool). right i || (left i && x)) (found_more s t (suc i) ∙ ap (λ (k : ℕ). found_in s (suc i) || (held_in s (suc i) && found_in t k)) e)
      ∙ by (right i) (left i) (found_in s (suc i)) (held_in s (suc i)) (found_in t (i + suc s))
    where
      by : (r l f h x : Bool) → r || (l && (f || (h && x))) ≡ (r || (l && f)) || ((l && h) && x)
      by true l f h x = refl
      by false false f h x = refl
      by false true f h x = refl

  held_more : (s t i : ℕ) → held_in (s + t) i ≡ held_in s i && held_in t (i + s)
  unfolding held_in
  held_more zero t i = let n : zero + t ≡ t = omega arith in let e : i ≡ i + zero = omega arith in ap₂ held_in n e
  held_more (suc s) t i =
      let n : suc s + t ≡ suc (s + t) = omega arith in
      let e : suc i + s ≡ i + suc s = omega arith in
      ap (λ (k : ℕ). held_in k i) n
      ∙ ap (λ (x : Bool). left i && x) (held_more s t (suc i) ∙ ap (λ (k : ℕ). held_in s (suc i) && held_in t k) e)
      ∙ by (left i) (held_in s (suc i)) (held_in t (i + suc s))
    where
      by : (l h x : Bool) → l && (h && x) ≡ (l && h) && x
      by true h x = refl
      by false h x = refl

  -- what two words have found and held within s places
  pub record Filling (s : ℕ) (found held : ℕ → Bool) : Type 0 where
    pub finds : (i : ℕ) → found i ≡ found_in s i
    pub holds : (i : ℕ) → held i ≡ held_in s i

  pub filling_one : Filling 1 right left
  filling_one = record { finds = λ i. sym (found_one i); holds = λ i. sym (held_one i) }

  pub filling_more : (s : ℕ) (found held found' held' : ℕ → Bool) → Filling s found held →
      ((i : ℕ) → found' i ≡ found i || (held i && found (i + s))) → ((i : ℕ) → held' i ≡ held i && held (i + s)) →
      Filling (s + s) found' held'
  filling_more s found held found' held' f more keep =
      record {
        finds = λ i. more i ∙ rw (f.finds i, f.holds i, f.finds (i + s)) (sym (found_more s s i));
        holds = λ i. keep i ∙ rw (f.holds i, f.holds (i + s)) (sym (held_more s s i));
      }

  -- where right has nothing from place 64 on, nothing is found further than 64 places away
  module _ (ends : (i : ℕ) → 64 ≤ i → right i ≡ false) where
    none : (s i : ℕ) → 64 ≤ i → found_in s i ≡ false
    unfolding found_in
    none zero i h = refl
    none (suc s) i h = ap₂ (λ (x y : Bool). x || (left i && y)) (ends i h) (none s (suc i) (omega arith)) ∙ by (left i)
      where
        by : (l : Bool) → l && false ≡ false
        by true = refl
        by false = refl

    enough : (s i : ℕ) → 64 ≤ i + s → found_in (suc s) i ≡ found_in s i
    enough s i h =
        let n : suc s ≡ s + 1 = omega arith in
        ap (λ (k : ℕ). found_in k i) n ∙ found_more s 1 i
        ∙ ap (λ (x : Bool). found_in s i || (held_in s i && x)) (none 1 (i + s) h)
        ∙ by (found_in s i) (held_in s i)
      where
        by : (f h : Bool) → f || (h && false) ≡ f
        by true h = refl
        by false true = refl
        by false false = refl

    -- right holds here, or left does and something is found from the next place on
    pub filled : (s : ℕ) (found held : ℕ → Bool) → 64 ≤ s → Filling s found held → (i : ℕ) → found i ≡ right i || (left i && found (suc i))
    unfolding found_in
    filled zero found held h f i = absurd (omega arith)
    filled (suc s) found held h f i =
        f.finds i
        ∙ ap (λ (x : Bool). right i || (left i && x)) (sym (enough s (suc i) (omega arith)) ∙ sym (f.finds (suc i)))

-- a word of n bits has none from n on
pub no_bit : (n w i : ℕ) → w < 2 ^ n → n ≤ i → bit w i ≡ false
no_bit n w i small h = ap (λ (v : ℕ). eqb (v % 2) 1) (div-eq_of_lt (lt_of_lt_of_le small (pow_mono h)))

pub zero_bit : (i : ℕ) → bit 0 i ≡ false
zero_bit i = ap (λ (v : ℕ). eqb (v % 2) 1) (div-eq_of_lt (pow_pos i))

-- DOWNWARDS: place i is bit i
pub down_more : (left right s found held : ℕ) → Filling (bit left) (bit right) s (bit found) (bit held) →
    Filling (bit left) (bit right) (s + s) (bit (bit_or found (bit_and held (found / 2 ^ s)))) (bit (bit_and held (held / 2 ^ s)))
down_more left right s found held f =
    filling_more (bit left) (bit right) s (bit found) (bit held) _ _ f
    (λ i.
    bit_of_or found (bit_and held (found / 2 ^ s)) i
    ∙ ap (λ (x : Bool). bit found i || x) (bit_of_and held (found / 2 ^ s) i ∙ ap (λ (x : Bool). bit held i && x) (shifted found i)))
    (λ i. bit_of_and held (held / 2 ^ s) i ∙ ap (λ (x : Bool). bit held i && x) (shifted held i))
  where
    shifted : (w i : ℕ) → bit (w / 2 ^ s) i ≡ bit w (i + s)
    shifted w i = bit_rest w s i ∙ ap (bit w) (omega arith)

pub down_filled : (left right s found held : ℕ) → right < 2 ^ 64 → 64 ≤ s → Filling (bit left) (bit right) s (bit found) (bit held) → FilledDown left right found
down_filled left right s found held small far f i h =
    filled (bit left) (bit right) (λ k m. no_bit 64 right k small m) s (bit found) (bit held) far f i

-- UPWARDS: place i is bit 63 - i
abbrev pub from_top : (w i : ℕ) → Bool
from_top w i = ltb i 64 && bit w (63 - i)

top_below : (w i : ℕ) → i < 64 → from_top w i ≡ bit w (63 - i)
top_below w i h = rw (lt-ltb i 64 h)

top_none : (w i : ℕ) → 64 ≤ i → from_top w i ≡ false
top_none w i h = rw (le-ltb i 64 h)

-- a bit of a word that is multiplied by a power of two
bit_shifted : (w s i : ℕ) → bit (w * 2 ^ s) (s + i) ≡ bit w i
bit_shifted w s i =
    let e : w * 2 ^ s ≡ 0 + w * 2 ^ s = omega arith in
    sym (bit_rest (w * 2 ^ s) s i) ∙ ap (λ (v : ℕ). bit v i) (ap (λ (v : ℕ). v / 2 ^ s) e ∙ above 0 s w (pow_pos s))

bit_before : (w s i : ℕ) → i < s → bit (w * 2 ^ s) i ≡ false
bit_before w s i h =
    let e : w * 2 ^ s ≡ 0 + w * 2 ^ s = omega arith in
    ap (λ (v : ℕ). bit v i) e ∙ bit_below 0 s w i h ∙ zero_bit i

top_shifted : (w s i : ℕ) → from_top (w * 2 ^ s % 2 ^ 64) i ≡ from_top w (i + s)
top_shifted w s i =
    ⊎_elim
    (λ out. top_none (w * 2 ^ s % 2 ^ 64) i out ∙ sym (top_none w (i + s) (omega arith)))
    (λ inside.
    let low = top_below (w * 2 ^ s % 2 ^ 64) i inside ∙ bit_mod (w * 2 ^ s) 64 (63 - i) (omega arith) in
    ⊎_elim
    (λ past. low ∙ bit_before w s (63 - i) (omega arith) ∙ sym (top_none w (i + s) past))
    (λ near.
    let e : 63 - i ≡ s + (63 - (i + s)) = omega arith in
    low ∙ ap (bit (w * 2 ^ s)) e ∙ bit_shifted w s (63 - (i + s)) ∙ sym (top_below w (i + s) near))
    (le_or_lt 64 (i + s)))
    (le_or_lt 64 i)

top_or : (v w i : ℕ) → from_top (bit_or v w) i ≡ from_top v i || from_top w i
top_or v w i = ap (λ (x : Bool). ltb i 64 && x) (bit_of_or v w (63 - i)) ∙ by (ltb i 64) (bit v (63 - i)) (bit w (63 - i))
  where
    by : (t x y : Bool) → t && (x || y) ≡ (t && x) || (t && y)
    by true x y = refl
    by false x y = refl

top_and : (v w i : ℕ) → from_top (bit_and v w) i ≡ from_top v i && from_top w i
top_and v w i = ap (λ (x : Bool). ltb i 64 && x) (bit_of_and v w (63 - i)) ∙ by (ltb i 64) (bit v (63 - i)) (bit w (63 - i))
  where
    by : (t x y : Bool) → t && (x && y) ≡ (t && x) && (t && y)
    by true x y = refl
    by false x y = refl

pub up_more : (left right s found held : ℕ) → Filling (from_top left) (from_top right) s (from_top found) (from_top held) →
    Filling (from_top left) (from_top right) (s + s) (from_top (bit_or found (bit_and held (found * 2 ^ s % 2 ^ 64)))) (from_top (bit_and held (held * 2 ^ s % 2 ^ 64)))
up_more left right s found held f =
    filling_more (from_top left) (from_top right) s (from_top found) (from_top held)
    (from_top (bit_or found (bit_and held (found * 2 ^ s % 2 ^ 64)))) (from_top (bit_and held (held * 2 ^ s % 2 ^ 64))) f
    (λ i.
    top_or found (bit_and held (found * 2 ^ s % 2 ^ 64)) i
    ∙ ap (λ (x : Bool). from_top found i || x) (top_and held (found * 2 ^ s % 2 ^ 64) i ∙ ap (λ (x : Bool). from_top held i && x) (top_shifted found s i)))
    (λ i. top_and held (held * 2 ^ s % 2 ^ 64) i ∙ ap (λ (x : Bool). from_top held i && x) (top_shifted held s i))

pub up_filled : (left right s found held : ℕ) → 64 ≤ s → Filling (from_top left) (from_top right) s (from_top found) (from_top held) → FilledUp left right found
up_filled left right s found held far f = (
  at 0 (omega arith)
      ∙ ap (λ (x : Bool). bit right 0 || (bit left 0 && x)) (top_none found 64 (omega arith))
      ∙ by (bit right 0) (bit left 0),
  λ i h.
      let e : 63 - (suc (63 - suc i)) ≡ i = omega arith in
      at (suc i) h
      ∙ ap (λ (x : Bool). bit right (suc i) || (bit left (suc i) && x)) (top_below found (suc (63 - suc i)) (omega arith) ∙ ap (bit found) e),
)
  where
    by : (r l : Bool) → r || (l && false) ≡ r
    by true l = refl
    by false true = refl
    by false false = refl

    top_is : (w i : ℕ) → i < 64 → bit w i ≡ from_top w (63 - i)
    top_is w i h = let e : i ≡ 63 - (63 - i) = omega arith in ap (bit w) e ∙ sym (top_below w (63 - i) (omega arith))

    at : (i : ℕ) → i < 64 → bit found i ≡ bit right i || (bit left i && from_top found (suc (63 - i)))
    at i h =
        top_is found i h
        ∙ filled (from_top left) (from_top right) (top_none right) s (from_top found) (from_top held) far f (63 - i)
        ∙ ap₂ (λ (x y : Bool). x || (y && from_top found (suc (63 - i)))) (sym (top_is right i h)) (sym (top_is left i h))

-- n bits that are all set, or all clear
pub ones_bit : (n i : ℕ) → i < n → bit (2 ^ n - 1) i ≡ true
ones_bit n i h =
    let e : 2 ^ n - 1 ≡ 2 ^ n - 1 - 0 = omega arith in
    ap (λ (v : ℕ). bit v i) e ∙ bit_not n 0 i (pow_pos n) h ∙ ap negate (zero_bit i)

-- more bits in front
module _ (word n : ℕ) (few : n < 64) where
  pub prolonged : (front : ℕ) → front < 2 ^ n → Prolonged word front n (bit_or front (word * 2 ^ n % 2 ^ 64))
  prolonged front small = record {
    front_bits = λ i h.
        bit_of_or front (word * 2 ^ n % 2 ^ 64) i
        ∙ ap (λ (x : Bool). bit front i || x) (bit_mod (word * 2 ^ n) 64 i (omega arith) ∙ bit_before word n i h)
        ∙ by (bit front i);
    own = λ i h l.
        let e : i ≡ n + (i - n) = omega arith in
        bit_of_or front (word * 2 ^ n % 2 ^ 64) i
        ∙ ap (λ (x : Bool). x || bit (word * 2 ^ n % 2 ^ 64) i) (no_bit n front i small h)
        ∙ bit_mod (word * 2 ^ n) 64 i l
        ∙ ap (bit (word * 2 ^ n)) e
        ∙ bit_shifted word n (i - n);
  }
    where
      by : (x : Bool) → x || false ≡ x
      by true = refl
      by false = refl

-- a word of ones, cut off
cut : (end i : ℕ) → end ≤ 64 → bit (18446744073709551615 / 2 ^ (64 - end)) i ≡ ltb i end
cut end i few =
    bit_rest 18446744073709551615 (64 - end) i
    ∙ ⊎_elim
    (λ out. no_bit 64 18446744073709551615 (64 - end + i) (omega arith) (omega arith) ∙ sym (le-ltb i end out))
    (λ inside. ones_bit 64 (64 - end + i) (omega arith) ∙ sym (lt-ltb i end inside))
    (le_or_lt end i)

pub ones_are : (from end : ℕ) → from ≤ 64 → end ≤ 64 → 18446744073709551615 / 2 ^ (64 - from) < 2 ^ 64 →
    OnesBetween from end (bit_and (2 ^ 64 - 1 - 18446744073709551615 / 2 ^ (64 - from)) (18446744073709551615 / 2 ^ (64 - end)))
ones_are from end few few' small i h =
    bit_of_and (2 ^ 64 - 1 - 18446744073709551615 / 2 ^ (64 - from)) (18446744073709551615 / 2 ^ (64 - end)) i
    ∙ ap₂ (λ (x y : Bool). x && y)
    (bit_not 64 (18446744073709551615 / 2 ^ (64 - from)) i small h ∙ ap negate (cut from i few) ∙ turned)
    (cut end i few')
  where
    turned : negate (ltb i from) ≡ leb from i
    turned =
        ⊎_elim
        (λ out. ap negate (le-ltb i from out) ∙ sym (le-leb from i out))
        (λ inside. ap negate (lt-ltb i from inside) ∙ sym (lt-leb from i inside))
        (le_or_lt from i)
