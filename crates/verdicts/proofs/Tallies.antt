-- The counts of a sheet, byte by byte and formula by formula. Assumes nothing.
use Prim.Native.Nat.{ℕ, zero, suc, ◌+◌, ◌-◌, ◌/◌, ◌%◌, ◌≤◌, ◌<◌, ◌^◌}
use native.Mathlib.Nat.{zero-div}
use native.Mathlib.Numerals.{add-one}
use native.Mathlib.Omega.{arith}
use mathlib.Core.Bool.{Bool, true, false, cond, ◌||◌, beq}
use mathlib.Core.List.{List, ◌++◌}
use mathlib.Core.Path.{◌≡◌, refl, sym, ap, ◌∙◌}
use lib.Bits.{bit_or, or_zero_l, or_add_and, and_le_r, or_shr}
use lib.Dec.{ltb}
use lib.ListN.{length, get_or, drop}
use borrow.Author.Tests.{ltb-false, lt-ltb}
use Rattle.std.specs.Prelude.{Err}
use Rattle.refusal.specs.declared.Refusal.TheVariants.{SheetByte}
use Rattle.mtl.specs.Satisfaction.{any}
use Rattle.mtl.proofs.Bounded.{true_and_false}
use Rattle.bits.specs.Packed.{bit, number}
use Rattle.bits.proofs.Laws.{number_bit}
use Rattle.verdicts.specs.Counts.{count_of, counts}
use Rattle.verdicts.specs.Tally.{formulas_outside, beyond, answer, Tallies}

-- BITS BEYOND THE FORMULAS', of all bytes taken together

positive : (x y : ℕ) → ltb 0 (bit_or x y) ≡ ltb 0 x || ltb 0 y
positive zero y = ap (ltb 0) (or_zero_l y)
positive (suc x) y =
    let sum = or_add_and (suc x) y in
    let less = and_le_r (suc x) y in
    lt-ltb 0 (bit_or (suc x) y) (omega arith) ∙ rw (lt-ltb 0 (suc x) (omega arith))

pub none_beyond : (formulas : ℕ) (s : List ℕ) → ltb 0 (0 / 2 ^ formulas) ≡ any 0 (beyond formulas s)
unfolding any
none_beyond formulas s = ap (ltb 0) (zero-div (2 ^ formulas))

pub beyond_more : (formulas : ℕ) (s : List ℕ) (i all : ℕ) → ltb 0 (all / 2 ^ formulas) ≡ any i (beyond formulas s) →
    ltb 0 (bit_or all (get_or s i 0) / 2 ^ formulas) ≡ any (i + 1) (beyond formulas s)
unfolding any
beyond_more formulas s i all so_far =
    ap (ltb 0) (or_shr all (get_or s i 0) formulas)
    ∙ positive (all / 2 ^ formulas) (get_or s i 0 / 2 ^ formulas)
    ∙ ap (λ (b : Bool). b || beyond formulas s i) so_far
    ∙ ap (λ (n : ℕ). any n (beyond formulas s)) (sym (add-one i))

module _ (k : ℕ) (s : List ℕ) where
  pub count_none : (x : Bool) → 0 ≡ count_of x k s 0
  unfolding count_of
  count_none x = refl

  number_is : (b : Bool) → cond (beq b true) 1 0 ≡ number b
  number_is true = refl
  number_is false = refl

  -- one byte more counts by its bit
  pub count_yes_more : (i : ℕ) → count_of true k s (i + 1) ≡ count_of true k s i + get_or s i 0 / 2 ^ k % 2
  unfolding count_of
  count_yes_more i =
      ap (count_of true k s) (add-one i)
      ∙ ap (λ (v : ℕ). count_of true k s i + v) (number_is (bit (get_or s i 0) k) ∙ number_bit (get_or s i 0) k)

  pub count_le : (x : Bool) (n : ℕ) → count_of x k s n ≤ n
  unfolding count_of
  count_le x zero = omega arith
  count_le x (suc n) = by (beq (bit (get_or s n 0) k) x) (count_le x n)
    where
      by : (b : Bool) → count_of x k s n ≤ n → count_of x k s n + cond b 1 0 ≤ suc n
      by true h = omega arith
      by false h = omega arith

  -- a byte is no or yes
  pub count_both : (n : ℕ) → count_of false k s n + count_of true k s n ≡ n
  unfolding count_of
  count_both zero = refl
  count_both (suc n) = by (bit (get_or s n 0) k) (count_both n)
    where
      by : (b : Bool) → count_of false k s n + count_of true k s n ≡ n →
          count_of false k s n + cond (beq b false) 1 0 + (count_of true k s n + cond (beq b true) 1 0) ≡ suc n
      by true e = omega arith
      by false e = omega arith

  pub count_no_is : (n : ℕ) → n - count_of true k s n ≡ count_of false k s n
  count_no_is n = omega (arith, count_both n)

-- THE ANSWER

or-false : (a b : Bool) → a || b ≡ false → (a ≡ false) × (b ≡ false)
or-false false b e = (refl, e)
or-false true b e = let z : true ≡ false = e in absurd (true_and_false refl z)

pub inside : (formulas : ℕ) → formulas_outside formulas ≡ false → (0 < formulas) × (formulas ≤ 8)
inside formulas e =
    let (low, high) = or-false (ltb formulas 1) (ltb 8 formulas) e in
    (ltb-false formulas 1 low, ltb-false 8 formulas high)

-- 15, and nothing is written
pub refuses : (formulas : ℕ) (s nos yeses : List ℕ) → formulas_outside formulas || any (length s) (beyond formulas s) ≡ true →
    Tallies formulas s nos yeses (answer (Err SheetByte)) nos yeses
refuses formulas s nos yeses e = record { outcome = rw e; no_counts = refl; yes_counts = refl }
