-- Numbers below 256 as the bytes of a word. Assumes nothing.
-- (Examples is named first so that the worked rows are checked before any law.)
use Rattle.verdicts.specs.Examples
use Prim.Native.Nat.{ℕ, zero, suc, ◌+◌, ◌*◌, ◌/◌, ◌%◌, ◌<◌, ◌^◌}
use native.Mathlib.Omega.{arith}
use mathlib.Core.Bool.{Bool, true}
use mathlib.Core.Path.{◌≡◌, refl, sym, ap, ap₂, ◌∙◌}
use lib.Bits.{bit_and}
use lib.Dec.{eqb}
use lib.Pow.{pow-add, shr-shr}
use borrow.Author.Tests.{eqb-true}
use Rattle.mtl.specs.Satisfaction.{all}
use Rattle.mtl.proofs.Bounded.{all_iff}
use Rattle.bits.specs.Packed.{bit, number}
use Rattle.bits.proofs.Laws.{number_lt}
use Rattle.verdicts.specs.Code.{packed, spread_bits}

pub packed_same : (f g : ℕ → ℕ) (n : ℕ) → ((i : ℕ) → i < n → f i ≡ g i) → packed f n ≡ packed g n
unfolding packed
packed_same f g zero same = refl
packed_same f g (suc n) same =
    ap₂ (λ (x y : ℕ). x + 256 * y) (same 0 (omega arith))
    (packed_same (λ i. f (suc i)) (λ i. g (suc i)) n (λ i h. same (suc i) (omega arith)))

-- bytes of which each is one number and twice another
pub packed_twice : (f g : ℕ → ℕ) (n : ℕ) → packed (λ i. f i + 2 * g i) n ≡ 2 * packed g n + packed f n
unfolding packed
packed_twice f g zero = refl
packed_twice f g (suc n) = omega (arith, packed_twice (λ i. f (suc i)) (λ i. g (suc i)) n)

pub packed_zero : (n : ℕ) → packed (λ _. 0) n ≡ 0
unfolding packed
packed_zero zero = refl
packed_zero (suc n) = omega (arith, packed_zero n)

pub packed_lt : (f : ℕ → ℕ) (n : ℕ) → ((i : ℕ) → i < n → f i < 256) → packed f n < 2 ^ (8 * n)
unfolding packed
packed_lt f zero small = omega arith
packed_lt f (suc n) small =
    let more : 8 * suc n ≡ 8 + 8 * n = omega arith in
    let rest = packed_lt (λ i. f (suc i)) n (λ i h. small (suc i) (omega arith)) in
    let first = small 0 (omega arith) in
    rw more (omega (arith, pow-add 2 8 (8 * n)))

-- each is found in its byte
pub packed_at : (f : ℕ → ℕ) (n r : ℕ) → ((i : ℕ) → i < n → f i < 256) → r < n → packed f n / 2 ^ (8 * r) % 256 ≡ f r
unfolding packed
packed_at f zero r small h = absurd (omega arith)
packed_at f (suc n) zero small h = let first = small 0 (omega arith) in omega arith
packed_at f (suc n) (suc r) small h =
    let first = small 0 (omega arith) in
    let tail = packed (λ i. f (suc i)) n in
    let more : 8 * suc r ≡ 8 + 8 * r = omega arith in
    let behind : (f 0 + 256 * tail) / 2 ^ 8 ≡ tail = omega arith in
    ap (λ (k : ℕ). (f 0 + 256 * tail) / 2 ^ k % 256) more
    ∙ ap (λ (v : ℕ). v % 256) (sym (shr-shr (f 0 + 256 * tail) 8 (8 * r)) ∙ ap (λ (v : ℕ). v / 2 ^ (8 * r)) behind)
    ∙ packed_at (λ i. f (suc i)) n r (λ i l. small (suc i) (omega arith)) (omega arith)

-- THE BITS OF A BYTE, EACH IN A BYTE OF ITS OWN: by a product and a mask, a test that is computed for each of the 256 bytes

abbrev pub by_product : ℕ → ℕ
by_product b = bit_and (b % 128 * 567382630219905) 72340172838076673 + b / 128 * 72057594037927936

right : ℕ → Bool
right b = eqb (by_product b) (spread_bits b)

all_right : all 256 right ≡ true
unfolding all packed right
all_right = refl

pub spread_is : (b : ℕ) → b < 256 → by_product b ≡ spread_bits b
unfolding right
spread_is b h = eqb-true (by_product b) (spread_bits b) ((all_iff 256 right).0 all_right b h)

pub spread_lt : (b : ℕ) → spread_bits b < 2 ^ 64
spread_lt b = packed_lt (λ i. number (bit b i)) 8 (λ i h. omega (arith, number_lt (bit b i)))
