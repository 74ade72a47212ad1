-- The digits of a number in decimal: how many there are, and that `io::decimal` gives them. Assumes nothing.
use Prim.Native.Nat.{ℕ, zero, suc, ◌+◌, ◌-◌, ◌/◌, ◌%◌, ◌^◌, ◌≤◌, ◌<◌}
use mathlib.Core.Path.{◌≡◌, sym, ◌∙◌, ap, ap₂}
use mathlib.Core.List.{List, [], ◌∷◌, ◌++◌}
use mathlib.Core.Logic.{⊎_elim}
use native.Mathlib.Nat.{pow-suc, one-le-pow}
use native.Mathlib.Omega.{arith}
use lib.ListN.{length, take, length-append}
use borrow.Author.Tests.{lt-ltb, le-ltb}
use Rattle.io.specs.Digits.{hex_digit_ascii, last_digits, IsDigitCount}
use Rattle.mtl.proofs.Bounded.{le_or_lt}
use Rattle.decimal.specs.Text.{decimal_in, decimal}

-- a number of one digit, and one of more
one_digit : (k n : ℕ) → n < 10 → decimal_in (suc k) n ≡ (48 + n % 10) ∷ []
unfolding decimal_in
one_digit k n h = rw (lt-ltb n 10 h)

more_digits : (k n : ℕ) → 10 ≤ n → decimal_in (suc k) n ≡ decimal_in k (n / 10) ++ ((48 + n % 10) ∷ [])
unfolding decimal_in
more_digits k n h = rw (le-ltb n 10 h)

-- a number below 10 to the power of k has at most k digits
pub few_digits : (places k n : ℕ) → n < 10 ^ suc k → length (decimal_in places n) ≤ suc k
unfolding decimal_in
few_digits zero k n h = omega arith
few_digits (suc p) zero n h = rw (one_digit p n (omega arith)) (omega arith)
few_digits (suc p) (suc k) n h =
    ⊎_elim
    (λ (l : 10 ≤ n).
    let below : n / 10 < 10 ^ suc k = omega (arith, pow-suc 10 (suc k)) in
    let fewer = few_digits p k (n / 10) below in
    let sum = length-append (decimal_in p (n / 10)) ((48 + n % 10) ∷ []) in
    rw (more_digits p n l) (omega arith))
    (λ (l : n < 10). rw (one_digit p n l) (omega arith))
    (le_or_lt 10 n)

-- the last digit as `io` has it
digit : (n : ℕ) → hex_digit_ascii (n % 10) ≡ 48 + n % 10
digit n = rw (lt-ltb (n % 10) 10 (omega arith))

-- the fewest digits that hold a number are its decimal
spelled : (places k n : ℕ) → n < places → n < 10 ^ suc k → (0 < k → 10 ^ k ≤ n) → last_digits 10 (suc k) n ≡ decimal_in places n
spelled zero k n few below above = absurd (omega arith)
spelled (suc p) zero n few below above = ap (λ d. d ∷ []) (digit n) ∙ sym (one_digit p n (omega arith))
spelled (suc p) (suc k) n few below above =
    let large = above (omega arith) in
    let some : 10 ≤ n = omega (arith, pow-suc 10 k, one-le-pow k 10 (omega arith)) in
    let tenth = spelled p k (n / 10) (omega arith) (omega (arith, pow-suc 10 (suc k))) (λ h. omega (arith, pow-suc 10 k)) in
    ap₂ (λ ds d. ds ++ (d ∷ [])) tenth (digit n) ∙ sym (more_digits p n some)

pub decimal_of : (n k : ℕ) (out : List ℕ) → IsDigitCount 10 1 n k → take k out ≡ last_digits 10 k n → take k out ≡ decimal n
decimal_of n zero out fewest e = absurd (omega (arith, fewest.0))
decimal_of n (suc k) out fewest e =
    let back : suc k - 1 ≡ k = omega arith in
    e ∙ spelled (suc n) k n (omega arith) fewest.1 (λ h. rw back at (fewest.2 (omega arith)))

pub four_digits : (n : ℕ) → n < 10000 → length (decimal n) ≤ 4
four_digits n h = few_digits (suc n) 3 n h

-- a number of 32 bits
pub ten_digits : (n : ℕ) → n < 4294967296 → length (decimal n) ≤ 10
ten_digits n h = few_digits (suc n) 9 n (omega arith)
