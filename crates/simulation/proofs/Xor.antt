-- `xor` is the exclusive or of the machine, and no step of the generator leads to 0. Assumes nothing.
use Prim.Native.Nat.{ℕ, zero, suc, ◌+◌, ◌*◌, ◌/◌, ◌%◌, ◌^◌, ◌<◌}
use native.Mathlib.Nat.{pos_of_ne-zero, pow-suc}
use native.Mathlib.Omega.{arith}
use mathlib.Core.Path.{◌≡◌, refl, sym, ap₂, ◌∙◌}
use lib.Bits.{differ, bit_xor, xor_step}
use Rattle.simulation.specs.Generator.{xor, shift_left, shift_right, xorshift, state_after}

digit : (x y : ℕ) → x < 2 → y < 2 → differ x y ≡ (x + y) % 2
digit zero zero hx hy = refl
digit zero (suc zero) hx hy = refl
digit (suc zero) zero hx hy = refl
digit (suc zero) (suc zero) hx hy = refl
digit zero (suc (suc y)) hx hy = absurd (omega arith)
digit (suc zero) (suc (suc y)) hx hy = absurd (omega arith)
digit (suc (suc x)) y hx hy = absurd (omega arith)

half : (n a : ℕ) → a < 2 ^ suc n → a / 2 < 2 ^ n
half n a h = omega (arith, pow-suc 2 n)

pub xor_is : (n a b : ℕ) → a < 2 ^ n → b < 2 ^ n → xor n a b ≡ bit_xor a b
unfolding xor
xor_is zero a b ha hb = let ea : a ≡ 0 = omega arith in let eb : b ≡ 0 = omega arith in rw (ea, eb)
xor_is (suc n) a b ha hb =
    let first : (a + b) % 2 ≡ (a % 2 + b % 2) % 2 = omega arith in
    ap₂ (λ (x y : ℕ). x * 2 + y) (xor_is n (a / 2) (b / 2) (half n a ha) (half n b hb))
    (first ∙ sym (digit (a % 2) (b % 2) (omega arith) (omega arith)))
    ∙ sym (xor_step a b)

pub xor_bound : (n a b : ℕ) → xor n a b < 2 ^ n
unfolding xor
xor_bound zero a b = omega arith
xor_bound (suc n) a b = omega (arith, xor_bound n (a / 2) (b / 2), pow-suc 2 n)

-- only equal numbers have nothing left
xor_zero : (n a b : ℕ) → a < 2 ^ n → b < 2 ^ n → xor n a b ≡ 0 → a ≡ b
unfolding xor
xor_zero zero a b ha hb e = omega arith
xor_zero (suc n) a b ha hb e =
    let rest = xor_zero n (a / 2) (b / 2) (half n a ha) (half n b hb) (omega arith) in
    omega arith

-- a step from a number that is not 0: each shift leaves it so

multiple : (x a b : ℕ) → x + 2 ^ 32 * a ≡ 2 ^ 32 * b → x < 2 ^ 32 → x ≡ 0
multiple x a b e small = omega arith

module _ (x : ℕ) (small : x < 2 ^ 32) (some : 0 < x) where
  not_zero : (y : ℕ) → y < 2 ^ 32 → (x ≡ y → ⊥) → 0 < xor 32 x y
  not_zero y h differ = pos_of_ne-zero (λ e. differ (xor_zero 32 x y small h e))

  -- 8191 and 31 are odd: they have inverses
  left_13 : 0 < shift_left x 13
  left_13 = not_zero (x * 2 ^ 13 % 2 ^ 32) (omega arith) (λ e. omega (arith, multiple x (8063 * x) (4227850239 * (x * 2 ^ 13 / 2 ^ 32)) (omega arith) small))

  right_17 : 0 < shift_right x 17
  right_17 = not_zero (x / 2 ^ 17) (omega arith) (λ e. omega arith)

  left_5 : 0 < shift_left x 5
  left_5 = not_zero (x * 2 ^ 5 % 2 ^ 32) (omega arith) (λ e. omega (arith, multiple x (23 * x) (3186588639 * (x * 2 ^ 5 / 2 ^ 32)) (omega arith) small))

step_some : (x : ℕ) → x < 2 ^ 32 → 0 < x → 0 < xorshift x
step_some x small some =
    let first = shift_left x 13 in
    let second = shift_right first 17 in
    left_5 second (xor_bound 32 first (first / 2 ^ 17)) (right_17 first (xor_bound 32 x (x * 2 ^ 13 % 2 ^ 32)) (left_13 x small some))

-- "a non-zero 32-bit seed" stays one
pub state_in_range : (seed n : ℕ) → seed < 2 ^ 32 → 0 < seed → (state_after seed n < 2 ^ 32) × (0 < state_after seed n)
unfolding state_after
state_in_range seed zero small some = (small, some)
state_in_range seed (suc n) small some =
    let x = state_after seed n in
    let before = state_in_range seed n small some in
    let last = shift_right (shift_left x 13) 17 in
    (xor_bound 32 last (last * 2 ^ 5 % 2 ^ 32), step_some x before.0 before.1)
