-- `trace::letter_group` meets its contract. The loop's invariant: all positions but the first i are answered, one bit each, at the
-- letter's place in its byte. Assumes nothing.
use Prim.Native.Nat.{ℕ, ◌+◌, ◌*◌, ◌-◌, ◌/◌, ◌%◌, ◌^◌, ◌≤◌, ◌<◌}
use native.Mathlib.Nat.{lt_of_lt_of_le, add-mul, mul_assoc, mul_comm}
use native.Mathlib.Omega.{arith}
use mathlib.Core.Bool.{Bool}
use mathlib.Core.Path.{◌≡◌, refl, sym, ap, ◌∙◌}
use lib.Pow.{pow-add, pow_mono, shl_lt, shl-shr}
use Rattle.bits.specs.Packed.{number, Packed}
use Rattle.bits.proofs.Laws.{number_lt, packed_none, packed_front}
use Rattle.trace.specs.Format.{has_letter}
use Rattle.trace.proofs.letter_group.Invariants.{Answered}
use Rattle.trace.proofs.letter_group.Goals as goal

spread : (w d q : ℕ) → w * q * 2 + d * q ≡ (w * 2 + d) * q
spread w d q =
    let sum = add-mul (w * 2) d q in
    let swap : w * 2 * q ≡ w * q * 2 = mul_assoc w 2 q ∙ ap (λ (k : ℕ). w * k) (mul_comm 2 q) ∙ sym (mul_assoc w q 2) in
    omega arith

module _ (f : ℕ → Bool) (from n s : ℕ) where
  none_yet : Answered f from n s n 0
  none_yet =
      let e : n - n ≡ 0 = omega arith in
      record { inside = omega arith; answers = 0; small = rw e (omega arith); packed = rw e (packed_none f (from + n) 0); told = omega arith }

  -- no group is too long
  bound : (i word : ℕ) → n ≤ 32 → s < 8 → Answered f from n s i word → word < 2 ^ 40
  bound i word few low done =
      let most : (n - i) + s ≤ 40 = omega arith in
      rw done.told (lt_of_lt_of_le (shl_lt (n - i) s done.small) (pow_mono most))

  -- position i - 1 in front of them
  more : (i word r : ℕ) → 0 < i → n ≤ 32 → r ≡ number (f (from + (i - 1))) * 2 ^ s → Answered f from n s i word → Answered f from n s (i - 1) (word * 2 + r)
  more i word r h few e done =
      let x = f (from + (i - 1)) in
      let w = done.answers in
      let one : n - (i - 1) ≡ (n - i) + 1 = omega arith in
      let next : from + i ≡ (from + (i - 1)) + 1 = omega arith in
      record {
        inside = omega arith;
        answers = w * 2 + number x;
        small = rw one (omega (arith, done.small, pow-add 2 (n - i) 1, number_lt x));
        packed = rw one (packed_front f (from + (i - 1)) (n - i) w x (omega arith) refl (rw next at done.packed));
        told = rw (done.told, e) (spread w (number x) (2 ^ s));
      }

  all : (i word : ℕ) → i ≡ 0 → Answered f from n s i word → (word / 2 ^ s < 2 ^ n) × Packed f from n (word / 2 ^ s)
  all i word e done =
      let start : from + i ≡ from = omega arith in
      let size : n - i ≡ n = omega arith in
      rw (done.told, shl-shr done.answers s) (rw size at done.small, rw (start, size) at done.packed)

pub overflow_mul-answers : goal.overflow_mul-answers
overflow_mul-answers c =
    let a = c.args in
    let l = c.loop-i in
    record { fits = omega (arith, bound (has_letter a.records.now a.letter) a.from a.n (a.letter % 8) l.i l.answers (omega arith) (omega arith) l.invariant) }

pub overflow_add-answers : goal.overflow_add-answers
overflow_add-answers c =
    let a = c.args in
    let l = c.loop-i in
    let r = c.letter_bit.ensures.1 in
    record { fits = omega (arith, bound (has_letter a.records.now a.letter) a.from a.n (a.letter % 8) l.i l.answers (omega arith) (omega arith) l.invariant) }

pub loop-i-preserved : goal.loop-i-preserved
loop-i-preserved c =
    let a = c.args in
    let l = c.loop-i in
    more (has_letter a.records.now a.letter) a.from a.n (a.letter % 8) l.i l.answers c.letter_bit.result (omega arith) (omega arith)
    c.letter_bit.ensures.0 l.invariant

pub returns : goal.returns
returns c =
    let a = c.args in
    let l = c.loop-i in
    all (has_letter a.records.now a.letter) a.from a.n (a.letter % 8) l.i l.answers (omega arith) l.invariant
