-- `trace::letter_bit` meets its contract: the byte read is the one of the event set that has the letter's bit.
-- Assumes nothing.
use Prim.Native.Nat.{ℕ, zero, suc, ◌+◌, ◌-◌, ◌*◌, ◌/◌, ◌%◌, ◌<◌, ◌^◌}
use native.Mathlib.Nat.{lt_of_le_of_lt}
use native.Mathlib.Omega.{arith}
use mathlib.Core.Bool.{Bool}
use mathlib.Core.List.{List}
use mathlib.Core.Path.{◌≡◌, sym, ap, ◌∙◌}
use lib.Bits.{bit_and, and_le_l}
use lib.ListN.{get_or}
use lib.Pow.{shl_exact}
use Rattle.bits.specs.Packed.{bit, number}
use Rattle.bits.proofs.Laws.{bit_mod, bit_rest, mask_bit}
use Rattle.trace.specs.Format.{word_at, has_letter}
use Rattle.trace.proofs.letter_bit.Goals as goal

module _ (s : List ℕ) (bytes : (i : ℕ) → get_or s i 0 < 256) where
  -- byte j of four, counted from the last
  byte_of : (at j : ℕ) → j < 4 → word_at s at / 2 ^ (j * 8) % 2 ^ 8 ≡ get_or s (at + (3 - j)) 0
  byte_of at zero h = omega (arith, bytes (at + 3))
  byte_of at (suc zero) h = omega (arith, bytes (at + 2), bytes (at + 3))
  byte_of at (suc (suc zero)) h = omega (arith, bytes (at + 1), bytes (at + 2), bytes (at + 3))
  byte_of at (suc (suc (suc zero))) h =
      let first : word_at s at / 2 ^ 24 % 2 ^ 8 ≡ get_or s at 0 = omega (arith, bytes at, bytes (at + 1), bytes (at + 2), bytes (at + 3)) in
      first ∙ ap (λ (n : ℕ). get_or s n 0) (omega arith)
  byte_of at (suc (suc (suc (suc j)))) h = absurd (omega arith)

  bit_of : (i k : ℕ) → k < 32 → bit (get_or s (i * 8 + (7 - k / 8)) 0) (k % 8) ≡ has_letter s k i
  bit_of i k h =
      let w = word_at s (i * 8 + 4) in
      ap (λ (n : ℕ). bit (get_or s n 0) (k % 8)) (omega arith)
      ∙ ap (λ (v : ℕ). bit v (k % 8)) (sym (byte_of (i * 8 + 4) (k / 8) (omega arith)))
      ∙ bit_mod (w / 2 ^ (k / 8 * 8)) 8 (k % 8) (omega arith)
      ∙ bit_rest w (k / 8 * 8) (k % 8)
      ∙ ap (bit w) (omega arith)

-- a mask of one bit, as the code makes it
masked : (w s : ℕ) → s < 8 → bit_and w (1 * 2 ^ s % 2 ^ 64) ≡ number (bit w s) * 2 ^ s
masked w s h =
    let exact = shl_exact {a = 1} 1 s 64 (omega arith) (omega arith) in
    let one : 1 * 2 ^ s % 2 ^ 64 ≡ 2 ^ s = omega arith in
    ap (bit_and w) one ∙ mask_bit w s

pub returns : goal.returns
returns c =
    let a = c.args in
    let s = a.records.now in
    let bytes : (i : ℕ) → get_or s i 0 < 256 = λ i. (c.type_inv.records i).fits in
    let w = c.from.result in
    let here : bit w (a.letter % 8) ≡ has_letter s a.letter a.i = rw c.from.ensures (bit_of s bytes a.i a.letter (omega arith)) in
    let small : w < 256 = rw c.from.ensures (bytes (a.i * 8 + (7 - a.letter / 8))) in (
      masked w (a.letter % 8) (omega arith) ∙ ap (λ (x : Bool). number x * 2 ^ (a.letter % 8)) here,
      lt_of_le_of_lt (and_le_l w (1 * 2 ^ (a.letter % 8) % 2 ^ 64)) small,
    )
