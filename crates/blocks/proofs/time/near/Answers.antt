-- `blocks::time::near` meets its contract. Assumes nothing.
use Prim.Native.Nat.{ℕ, ◌+◌, ◌-◌, ◌^◌, ◌<◌}
use native.Mathlib.Omega.{arith}
use mathlib.Core.Bool.{Bool, true, false, ◌&&◌}
use mathlib.Core.Bool.{not as negate}
use mathlib.Core.List.{List}
use mathlib.Core.Logic.{⊎_elim}
use mathlib.Core.Path.{◌≡◌, refl, ap, sym, ◌∙◌}
use lib.Bits.{bit_and}
use lib.Dec.{leb}
use lib.ListN.{get_or}
use borrow.Author.Tests.{le-leb, lt-leb}
use Rattle.mtl.proofs.Bounded.{within_small, le_or_lt}
use Rattle.bits.specs.Packed.{Packed}
use Rattle.bits.proofs.Laws.{packed_same, packed_and, packed_not}
use Rattle.trace.specs.Format.{time_at}
use Rattle.trace.proofs.Laws.{time_bound}
use Rattle.blocks.specs.Near.{close_after, near_after}
use Rattle.blocks.proofs.time.near.Goals as goal

-- low ≤ gap where the gap is not below low
not_below : (low gap : ℕ) → 0 < low → leb low gap ≡ negate (leb gap (low - 1))
not_below low gap some =
    ⊎_elim
    (λ h. le-leb low gap h ∙ sym (ap negate (lt-leb gap (low - 1) (omega arith))))
    (λ h. lt-leb low gap h ∙ sym (ap negate (le-leb gap (low - 1) (omega arith))))
    (le_or_lt low gap)

swap : (a b : Bool) → b && a ≡ a && b
swap true true = refl
swap true false = refl
swap false true = refl
swap false false = refl

module _ (s : List ℕ) (byte : (k : ℕ) → get_or s k 0 < 256) (low high n : ℕ) where
  abbrev gap : ℕ → ℕ
  gap i = time_at s (i + 1) - time_at s i

  -- both ends, each a test of the gap
  ends : (i : ℕ) → near_after low high (time_at s) i ≡ leb low (gap i) && leb (gap i) high
  ends i = within_small low high (time_at s i) (time_at s (i + 1)) (omega (arith, time_bound s byte (i + 1)))

  from_none : (word : ℕ) → low ≡ 0 → Packed (close_after high (time_at s)) 0 n word → Packed (near_after low high (time_at s)) 0 n word
  from_none word e =
      packed_same (close_after high (time_at s)) (near_after low high (time_at s)) 0 0 n word
      (λ i h. ends (0 + i) ∙ ap (λ (b : Bool). b && leb (gap (0 + i)) high) (le-leb low (gap (0 + i)) (omega arith)))

  from_low : (v w : ℕ) → 0 < low → w < 2 ^ 64 → Packed (close_after high (time_at s)) 0 n v → Packed (close_after (low - 1) (time_at s)) 0 n w →
      Packed (near_after low high (time_at s)) 0 n (bit_and v (2 ^ 64 - 1 - w))
  from_low v w some small upper lower =
      packed_same (λ i. close_after high (time_at s) i && negate (close_after (low - 1) (time_at s) i)) (near_after low high (time_at s)) 0 0 n
      (bit_and v (2 ^ 64 - 1 - w))
      (λ i h.
      ends (0 + i)
      ∙ ap (λ (b : Bool). b && leb (gap (0 + i)) high) (not_below low (gap (0 + i)) some)
      ∙ swap (leb (gap (0 + i)) high) (negate (leb (gap (0 + i)) (low - 1))))
      (packed_and (close_after high (time_at s)) (λ i. negate (close_after (low - 1) (time_at s) i)) 0 n v (2 ^ 64 - 1 - w) upper
      (packed_not (close_after (low - 1) (time_at s)) 0 n w small lower))

pub returns-then-low-eq0 : goal.returns-then-low-eq0
returns-then-low-eq0 c =
    let a = c.args in
    from_none a.window.now (λ k. (c.type_inv.window k).fits) a.low a.high a.n c.close-answers.result (omega arith) c.close-answers.ensures

pub returns : goal.returns
returns c =
    let a = c.args in
    from_low a.window.now (λ k. (c.type_inv.window k).fits) a.low a.high a.n c.close-answers.result c.close.result (omega arith) (omega arith) c.close-answers.ensures c.close.ensures
