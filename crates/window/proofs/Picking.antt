-- PICKING: a letter at the positions among records, as a word of answers. Assumes nothing.
use Prim.Native.Nat.{ℕ, ◌+◌, ◌-◌, ◌*◌, ◌%◌, ◌^◌, ◌≤◌, ◌<◌}
use native.Mathlib.Nat.{lt_of_lt_of_le, zero-add, add-zero, mul-one, mul-zero}
use native.Mathlib.Omega.{arith}
use mathlib.Core.Bool.{Bool, true, false}
use mathlib.Core.List.{List}
use mathlib.Core.Logic.{◌⊎◌}
use mathlib.Core.Path.{◌≡◌, refl, ap}
use lib.Pow.{pow_mono}
use Rattle.mtl.specs.Satisfaction.{any}
use Rattle.mtl.proofs.Bounded.{any_false_iff}
use Rattle.bits.specs.Packed.{number, Packed}
use Rattle.bits.proofs.Laws.{Pushed, pushed_none, grown, grown_fits, packed_none, packed_same}
use Rattle.trace.specs.Format.{record_count, has_letter}
use Rattle.trace.specs.Positions.{is_service, spot}
use Rattle.window.specs.Window.{some_service, letter_at, Picks, Lettered}
use Rattle.window.specs.declared.Picked.{Picked}
use Rattle.trace.proofs.Positions.{spot_plain}
use Rattle.window.proofs.Windows.{Going, going_none, going_group, going_all, going_behind, counted_none, counted_on, counted_all}

module _ (s : List ℕ) (letter from : ℕ) where
  -- the first k positions are answered, and those behind them stand from record `at` on: m of its records come next
  module _ (k at m w : ℕ) (left : (j : ℕ) → spot s from (k + j) ≡ spot s at j) (so_far : Pushed (letter_at true s letter from) 0 k w) (r : Picked)
      (picks : Picks s letter at m r) (few : k + r.count ≤ 64) where
    behind : (r.bits < 2 ^ r.count) × Packed (letter_at true s letter from) (0 + k) r.count r.bits
    behind = (
      picks.small,
      packed_same (letter_at true s letter at) (letter_at true s letter from) 0 (0 + k) r.count r.bits
          (λ i h. rw (zero-add k, zero-add i) (ap (has_letter s letter) (left i)))
          picks.packed,
    )

    pub picked_on : Pushed (letter_at true s letter from) 0 (k + r.count) (w + r.bits * 2 ^ k % 2 ^ 64)
    picked_on = grown (letter_at true s letter from) 0 k r.count r.bits w few behind so_far

    pub picked_fits : w + r.bits * 2 ^ k % 2 ^ 64 < 2 ^ 64
    picked_fits = grown_fits (letter_at true s letter from) 0 k r.count r.bits w few behind so_far

  -- k of n positions are passed, and the letter at them is picked
  abbrev pub Picking : (n k at bits : ℕ) → Type 0
  Picking n k at bits = Going s from n k at × Pushed (letter_at true s letter from) 0 k bits

  pub picking_none : (n : ℕ) → Picking n 0 from 0
  picking_none n = (going_none s from n, pushed_none (letter_at true s letter from) 0)

  -- m records more
  module _ (n k at bits m : ℕ) (picking : Picking n k at bits) (few : n ≤ 64) (fits : (k + m ≤ n) × (at + m ≤ record_count s)) (r : Picked)
      (picks : Picks s letter at m r) where
    room : k + r.count ≤ 64
    room = omega (arith, fits, picks.counted.few)

    pub picking_on : Picking n (k + r.count) (at + m) (bits + r.bits * 2 ^ k % 2 ^ 64)
    picking_on = (
      going_group s from n k at picking.0 m fits.0 fits.1 r.count picks.counted.sum,
      picked_on k at m bits picking.0.left picking.1 r picks room,
    )

    pub picking_fits : bits + r.bits * 2 ^ k % 2 ^ 64 < 2 ^ 64
    picking_fits = picked_fits k at m bits picking.0.left picking.1 r picks room

  -- n records that are all positions
  pub picks_plain : (n bits : ℕ) → from + n ≤ record_count s → some_service s from n ≡ false → (bits < 2 ^ n) × Packed (has_letter s letter) from n bits →
      Picks s letter from n (record { bits = bits; count = n })
  picks_plain n bits fits none (small, packed) =
      let plain = (any_false_iff n (λ i. is_service s (from + i))).0 none in
      record {
        counted = counted_all s from n none;
        small = small;
        packed =
            packed_same (has_letter s letter) (letter_at true s letter from) from 0 n bits
            (λ i h. rw (zero-add i) (ap (has_letter s letter) (spot_plain s from n fits plain i h)))
            packed;
      }

  -- one record, which is a position or not
  pub picks_one : (x bits : ℕ) → from < record_count s → x ≡ number (is_service s from) → (bits < 2 ^ 1) × Packed (has_letter s letter) from 1 bits →
      Picks s letter from 1 (record { bits = bits * (1 - x); count = 1 - x })
  unfolding any
  picks_one x bits inside e gave = by (is_service s from) refl
    where
      by : (b : Bool) → is_service s from ≡ b → Picks s letter from 1 (record { bits = bits * (1 - x); count = 1 - x })
      by true service =
          let none : 1 - x ≡ 0 = omega (arith, ap number service) in
          let counted = rw (add-zero from, zero-add (1 - x)) at (counted_on s from 0 0 x) e (counted_none s from) in
          rw (none, mul-zero bits) (record { counted = rw none at counted; small = omega arith; packed = packed_none (letter_at true s letter from) 0 0 })
      by false plain =
          let one : 1 - x ≡ 1 = omega (arith, ap number plain) in
          let none : some_service s from 1 ≡ false = rw (add-zero from) plain in
          rw (one, mul-one bits) (picks_plain 1 bits (omega arith) none gave)

  -- all that are there are picked
  pub lettered : (n k at bits : ℕ) → Picking n k at bits → (n ≤ k) ⊎ (record_count s ≤ at) → Lettered true s letter from n (record { bits = bits; end = at })
  lettered n k at bits (g, pushed) ended =
      let behind = going_behind s from n k at g ended in
      record {
        answers = λ inside. rw (going_all s from n k at g ended inside) at pushed.packed;
        onward = behind.onward;
        bounded = behind.bounded;
        end = behind.end;
      }

  pub picks_fit : (n : ℕ) (r : Picked) → n ≤ 64 → Picks s letter from n r → r.bits < 2 ^ 64
  picks_fit n r few picks =
      let most : r.count ≤ 64 = omega (arith, picks.counted.few) in
      lt_of_lt_of_le picks.small (pow_mono most)
