-- Runs of positions without a mark: times never fall, so that those of a run that are old enough are its last.
use Prim.Native.Nat.{ℕ, zero, suc, ◌+◌, ◌-◌, ◌/◌, ◌≤◌, ◌<◌, ◌^◌}
use native.Mathlib.Nat.{add-zero, zero-add}
use native.Mathlib.Omega.{arith}
use mathlib.Core.Bool.{Bool, true, false, cond, ◌&&◌, ◌||◌}
use mathlib.Core.Bool.{not as negate}
use mathlib.Core.Logic.{⊎_elim}
use mathlib.Core.Path.{◌≡◌, refl, sym, ap, ap₂, ◌∙◌}
use lib.Bits.{bit_and, bit_or}
use lib.Dec.{leb, ltb}
use borrow.Author.Tests.{le-leb, lt-leb, le-ltb, lt-ltb}
use Rattle.mtl.proofs.Bounded.{le_or_lt}
use Rattle.bits.specs.Packed.{bit, last_zero, Packed, OnesBetween}
use Rattle.bits.proofs.Laws.{bit_rest, bit_not, bit_of_or, packed_same, packed_not, packed_and}
use Rattle.bits.proofs.Filling.{zero_bit}
use Rattle.bits.proofs.Zeros.{one_behind_last, zero_within}
use Rattle.blocks.specs.Ring.{newest_at, in_reach, Rises}
use Rattle.since.specs.Old.{old_enough, FirstOld}
use Rattle.since.proofs.Newest.{newest_none, newest_more}

module _ (low : ℕ) (at : ℕ → ℕ) (marks first n : ℕ) where
  -- positions without a mark: the last mark stays
  unmarked : (from k : ℕ) → ((j : ℕ) → from ≤ j → j < from + k → bit marks j ≡ false) → newest_at at marks first (from + k) ≡ newest_at at marks first from
  unmarked from zero none = ap (newest_at at marks first) (add-zero from)
  unmarked from (suc k) none =
      let e : from + suc k ≡ from + k + 1 = omega arith in
      ap (newest_at at marks first) e
      ∙ newest_more at marks first (from + k)
      ∙ ap (λ (b : Bool). cond b (at (from + k)) (newest_at at marks first (from + k))) (none (from + k) (omega arith) (omega arith))
      ∙ unmarked from k (λ j a b. none j a (omega arith))

  in_run : (from end i : ℕ) → ((j : ℕ) → from ≤ j → j < end → bit marks j ≡ false) → from ≤ i → i ≤ end →
      newest_at at marks first i ≡ newest_at at marks first from
  in_run from end i none a b =
      let e : i ≡ from + (i - from) = omega arith in
      ap (newest_at at marks first) e ∙ unmarked from (i - from) (λ j c d. none j c (omega arith))

  -- one with a mark is not old
  not_old : 0 < low → (i : ℕ) → bit marks i ≡ true → old_enough low at marks first i ≡ false
  not_old positive i e =
      let s : suc i ≡ i + 1 = omega arith in
      let here : newest_at at marks first (suc i) ≡ at i =
      ap (newest_at at marks first) s ∙ newest_more at marks first i ∙ ap (λ (b : Bool). cond b (at i) (newest_at at marks first i)) e in
      lt-leb low (at i - newest_at at marks first (suc i)) (omega arith)

  -- from `end` on the word says which are old enough
  pub record Settled (end answers : ℕ) : Type 0 where
    pub behind : (i : ℕ) → end ≤ i → i < n → bit answers i ≡ old_enough low at marks first i
    pub before : (i : ℕ) → i < end → bit answers i ≡ false

  pub settled_none : 0 < low → Settled (last_zero n marks) 0
  settled_none positive = record {
    behind = λ i a h. zero_bit i ∙ sym (not_old positive i (one_behind_last n marks i a h));
    before = λ i h. zero_bit i;
  }

  -- one run more
  module _ (positive : 0 < low) (rises : Rises at n first) (few : n ≤ 64) (small : marks < 2 ^ 64) {end answers : ℕ} (inside : end ≤ n) (so_far : Settled end answers)
      {from last old : ℕ} (word : ℕ) (start : from ≡ last_zero end (2 ^ 64 - 1 - marks)) (newest : last ≡ newest_at at marks first end)
      (found : FirstOld low last at from end old) (ones : OnesBetween old end word) where
    none : (j : ℕ) → from ≤ j → j < end → bit marks j ≡ false
    none j a h =
        by (bit marks j) (sym (bit_not 64 marks j small (omega arith)) ∙ one_behind_last end (2 ^ 64 - 1 - marks) j (omega arith) h)
      where
        by : (x : Bool) → negate x ≡ true → x ≡ false
        by true e = sym e
        by false e = refl

    bit_is : (i : ℕ) → i < 64 → bit (bit_or answers word) i ≡ bit answers i || (leb old i && ltb i end)
    bit_is i h = bit_of_or answers word i ∙ ap (λ (x : Bool). bit answers i || x) (ones i h)

    later : (i : ℕ) → end ≤ i → i < n → bit (bit_or answers word) i ≡ bit answers i
    later i a h = bit_is i (omega arith) ∙ rw (le-ltb i end a) (by (bit answers i) (leb old i))
      where
        by : (x y : Bool) → x || (y && false) ≡ x
        by true y = refl
        by false true = refl
        by false false = refl

    earlier : (i : ℕ) → i < old → i < end → bit (bit_or answers word) i ≡ false
    earlier i a h = bit_is i (omega arith) ∙ rw (so_far.before i h, lt-leb old i a) refl

    since : (i : ℕ) → old ≤ i → i < end → bit (bit_or answers word) i ≡ true
    since i a h = bit_is i (omega arith) ∙ rw (so_far.before i h, le-leb old i a, lt-ltb i end h) refl

    -- the run's own time
    gap_is : (i : ℕ) → from ≤ i → i < end → at i - newest_at at marks first (suc i) ≡ at i - last
    gap_is i a h =
        ap (λ (t : ℕ). at i - t) (in_run from end (suc i) none (omega arith) (omega arith) ∙ sym (newest ∙ in_run from end end none (omega arith) (omega arith)))

    run : (i : ℕ) → from ≤ i → i < end → bit (bit_or answers word) i ≡ old_enough low at marks first i
    run i a h =
        let g = gap_is i a h in
        ⊎_elim
        (λ late.
        let f = rises.0 old i late (omega arith) in
        let t = found.there (omega arith) in
        since i late h ∙ sym (le-leb low (at i - newest_at at marks first (suc i)) (omega arith)))
        (λ early.
        let t = found.before i a early in
        earlier i early h ∙ sym (lt-leb low (at i - newest_at at marks first (suc i)) (omega arith)))
        (le_or_lt old i)

    pub settled_more : Settled (last_zero from marks) (bit_or answers word)
    settled_more =
        let l = found.behind in
        let w = zero_within from marks in
        let e = found.within in
        record {
          behind = λ i a h.
              ⊎_elim
              (λ past. later i past h ∙ so_far.behind i past h)
              (λ here.
              ⊎_elim
              (λ in_it. run i in_it here)
              (λ out. earlier i (omega arith) here ∙ sym (not_old positive i (one_behind_last from marks i a out)))
              (le_or_lt from i))
              (le_or_lt end i);
          before = λ i h. earlier i (omega arith) (omega arith);
        }

  pub settled_all : {end answers : ℕ} → n ≤ 64 → end ≡ 0 → Settled end answers → Packed (old_enough low at marks first) 0 n answers
  settled_all few none so_far = record {
    few = few;
    same = λ i h.
        let e : 0 + i ≡ i = omega arith in
        ap (old_enough low at marks first) e ∙ sym (so_far.behind i (omega arith) h);
  }

-- a time from which positions are old enough
pub due_is : (low last now : ℕ) → 0 < low → leb (last + low) now ≡ leb low (now - last)
due_is low last now positive =
    ⊎_elim
    (λ old. le-leb (last + low) now old ∙ sym (le-leb low (now - last) (omega arith)))
    (λ new. lt-leb (last + low) now new ∙ sym (lt-leb low (now - last) (omega arith)))
    (le_or_lt (last + low) now)

pub due_more : (at : ℕ → ℕ) (marks last i low : ℕ) → cond (bit marks i) (at i + low) (newest_at at marks last i + low) ≡ newest_at at marks last (i + 1) + low
due_more at marks last i low = by (bit marks i) ∙ ap (λ (t : ℕ). t + low) (sym (newest_more at marks last i))
  where
    by : (b : Bool) → cond b (at i + low) (newest_at at marks last i + low) ≡ cond b (at i) (newest_at at marks last i) + low
    by true = refl
    by false = refl

-- the positions behind the first `from`, by the newest of those
module _ (low : ℕ) (at : ℕ → ℕ) (marks first from : ℕ) where
  newest_behind : (k : ℕ) → newest_at at marks first (from + k) ≡ newest_at (λ i. at (from + i)) (marks / 2 ^ from) (newest_at at marks first from) k
  newest_behind zero = ap (newest_at at marks first) (add-zero from) ∙ sym (newest_none (λ i. at (from + i)) (marks / 2 ^ from) (newest_at at marks first from))
  newest_behind (suc k) =
      let e : from + suc k ≡ from + k + 1 = omega arith in
      let f : k + 1 ≡ suc k = omega arith in
      ap (newest_at at marks first) e
      ∙ newest_more at marks first (from + k)
      ∙ ap₂ (λ (b : Bool) (t : ℕ). cond b (at (from + k)) t) (sym (bit_rest marks from k)) (newest_behind k)
      ∙ sym (newest_more (λ i. at (from + i)) (marks / 2 ^ from) (newest_at at marks first from) k)
      ∙ ap (newest_at (λ i. at (from + i)) (marks / 2 ^ from) (newest_at at marks first from)) f

  -- a group of them behind those that are answered
  pub group_behind : (n last v : ℕ) → last ≡ newest_at at marks first from →
      (v < 2 ^ n) × Packed (old_enough low (λ i. at (from + i)) (marks / 2 ^ from) last) 0 n v →
      (v < 2 ^ n) × Packed (old_enough low at marks first) (0 + from) n v
  group_behind n last v is group = (
    group.0,
    packed_same (old_enough low (λ i. at (from + i)) (marks / 2 ^ from) last) (old_enough low at marks first) 0 (0 + from) n v
        (λ i h.
        let a : 0 + from + i ≡ from + i = omega arith in
        let b : 0 + i ≡ i = omega arith in
        let s : suc (from + i) ≡ from + suc i = omega arith in
        rw (a, b, is) (ap (λ (t : ℕ). leb low (at (from + i) - t)) (ap (newest_at at marks first) s ∙ newest_behind (suc i))))
        group.1,
  )

-- what lies at most high after the last mark does not lie high + 1 after it
pub reached_are : (high : ℕ) (at : ℕ → ℕ) (marks first n alive old : ℕ) → old < 2 ^ 64 → Packed (old_enough (high + 1) at marks first) 0 n old →
    Packed (λ i. bit alive i && in_reach 0 high at marks first i) 0 n (bit_and alive (2 ^ 64 - 1 - old))
reached_are high at marks first n alive old small found =
    packed_and (bit alive) (in_reach 0 high at marks first) 0 n alive (2 ^ 64 - 1 - old)
    (record { few = found.few; same = λ i h. ap (bit alive) (zero-add i) })
    (packed_same (λ i. negate (old_enough (high + 1) at marks first i)) (in_reach 0 high at marks first) 0 0 n (2 ^ 64 - 1 - old)
    (λ i h. near (at (0 + i) - newest_at at marks first (suc (0 + i))))
    (packed_not (old_enough (high + 1) at marks first) 0 n old small found))
  where
    near : (gap : ℕ) → leb 0 gap && leb gap high ≡ negate (leb (high + 1) gap)
    near gap =
        ⊎_elim
        (λ in_it. rw (le-leb 0 gap (omega arith), le-leb gap high in_it, lt-leb (high + 1) gap (omega arith)) refl)
        (λ out. rw (le-leb 0 gap (omega arith), lt-leb gap high out, le-leb (high + 1) gap (omega arith)) refl)
        (le_or_lt gap high)
