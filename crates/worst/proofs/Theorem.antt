-- The log that the call writes keeps most seconds waiting.
-- Assumes nothing.
use Prim.Native.Nat.{ℕ, zero, suc, ◌+◌, ◌-◌, ◌≤◌, ◌<◌, ◌%◌, ◌^◌, min}
use mathlib.Core.Bool.{Bool, true, false}
use mathlib.Core.List.{List}
use mathlib.Core.Logic.{◌⊎◌, inl, inr, ⊎_elim}
use mathlib.Core.Path.{◌≡◌, refl, sym, ap, ◌∙◌}
use native.Mathlib.Nat.{zero-add, div-eq_of_lt, one-le-pow, pow-suc}
use native.Mathlib.Omega.{arith}
use lib.Dec.{eqb}
use borrow.Author.Tests.{leb-true, le-leb, ne_eqb}
use Rattle.mtl.specs.Formula.{unbounded, reach, has_next, untils_end}
use Rattle.mtl.specs.Formula.Formula.{letter}
use Rattle.mtl.specs.Log.{Log, NeverFalls}
use Rattle.mtl.specs.Satisfaction.{sat}
use Rattle.mtl.specs.Progress.{progress}
use Rattle.mtl.proofs.Bounded.{le_or_lt, true_and_false}
use Rattle.mtl.proofs.Until.{until_answered, progress_letter, UntilSettledYes, UntilSettledNo}
use Rattle.mtl.proofs.Reach.{reach_answered}
use Rattle.bits.specs.Packed.{bit}
use Rattle.trace.specs.Format.{time_at, has_letter, records_of}
use Rattle.trace.specs.Log.{log_of}
use Rattle.trace.proofs.Making.{records_count, time_back, events_back, made_well, made_plain, made_ordered}
use Rattle.worst.specs.Waiting.{waiting, is_open, new_value, open_times}
use Rattle.worst.specs.Written.{worst_time, worst_events, worst_bytes, worst}
use Rattle.worst.specs.Refusal.{worst_refusal}
use Rattle.worst.specs.Most.{most, MostWaiting}
use Rattle.worst.proofs.Outcome.{accepted}
use Rattle.worst.proofs.Counting.{count_le, distinct_le, distinct_rising}

-- every interval with an upper end, and every log whose times never fall
module _ (low high : ℕ) (ends : high ≡ unbounded → ⊥) (L : Log) (falls : NeverFalls L) where
  -- an open position lies at most high before the last record
  near : (i : ℕ) → i < L.size → is_open (waiting low high) L i ≡ true → L.time (L.size - 1) ≤ L.time i + high
  unfolding reach has_next untils_end
  near i h o =
      let waits = leb-true (progress (waiting low high) L) i o in
      let answered : L.time i + high < L.time (L.size - 1) → i < progress (waiting low high) L =
      λ far. reach_answered (waiting low high) L refl (rw (ne_eqb high unbounded ends)) falls i h (omega arith) in
      ⊎_elim (λ k. k) (λ far. absurd (let k = answered far in omega arith)) (le_or_lt (L.time (L.size - 1)) (L.time i + high))

  -- THEOREM. "no log of n records whose times never fall has more"
  pub no_more : open_times (waiting low high) L ≤ most high L.size
  no_more =
      let last = L.time (L.size - 1) in
      let all = count_le L.size (new_value (is_open (waiting low high) L) L.time) in
      let window =
      distinct_le (is_open (waiting low high) L) L.time (last - high) (last + 1) L.size falls
      (λ i h o. let before = falls i (L.size - 1) (omega arith) (omega arith) in let k = near i h o in (omega arith, omega arith)) in
      omega arith

-- in letter 0's event set no other letter stands
alone : (k : ℕ) → bit (2 ^ 0) k ≡ eqb k 0
alone zero = refl
alone (suc k) =
    let above : 1 < 2 ^ suc k = omega (arith, pow-suc 2 k, one-le-pow k 2 (omega arith)) in
    ap (λ (v : ℕ). eqb (v % 2) 1) (div-eq_of_lt above) ∙ sym (ne_eqb (suc k) 0 (λ e. omega arith))

-- the written log
module _ (low high n : ℕ) (ok : high ≤ 3600) where
  -- every record is a position
  abbrev records : List ℕ
  records = records_of (worst_bytes high n)

  plain : worst high n ≡ log_of false records
  plain = ap (λ (skips : Bool). log_of skips records) (made_plain (worst_time high) worst_events n)

  size : (worst high n).size ≡ n
  size = ap (λ (L : Log). L.size) plain ∙ records_count (worst_time high) worst_events n

  time : (i : ℕ) → i < n → (worst high n).time i ≡ min i high
  time i h = ap (λ (L : Log). L.time i) plain ∙ ap (time_at records) (zero-add i) ∙ time_back (worst_time high) worst_events n i h (omega arith)

  letters : (i k : ℕ) → i < n → (worst high n).letters i k ≡ eqb k 0
  letters i k h =
      ap (λ (L : Log). L.letters i k) plain ∙ ap (has_letter records k) (zero-add i) ∙
      ap (λ (e : ℕ). bit e k) (events_back (worst_time high) worst_events n i h (omega arith)) ∙ alone k

  never_falls : NeverFalls (worst high n)
  never_falls i j le h =
      let first = time i (omega (arith, size)) in
      let second = time j (omega (arith, size)) in
      omega arith

  -- position 0 is not settled: letter 1 never stands, letter 0 always does, and no record lies more than high after it
  not_settled : UntilSettledYes low high (letter 0) (letter 1) (worst high n) 0 ⊎ UntilSettledNo low high (letter 0) (letter 1) (worst high n) 0 → ⊥
  unfolding sat
  not_settled (inl (j, b, (g, w, r, l))) =
      let all = progress_letter (worst high n) 0 in
      true_and_false r (letters j 1 (omega (arith, size)))
  not_settled (inr (unmet, inl (k, g, b, f))) =
      let all = progress_letter (worst high n) 0 in
      true_and_false (letters k 0 (omega (arith, size))) f
  not_settled (inr (unmet, inr (q, g, b, c, (late, ends)))) =
      let there = time q (omega (arith, size)) in
      omega arith

  none_answered : progress (waiting low high) (worst high n) ≡ 0
  none_answered =
      let some : 0 < progress (waiting low high) (worst high n) → ⊥ =
      λ h. not_settled ((until_answered low high (letter 0) (letter 1) (worst high n) never_falls 0).0 h).1 in
      omega arith

  -- THEOREM. The written log has the most.
  reached : open_times (waiting low high) (worst high n) ≡ most high n
  reached =
      distinct_rising (is_open (waiting low high) (worst high n)) (worst high n).time high (worst high n).size
      (λ i h. le-leb (progress (waiting low high) (worst high n)) i (omega (arith, none_answered)))
      (λ i h. time i (omega (arith, size))) ∙
      ap (λ (k : ℕ). min k (high + 1)) size

-- THEOREM. What paper 4 asks of the log that an accepted call writes.
pub most_waiting : (low high n lent : ℕ) → worst_refusal low high n lent ≡ 0 → MostWaiting low high n
most_waiting low high n lent z =
    let a = accepted low high n lent z in
    let ok = a.finite in
    record {
      size = size low high n ok;
      time = time low high n ok;
      letters = letters low high n ok;
      reached = reached low high n ok;
      no_more = λ L few falls. omega (arith, no_more low high (λ u. omega arith) L falls);
      well_formed = made_well (worst_time high) worst_events n a.few;
      ordered = made_ordered (worst_time high) worst_events n (λ i h. omega arith) (λ i j le h. omega arith);
    }
