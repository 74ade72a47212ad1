-- One record more behind a log's records: what it is to the logic. Assumes nothing.
use Prim.Native.Nat.{ℕ, suc, ◌+◌, ◌-◌, ◌*◌, ◌/◌, ◌%◌, ◌≤◌, ◌<◌, ◌^◌}
use mathlib.Core.Bool.{Bool, true, false}
use mathlib.Core.Logic.{⊎_elim}
use mathlib.Core.Path.{◌≡◌, refl, sym, ◌∙◌, ap}
use mathlib.Core.List.{List, ◌++◌}
use native.Mathlib.Nat.{add-zero, zero-add, zero-mul, div-eq_of_lt, mul-div_cancel}
use native.Mathlib.Omega.{arith}
use lib.Dec.{eqb}
use lib.Pow.{pow-add, pow_mono, pow_pos}
use lib.ListN.{length, get_or, length-append, get_or-append}
use lib.Seq.{get_or-append-add}
use Rattle.mtl.specs.Log.{closing}
use Rattle.mtl.proofs.Bounded.{le_or_lt}
use Rattle.bits.specs.Packed.{bit, number}
use Rattle.trace.specs.Format.{record_count, time_at, has_letter}
use Rattle.trace.specs.Positions.{place, positions, before}
use Rattle.trace.specs.Log.{log_of}
use Rattle.trace.specs.Making.{record_bytes, records_bytes}
use Rattle.trace.proofs.Laws.{Keeps}
use Rattle.trace.proofs.Counting.{count_position, one_record, spot_holds}
use Rattle.trace.proofs.Parts.{Part, time_part, letter_part}
use Rattle.trace.proofs.Growing.{before_stays, grown_continues}
use Rattle.trace.proofs.Making.{time_back, events_back}
use Rattle.sooner.specs.Sooner.{Adds}

-- records behind whole records

pub append_count : (s r : List ℕ) → length s ≡ record_count s * 8 → record_count (s ++ r) ≡ record_count s + record_count r
append_count s r whole = omega (arith, length-append s r)

module _ (s r : List ℕ) (whole : length s ≡ record_count s * 8) where
  pub first_of : Part (s ++ r) s 0
  first_of =
      let sum = append_count s r whole in
      record {
        inside = omega arith;
        same = λ i h b few. sym (get_or-append s r 0 (i * 8 + b) (omega arith)) ∙ ap (λ (k : ℕ). get_or (s ++ r) k 0) (omega arith);
      }

  pub last_of : Part (s ++ r) r (record_count s)
  last_of =
      let sum = append_count s r whole in
      record {
        inside = omega arith;
        same = λ i h b few. sym (get_or-append-add s r (i * 8 + b) 0) ∙ ap (λ (k : ℕ). get_or (s ++ r) k 0) (omega arith);
      }

-- the letters of the record

-- none
no_bit : (k : ℕ) → bit 0 k ≡ false
no_bit k = let none : ◌≡◌ {A = ℕ} (0 / 2 ^ k) 0 = div-eq_of_lt (pow_pos k) in rw none

-- the one
own_bit : (l : ℕ) (b : Bool) → bit (number b * 2 ^ l) l ≡ b
own_bit l b = ap (λ (d : ℕ). eqb (d % 2) 1) (mul-div_cancel (number b) (pow_pos l)) ∙ by b
  where
    by : (b : Bool) → eqb (number b % 2) 1 ≡ b
    by true = refl
    by false = refl

bits_below : (l n : ℕ) (b : Bool) → l < n → number b * 2 ^ l < 2 ^ n
bits_below l n true h = let more = pow_mono {i = l + 1} {j = n} (omega arith) in omega (arith, pow-add 2 l 1, pow_pos l)
bits_below l n false h = omega (arith, pow_pos n)

-- it is not letter 31
no_service : (l : ℕ) (b : Bool) → l < 31 → bit (number b * 2 ^ l) 31 ≡ false
no_service l b h = let none : number b * 2 ^ l / 2 ^ 31 ≡ 0 = div-eq_of_lt (bits_below l 31 b h) in rw none

-- ONE RECORD, with one letter or none
module _ (s : List ℕ) (whole : length s ≡ record_count s * 8) (t l : ℕ) (b : Bool) (time_fits : t < 4294967296) (letter_fits : l ≤ 31) where
  abbrev e : ℕ
  e = number b * 2 ^ l

  abbrev r : List ℕ
  r = record_bytes t e

  no_letters : b ≡ false → e ≡ 0
  no_letters none = ap (λ (x : Bool). number x * 2 ^ l) none ∙ zero-mul (2 ^ l)

  pub more_count : record_count (s ++ r) ≡ suc (record_count s)
  more_count = omega (arith, append_count s r whole)

  pub more_time : time_at (s ++ r) (record_count s) ≡ t
  unfolding records_bytes
  more_time =
      sym (time_part (s ++ r) r (record_count s) (last_of s r whole) 0 (omega arith) ∙ ap (time_at (s ++ r)) (add-zero (record_count s))) ∙
      time_back (λ _. t) (λ _. e) 1 0 (omega arith) time_fits

  more_letter : (k : ℕ) → has_letter (s ++ r) k (record_count s) ≡ bit e k
  unfolding records_bytes
  more_letter k =
      sym (letter_part (s ++ r) r (record_count s) (last_of s r whole) k 0 (omega arith) ∙ ap (has_letter (s ++ r) k) (add-zero (record_count s))) ∙
      ap (λ (w : ℕ). bit w k) (events_back (λ _. t) (λ _. e) 1 0 (omega arith) (bits_below l 32 b (omega arith)))

  -- the times of all records do not fall
  pub more_keeps : Keeps s → (0 < record_count s → time_at s (record_count s - 1) ≤ t) → Keeps (s ++ r)
  more_keeps keeps order i j le h =
      let n = record_count s in
      let size = more_count in
      let old : (k : ℕ) → k < n → time_at s k ≡ time_at (s ++ r) k = λ k g. time_part (s ++ r) s 0 (first_of s r whole) k g ∙ ap (time_at (s ++ r)) (zero-add k) in
      ⊎_elim
      (λ (last : n ≤ j).
      let here : j ≡ n = omega arith in
      let new : time_at (s ++ r) j ≡ t = ap (time_at (s ++ r)) here ∙ more_time in
      ⊎_elim
      (λ (now : n ≤ i). let same : i ≡ j = omega arith in rw same (omega arith))
      (λ (before : i < n). omega (arith, old i before, keeps i (n - 1) (omega arith) (omega arith), order (omega arith)))
      (le_or_lt n i))
      (λ (before : j < n). omega (arith, old i (omega arith), old j before, keeps i j le before))
      (le_or_lt n j)

  -- a position: in version 1 every record is one
  module _ (skips : Bool) (plain : skips ≡ true → l < 31) where
    more_size : before skips (s ++ r) (record_count (s ++ r)) ≡ suc (before skips s (record_count s))
    more_size = ap (before skips (s ++ r)) more_count ∙ by skips plain ∙ ap suc (sym (before_stays (s ++ r) s (first_of s r whole) skips (record_count s) (omega arith)))
      where
        by : (skips : Bool) → (skips ≡ true → l < 31) → before skips (s ++ r) (suc (record_count s)) ≡ suc (before skips (s ++ r) (record_count s))
        by true plain = count_position (s ++ r) (record_count s) (more_letter 31 ∙ no_service l b (plain refl))
        by false plain = refl

    -- it stands in the record that was added
    more_place : place skips (s ++ r) 0 (before skips s (record_count s)) ≡ record_count s
    more_place = by skips plain
      where
        by : (skips : Bool) → (skips ≡ true → l < 31) → place skips (s ++ r) 0 (before skips s (record_count s)) ≡ record_count s
        by true plain =
            let stays = before_stays (s ++ r) s (first_of s r whole) true (record_count s) (omega arith) in
            let service = more_letter 31 ∙ no_service l b (plain refl) in
            let size = more_count in
            let holds = spot_holds (s ++ r) (positions s (record_count s)) (omega (arith, count_position (s ++ r) (record_count s) service, ap (positions (s ++ r)) more_count)) in
            one_record (s ++ r) _ (record_count s) holds.inside (omega arith) holds.plain service (holds.number ∙ stays)
        by false plain = omega arith

    -- THEOREM
    pub more_adds : (closed : Bool) → Adds (closing closed (log_of skips s)) t l b (closing closed (log_of skips (s ++ r)))
    more_adds closed =
        let at = more_place in
        record {
          size = more_size;
          same = λ i lo h. let same = (grown_continues (s ++ r) s (first_of s r whole) skips).same i lo h in record { time = same.time; letters = same.letters; place = same.place };
          at = ap (time_at (s ++ r)) at ∙ more_time;
          has = ap (has_letter (s ++ r) l) at ∙ more_letter l ∙ own_bit l b;
          no_other = λ none k. ap (has_letter (s ++ r) k) at ∙ more_letter k ∙ ap (λ (w : ℕ). bit w k) (no_letters none) ∙ no_bit k;
        }
