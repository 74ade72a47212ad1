-- Paper 14: an open position of one next or until over letters is settled yes by one record, and no by another. Assumes nothing.
use Prim.Native.Nat.{ℕ, ◌+◌, ◌-◌, ◌≤◌, ◌<◌, max}
use mathlib.Core.Bool.{Bool, true, false}
use mathlib.Core.Logic.{◌⊎◌, inl, inr, ⊎_elim}
use mathlib.Core.Path.{◌≡◌, refl, sym, ◌∙◌, ap}
use native.Mathlib.Nat.{eq-or-lt_of_le}
use native.Mathlib.Omega.{arith}
use borrow.Author.Tests.{lt-ltb}
use Rattle.mtl.specs.Formula.{Formula}
use Rattle.mtl.specs.Formula.Formula.{letter, next, until}
use Rattle.mtl.specs.Log.{Log, NeverFalls}
use Rattle.mtl.specs.Satisfaction.{within, sat}
use Rattle.mtl.specs.Progress.{progress}
use Rattle.mtl.specs.Reading.{AtMost, Within}
use Rattle.mtl.proofs.Bounded.{true_or_false, true_and_false, le_or_lt, within_iff, at_most_or_above, UntilBy}
use Rattle.mtl.proofs.Until.{answered_operands, UntilSettledYes, UntilSettledNo, Ended, until_answered, until_settled_iff, ended_settled, until_yes, until_no}
use Rattle.sooner.specs.Sooner.{OneTimed, timed_low, timed_high, timed_letter, Interval, latest, last_of, settling_time, Adds, SettledAs, BothWays}
use Rattle.sooner.specs.Sooner.OneTimed.{one_next, one_until}

-- a position more, not before the last: the times do not fall
module _ (L K : Log) (t l : ℕ) (b : Bool) (adds : Adds L t l b K) where
  more_falls : NeverFalls L → last_of L ≤ t → NeverFalls K
  more_falls falls order i j g h =
      let size = adds.size in
      ⊎_elim
      (λ (e : L.size ≤ j).
      let last : j ≡ L.size = omega arith in
      let new : K.time j ≡ t = ap K.time last ∙ adds.at in
      ⊎_elim
      (λ (now : L.size ≤ i).
      let first : i ≡ L.size = omega arith in
      let same : K.time i ≡ t = ap K.time first ∙ adds.at in
      omega arith)
      (λ (before : i < L.size).
      let same = (adds.same i (omega arith) before).time in
      let f = falls i (L.size - 1) (omega arith) (omega arith) in
      omega arith)
      (le_or_lt L.size i))
      (λ (old : j < L.size).
      let a = (adds.same i (omega arith) (omega arith)).time in
      let c = (adds.same j (omega arith) old).time in
      let f = falls i j g old in
      omega arith)
      (le_or_lt L.size j)

-- NEXT: the open position is the last, and the record that follows decides

module _ (low high k : ℕ) (iv : Interval low high) (L : Log) (falls : NeverFalls L) (i : ℕ) (h : i < L.size)
    (open' : progress (next low high (letter k)) L ≤ i) where
  at_end : i + 1 ≡ L.size
  unfolding progress
  at_end = omega arith

  next_told : (b : Bool) (K : Log) → Adds L (max (last_of L) (L.time i + low)) k b K → SettledAs (next low high (letter k)) K i b
  unfolding progress sat
  next_told b K adds =
      let end = at_end in
      let here : L.size - 1 ≡ i = omega arith in
      let last = ap L.time here in
      let size = adds.size in
      let old = (adds.same i (omega arith) h).time in
      let new : K.time (i + 1) ≡ L.time i + low = ap K.time end ∙ adds.at ∙ omega arith in
      let gap : K.time (i + 1) - K.time i ≡ low = omega arith in
      let near : within low high (K.time i) (K.time (i + 1)) ≡ true =
      (within_iff low high (K.time i) (K.time (i + 1))).1 (omega arith, rw gap iv.order) in
      let letters : K.letters (i + 1) k ≡ b = ap (λ j. K.letters j k) end ∙ adds.has in
      record {
        in_order = more_falls L K _ k b adds falls (omega arith);
        answered = omega arith;
        says = rw (lt-ltb (i + 1) K.size (omega arith), near, letters);
      }

-- UNTIL: left holds from the open position on, nothing meets its condition, and no record lies more than high later

module _ (low high k l : ℕ) (iv : Interval low high) (L : Log) (falls : NeverFalls L) (i : ℕ) (h : i < L.size)
    (open' : progress (until low high (letter k) (letter l)) L ≤ i) where
  all_answered : (K : Log) → answered_operands (letter k) (letter l) K ≡ K.size
  unfolding progress
  all_answered K = omega arith

  unmet : UntilSettledYes low high (letter k) (letter l) L i → ⊥
  unmet y =
      let a = all_answered L in
      let g = (until_answered low high (letter k) (letter l) L falls i).1 (omega arith, inl y) in
      omega arith

  not_ended : Ended low high L.time (sat (letter k) L) (sat (letter l) L) L.size (answered_operands (letter k) (letter l) L) i → ⊥
  not_ended e =
      let a = all_answered L in
      let s = (until_settled_iff low high (letter k) (letter l) L i).0
      (ended_settled low high L.time (sat (letter k) L) (sat (letter l) L) L.size (answered_operands (letter k) (letter l) L) i e) in
      let g = (until_answered low high (letter k) (letter l) L falls i).1 (omega arith, s) in
      omega arith

  held : (j : ℕ) → i ≤ j → j < L.size → L.letters j k ≡ true
  unfolding sat
  held j a b =
      ⊎_elim
      (λ v. v)
      (λ v. absurd (not_ended (inl (j, a, omega (arith, all_answered L), v))))
      (true_or_false (L.letters j k))

  near_last : AtMost high (last_of L - L.time i)
  near_last =
      ⊎_elim
      (λ v. v)
      (λ v. absurd (not_ended (inr (L.size - 1, omega arith, omega (arith, all_answered L), omega arith, v))))
      (at_most_or_above high (last_of L - L.time i))

  -- the record that would meet the condition: as late as low asks for, and not before the last
  abbrev t : ℕ
  t = max (last_of L) (L.time i + low)

  near : AtMost high (t - L.time i)
  near = both near_last iv.order
    where
      both : AtMost high (last_of L - L.time i) → AtMost high low → AtMost high (t - L.time i)
      both (inr u) q = inr u
      both (inl p) (inr u) = inr u
      both (inl p) (inl q) = inl (omega arith)

  module _ (b : Bool) (K : Log) (adds : Adds L t l b K) where
    grown : NeverFalls K
    grown = more_falls L K t l b adds falls (omega arith)

    old_left : (j : ℕ) → i ≤ j → j < L.size → sat (letter k) K j ≡ true
    unfolding sat
    old_left j a c = sym ((adds.same j (omega arith) c).letters k) ∙ held j a c

    new_right : sat (letter l) K L.size ≡ b
    unfolding sat
    new_right = adds.has

    in_time : Within low high (K.time i) (K.time L.size)
    in_time = rw (sym (adds.same i (omega arith) h).time, adds.at) (omega arith, near)

    -- what meets the condition before the record that is added has met it without that record
    unmet_before : (j : ℕ) → j < L.size → UntilBy low high K.time (sat (letter k) K) (sat (letter l) K) i j → ⊥
    unfolding sat
    unmet_before j c (a, w, r, held') =
        let old : (m : ℕ) → m ≤ j → K.time m ≡ L.time m = λ m d. sym (adds.same m (omega arith) (omega arith)).time in
        unmet (
          j,
          omega (arith, all_answered L),
          (a, rw (old i a, old j (omega arith)) at w, (adds.same j (omega arith) c).letters l ∙ r, λ m d e. (adds.same m (omega arith) (omega arith)).letters k ∙ held' m d e),
        )

  -- a position that is settled is told as it is settled
  told : (b : Bool) (K : Log) → Adds L t l b K →
      UntilSettledYes low high (letter k) (letter l) K i ⊎ UntilSettledNo low high (letter k) (letter l) K i →
      (NeverFalls K → i < answered_operands (letter k) (letter l) K → sat (until low high (letter k) (letter l)) K i ≡ b) → SettledAs (until low high (letter k) (letter l)) K i b
  told b K adds settled says =
      let m = all_answered K in
      let size = adds.size in
      let grow = grown b K adds in
      record {
        in_order = grow;
        answered = (until_answered low high (letter k) (letter l) K grow i).1 (omega arith, settled);
        says = says grow (omega arith);
      }

  module _ (K : Log) (adds : Adds L t l true K) where
    met : UntilSettledYes low high (letter k) (letter l) K i
    met = (
      L.size,
      omega (arith, all_answered K, adds.size),
      (omega arith, in_time true K adds, new_right true K adds, old_left true K adds),
    )

    told_yes : SettledAs (until low high (letter k) (letter l)) K i true
    told_yes = told true K adds (inl met) (λ grow h. until_yes low high (letter k) (letter l) K grow i h met)

  module _ (K : Log) (adds : Adds L t l false K) where
    unmet_after : UntilSettledYes low high (letter k) (letter l) K i → ⊥
    unmet_after (j, c, u) =
        let m = all_answered K in
        let size = adds.size in
        ⊎_elim
        (λ (e : j ≡ L.size). true_and_false u.2 (ap (sat (letter l) K) e ∙ new_right false K adds))
        (λ (d : j < L.size). unmet_before false K adds j d u)
        (eq-or-lt_of_le {n = j} {m = L.size} (omega arith))

    left_fails : sat (letter k) K L.size ≡ false
    unfolding sat
    left_fails = adds.no_other refl k

    ended_no : UntilSettledNo low high (letter k) (letter l) K i
    ended_no = (unmet_after, inl (L.size, omega arith, omega (arith, all_answered K, adds.size), left_fails))

    told_no : SettledAs (until low high (letter k) (letter l)) K i false
    told_no = told false K adds (inr ended_no) (λ grow h. until_no low high (letter k) (letter l) K grow i h ended_no)

  until_told : (b : Bool) (K : Log) → Adds L t l b K → SettledAs (until low high (letter k) (letter l)) K i b
  until_told true K adds = told_yes K adds
  until_told false K adds = told_no K adds

-- THEOREM. An open position of a log whose times never fall, and whose last position leaves room for every low in 32 bits.
pub both_ways : {φ : Formula} (one : OneTimed φ) → Interval (timed_low one) (timed_high one) → (L : Log) → NeverFalls L → last_of L ≤ latest →
    (i : ℕ) → i < L.size → progress φ L ≤ i → BothWays one L i
both_ways one iv L falls last i h open' =
    record {
      order = omega arith;
      fits = omega (arith, iv.small, falls i (L.size - 1) (omega arith) (omega arith));
      settles = told one iv open';
    }
  where
    told : {φ : Formula} (one : OneTimed φ) → Interval (timed_low one) (timed_high one) → progress φ L ≤ i →
        (b : Bool) (K : Log) → Adds L (settling_time one L i) (timed_letter one) b K → SettledAs φ K i b
    told (one_next {low} {high} {k}) iv o = next_told low high k iv L falls i h o
    told (one_until {low} {high} {k} {l}) iv o = until_told low high k l iv L falls i h o
