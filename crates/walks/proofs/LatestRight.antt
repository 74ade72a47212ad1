-- until with low above 0 by whole words: a position is yes where the latest right that left leads to lies low after it.
use Prim.Native.Nat.{ℕ, zero, suc, ◌+◌, ◌-◌, ◌≤◌, ◌<◌, ◌^◌, max}
use native.Mathlib.Nat.{eq-or-lt_of_le, zero-add}
use native.Mathlib.Omega.{arith}
use mathlib.Core.Bool.{Bool, true, false, cond, ◌&&◌, true≢false}
use mathlib.Core.Bool.{not as negate}
use mathlib.Core.Logic.{◌⊎◌, inl, inr, ⊎_elim}
use mathlib.Core.Path.{◌≡◌, refl, sym, ◌∙◌, ap}
use lib.Dec.{leb}
use borrow.Author.Tests.{leb-true, leb-false, le-leb, lt-leb, lt-ltb}
use Rattle.mtl.proofs.Bounded.{true_or_false, le_or_lt}
use Rattle.bits.specs.Packed.{bit, Packed, Prolonged}
use Rattle.bits.proofs.Laws.{packed_same}
use Rattle.bits.proofs.Filling.{no_bit}
use Rattle.walks.specs.Settle.{next_of, latest_right, is_late, Met}
use Rattle.walks.proofs.Log.{Rises}
use Rattle.walks.proofs.Words.{Known, Verdict, Unsettled, Settles}

-- the larger of two times that may be missing is one of them
either : (t u : ℕ) (l r : Bool) → 0 < max (cond l t 0) (cond r u 0) →
    ((l ≡ true) × (0 < t) × (max (cond l t 0) (cond r u 0) ≡ t)) ⊎ ((r ≡ true) × (max (cond l t 0) (cond r u 0) ≡ u))
either t u true true h = ⊎_elim (λ a. inr (refl, omega arith)) (λ a. inl (refl, omega arith, omega arith)) (le_or_lt t u)
either t u true false h = inl (refl, omega arith, omega arith)
either t u false true h = inr (refl, omega arith)
either t u false false h = absurd (omega arith)

module _ (time : ℕ → ℕ) (left right : ℕ) where
  -- left holds from i up to j
  abbrev Leads : (i j : ℕ) → Type 0
  Leads i j = (k : ℕ) → i ≤ k → k < j → bit left k ≡ true

  -- a right at time t that left leads to
  abbrev Led : (to i t : ℕ) → Type 0
  Led to i t = (e : ℕ) × (i ≤ e) × (e < to) × (bit right e ≡ true) × (time e ≡ t) × Leads i e

  -- t is the time of the latest right that left leads to, among those from i up to `to`
  pub record Latest (to i t : ℕ) : Type 0 where
    pub most : (j : ℕ) → i ≤ j → j < to → Leads i j → bit right j ≡ true → time j ≤ t
    pub led : 0 < t → Led to i t

  -- one more in front
  module _ (to i t : ℕ) (below : i < to) (later : Latest to (suc i) t) where
    abbrev t' : ℕ
    t' = max (cond (bit left i) t 0) (cond (bit right i) (time i) 0)

    most_here : (j : ℕ) → i ≡ j → bit right j ≡ true → time j ≤ t'
    most_here j q r =
        let s = ap time q in
        let holds : bit right i ≡ true = ap (bit right) q ∙ r in
        rw holds (omega arith)

    most_later : (j : ℕ) → i < j → j < to → Leads i j → bit right j ≡ true → time j ≤ t'
    most_later j h b leads r =
        let m = later.most j h b (λ k p q. leads k (omega arith) q) r in
        let holds : bit left i ≡ true = leads i (omega arith) h in
        rw holds (omega arith)

    led_later : (bit left i ≡ true) × (0 < t) × (t' ≡ t) → Led to i t'
    led_later (holds, some, same) =
        let (e, a, b, r, is, leads) = later.led some in
        (e, omega arith, b, r, is ∙ sym same, λ k p q. ⊎_elim (λ s. ap (bit left) (sym s) ∙ holds) (λ s. leads k s q) (eq-or-lt_of_le {n = i} {m = k} p))

    led_here : (bit right i ≡ true) × (t' ≡ time i) → Led to i t'
    led_here (holds, same) = (i, omega arith, below, holds, sym same, λ k p q. absurd (omega arith))

    one_more : Latest to i t'
    one_more =
        record {
          most = λ j a b leads r. ⊎_elim (λ q. most_here j q r) (λ h. most_later j h b leads r) (eq-or-lt_of_le {n = i} {m = j} a);
          led = λ h. ⊎_elim led_later led_here (either t (time i) (bit left i) (bit right i) h);
        }

  -- by its definition
  pub latest_of_none : (i : ℕ) → latest_right time left right 0 i ≡ 0
  unfolding latest_right
  latest_of_none i = refl

  pub latest_of_more : (n i : ℕ) →
      latest_right time left right (suc n) i ≡ max (cond (bit left i) (latest_right time left right n (suc i)) 0) (cond (bit right i) (time i) 0)
  unfolding latest_right
  latest_of_more n i = refl

  pub latest : (to n i : ℕ) → i + n ≡ to → Latest to i (latest_right time left right n i)
  unfolding latest_right
  latest to zero i e = record { most = λ j a b leads r. absurd (omega arith); led = λ h. absurd (omega arith) }
  latest to (suc n) i e = one_more to i (latest_right time left right n (suc i)) (omega arith) (latest to n (suc i) (omega arith))

  -- the first of n positions at which left fails, if there is one
  fails_in : (n i : ℕ) → ((e : ℕ) × (i ≤ e) × (e < i + n) × (bit left e ≡ false) × Leads i e) ⊎ Leads i (i + n)
  fails_in zero i = inr (λ k p q. absurd (omega arith))
  fails_in (suc n) i =
      ⊎_elim
      (λ f. let (e, a, b, fails, leads) = f in inl (e, a, omega arith, fails, leads))
      (λ leads.
      ⊎_elim
      (λ holds. inr (λ k p q. ⊎_elim (λ s. ap (bit left) s ∙ holds) (λ l. leads k p l) (eq-or-lt_of_le {n = k} {m = i + n} (omega arith))))
      (λ fails. inl (i + n, omega arith, omega arith, fails, leads))
      (true_or_false (bit left (i + n))))
      (fails_in n i)

-- with another time behind the n positions
module _ (low : ℕ) (time : ℕ → ℕ) (left right n after : ℕ) where
  abbrev next : ℕ → ℕ
  next = next_of time n after

  latest_next : (d i : ℕ) → i + d ≤ n → latest_right next left right d i ≡ latest_right time left right d i
  unfolding latest_right
  latest_next zero i h = refl
  latest_next (suc d) i h = rw (latest_next d (suc i) (omega arith), lt-ltb i n (omega arith)) refl

  pub late_next : {found : ℕ} → Packed (is_late low time left right n) 0 n found → Packed (is_late low next left right n) 0 n found
  late_next {found} late =
      packed_same (is_late low time left right n) (is_late low next left right n) 0 0 n found
      (λ i h. rw (latest_next (n - (0 + i)) (0 + i) (omega arith), lt-ltb (0 + i) n (omega arith)) refl)
      late

  pub met_next : {start : ℕ → ℕ} {t lead met : ℕ} → t ≡ latest_right time left right n 0 → Met low start t lead met →
      Met low start (latest_right next left right n 0) lead met
  met_next e m = rw (e ∙ sym (latest_next n 0 (omega arith))) at m

-- the words: `found` has those that are late
module _ (low : ℕ) (time : ℕ → ℕ) (left right n : ℕ) {known found : ℕ} (positive : 0 < low) (k : Known left found n known)
    (late : Packed (is_late low time left right n) 0 n found) where
  abbrev right_from : ℕ → ℕ
  right_from i = latest_right time left right (n - i) i

  latest_from : (i : ℕ) → i ≤ n → Latest time left right n i (right_from i)
  latest_from i h = latest time left right n (n - i) i (omega arith)

  found_is : (i : ℕ) → i < n → bit found i ≡ leb (time i + low) (right_from i)
  found_is i h = sym (late.same i h) ∙ ap (is_late low time left right n) (zero-add i)

  yes_by : (i s t : ℕ) → Latest time left right n i t → s + low ≤ t → Verdict low time left right n i s true
  yes_by i s t l far =
      let (e, a, b, r, is, leads) = l.led (omega arith) in
      (e, record { from = a; below = b; holds = r; far = omega arith; held = leads })

  -- where left holds up to the last event, that is a late right, for all that begin before it
  is_far : (i s t : ℕ) → i < known → Latest time left right n i t → s ≤ time (known - 1) → Leads time left right i known → s + low ≤ t
  is_far i s t h l before leads =
      let most = k.most in
      let last = rw (leads (known - 1) (omega arith) (omega arith)) at (k.last (omega arith)) in
      let yes' = sym (found_is (known - 1) (omega arith)) ∙ holds (bit found (known - 1)) last in
      let far = leb-true (time (known - 1) + low) (right_from (known - 1)) yes' in
      let (e, a, b, r, is, on) = (latest_from (known - 1) (omega arith)).led (omega arith) in
      let m = l.most e (omega arith) b (λ j p q. ⊎_elim (λ c. leads j p (omega arith)) (λ c. on j (omega arith) q) (le_or_lt (suc j) known)) r in
      omega arith
    where
      holds : (x : Bool) → true && negate x ≡ false → x ≡ true
      holds true e = refl
      holds false e = absurd (true≢false e)

  verdict : (i s t : ℕ) → i < known → Latest time left right n i t → s ≤ time (known - 1) → Verdict low time left right n i s (leb (s + low) t)
  verdict i s t h l before = by (leb (s + low) t) refl
    where
      by : (v : Bool) → leb (s + low) t ≡ v → Verdict low time left right n i s v
      by true e = yes_by i s t l (leb-true (s + low) t e)
      by false e =
          let near = leb-false (s + low) t e in
          let most = k.most in
          let to : i + (known - i) ≡ known = omega arith in
          ⊎_elim
          (λ f.
          let (x, a, b, fails, leads) = f in (
            x,
            record {
              from = a;
              below = omega arith;
              fails = fails;
              early = λ j p q r. let m = l.most j p (omega arith) (λ z u v. leads z u (omega arith)) r in omega arith;
            },
          ))
          (λ leads. let far = is_far i s t h l before (rw to at leads) in absurd (omega arith))
          (fails_in time left right (known - i) i)

  -- behind the last event
  open_from : (i s t : ℕ) → known ≤ i → Latest time left right n i t → t < s + low → Unsettled low time left right n i s
  open_from i s t h l near j a b = (
    (k.behind j (omega arith) b).0,
    λ r. let m = l.most j a b (λ z u v. (k.behind z (omega arith) (omega arith)).0) r in omega arith,
  )

  open_own : (i : ℕ) → known ≤ i → Unsettled low time left right n i (time i)
  open_own i h j a b =
      let none = sym (found_is i (omega arith)) ∙ (k.behind i h (omega arith)).1 in
      open_from i (time i) (right_from i) h (latest_from i (omega arith)) (leb-false (time i + low) (right_from i) none) j a b

  -- `met` of those that wait are met by the latest right from the first on
  module _ {start : ℕ → ℕ} {lead met front : ℕ} (m : Met low start (latest_right time left right n 0) lead met) (small : front < 2 ^ met)
      (ones : (i : ℕ) → i < met → bit front i ≡ true) where
    first : Latest time left right n 0 (latest_right time left right n 0)
    first = latest time left right n n 0 (zero-add n)

    front_is : Rises start time lead n → (i : ℕ) → i < lead → bit front i ≡ leb (start i + low) (latest_right time left right n 0)
    front_is rises i h =
        let most = m.most in
        ⊎_elim
        (λ l.
        let before = rises.waiting met i l h in
        let near = m.next (omega arith) in
        no_bit met front i small l ∙ sym (lt-leb (start i + low) (latest_right time left right n 0) (omega arith)))
        (λ l. ones i l ∙ sym (le-leb (start i + low) (latest_right time left right n 0) (m.far i l)))
        (le_or_lt met i)

    -- no event among those to take
    pub late_none : known ≡ 0 → Settles low start time lead n left right front met
    late_none e =
        let most = m.most in
        record {
          waiting = λ i l h. rw (ones i h) (yes_by 0 (start i) (latest_right time left right n 0) first (m.far i h));
          own = λ i l h few. absurd (omega arith);
          next_waits = λ h. open_from 0 (start met) (latest_right time left right n 0) (omega arith) first (m.next h);
          next_own = λ h. open_own (met - lead) (omega arith);
        }

    pub late_some : 0 < known → {bits : ℕ} → Prolonged found front lead bits → Rises start time lead n →
        Settles low start time lead n left right bits (lead + known)
    late_some some long rises =
        let most = k.most in
        record {
          waiting = λ i l h.
              rw (long.front_bits i l ∙ front_is rises i l)
              (verdict 0 (start i) (latest_right time left right n 0) some first (rises.later i (known - 1) l (omega arith)));
          own = λ i l h few.
              rw (long.own i l few ∙ found_is (i - lead) (omega arith))
              (verdict (i - lead) (time (i - lead)) (right_from (i - lead)) (omega arith) (latest_from (i - lead) (omega arith))
              (rises.own (i - lead) (known - 1) (omega arith) (omega arith)));
          next_waits = λ h. absurd (omega arith);
          next_own = λ h. open_own (lead + known - lead) (omega arith);
        }
