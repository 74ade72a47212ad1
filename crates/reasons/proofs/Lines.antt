-- The lines of since and until: what is said of them holds, and it decides. Over an operator's operands, by position. Assumes nothing.
use Prim.Native.Nat.{ℕ, suc, ◌-◌, ◌≤◌, ◌<◌}
use mathlib.Core.Bool.{Bool, true, false, cond, ◌||◌, false≢true}
use mathlib.Core.Bool.{not as negate}
use mathlib.Core.Logic.{inl, inr, ⊎_elim}
use mathlib.Core.Path.{◌≡◌, refl, ap}
use native.Mathlib.Omega.{arith}
use lib.Dec.{leb, ltb}
use borrow.Author.Tests.{ltb-true, ltb-false, lt-ltb, le-leb, leb-true}
use Rattle.mtl.specs.Satisfaction.{at_most, within, since_by, until_by, since_at, until_at}
use Rattle.mtl.specs.Progress.{fails_from, over}
use Rattle.mtl.specs.Reading.{Within}
use Rattle.mtl.proofs.Bounded.{true_or_false, true_and_false, false_iff, and_iff, or_iff, not_iff, le_or_lt, at_most_iff, above_iff, within_iff, since_at_iff, until_at_iff, any_iff}
use Rattle.mtl.proofs.Until.{Ended}
use Rattle.reasons.specs.Search.{IsFirst}
use Rattle.reasons.specs.Reason.{Cause, Says, since_witness, until_witness, first_near, after_failure, since_denied, denied_left, first_end, cause, until_denied}
use Rattle.reasons.specs.Reason.Cause.{by_left, by_time}
use Rattle.reasons.specs.Reason.Says.{since_no, until_no}
use Rattle.reasons.specs.Facts.{SinceCause, UntilCause, SinceNo, UntilNo}
use Rattle.reasons.proofs.Searches.{first_is, last_is, none_after}

-- a test is false where its truth is absurd
pub refuted : (b : Bool) → (b ≡ true → ⊥) → b ≡ false
refuted b f = (false_iff b).1 f

module _ (low high : ℕ) (time : ℕ → ℕ) (left right : ℕ → Bool) (i : ℕ) where
  -- SINCE, YES: the earliest fitting j

  pub since_witness_is : since_at low high time left right i ≡ true → IsFirst (suc i) (since_by low high time left right i) (since_witness low high time left right i)
  since_witness_is met =
      let (j, h, v) = (any_iff (suc i) (since_by low high time left right i)).0 met in
      first_is (suc i) (since_by low high time left right i) j h v

  -- SINCE, NO: what the line says decides

  pub since_forced : (p : ℕ) (cause : Cause) → SinceNo low high time left right i p cause → since_at low high time left right i ≡ false
  since_forced p cause told =
      refuted (since_at low high time left right i)
      (λ e.
      let (j, h, (w, r, l)) = (since_at_iff low high time left right i).0 e in
      ⊎_elim
      (λ (a : p ≤ j). true_and_false r (told.right_no j a h ((within_iff low high (time j) (time i)).1 w)))
      (λ (a : j < p). earlier cause told.why j a w (l p a told.side))
      (le_or_lt p j))
    where
      earlier : (c : Cause) → SinceCause c high time left i p → (j : ℕ) → j < p → Within low high (time j) (time i) → left p ≡ true → ⊥
      earlier by_left why j a w l = true_and_false l why
      earlier by_time why j a w l = true_and_false ((at_most_iff high (time i - time j)).1 w.1) (why.1 j a)

  -- and it holds

  module _ (unmet : since_at low high time left right i ≡ false) where
    near_is : IsFirst (suc i) (λ (q : ℕ). at_most high (time i - time q)) (first_near high time i)
    near_is =
        first_is (suc i) (λ (q : ℕ). at_most high (time i - time q)) i (omega arith)
        ((at_most_iff high (time i - time i)).1 (inl (omega arith)))

    -- from p on, behind which left holds, right is no wherever the gap is within
    right_no_from : (p : ℕ) → ((k : ℕ) → p < k → k ≤ i → left k ≡ true) →
        (q : ℕ) → p ≤ q → q ≤ i → within low high (time q) (time i) ≡ true → right q ≡ false
    right_no_from p held q a b w =
        refuted (right q)
        (λ r.
        true_and_false
        ((since_at_iff low high time left right i).1 (q, b, ((within_iff low high (time q) (time i)).0 w, r, λ k c d. held k (omega arith) d)))
        unmet)

    held_behind : (k : ℕ) → after_failure left i ≤ k → k ≤ i → left k ≡ true
    held_behind k a b =
        ⊎_elim
        (λ v. v)
        (λ v. absurd (true_and_false (ap negate v) (none_after (suc i) (λ (q : ℕ). negate (left q)) k a (omega arith))))
        (true_or_false (left k))

    pub since_denied_is : (P : Says → Type 0) →
        ((p : ℕ) (cause : Cause) → SinceNo low high time left right i p cause → P (since_no p cause)) → P (since_denied high time left i)
    since_denied_is P give = by (ltb (first_near high time i) (after_failure left i)) refl
      where
        by : (b : Bool) → ltb (first_near high time i) (after_failure left i) ≡ b →
            P (cond b (since_no (after_failure left i - 1) by_left) (since_no (first_near high time i) by_time))
        by true e =
            let l = ltb-true (first_near high time i) (after_failure left i) e in
            let last = last_is (suc i) (λ (q : ℕ). negate (left q)) (omega arith) in
            let inside = last.inside in
            give (after_failure left i - 1) by_left
            (record {
              side = omega arith;
              why = (false_iff (left (after_failure left i - 1))).1 ((not_iff (left (after_failure left i - 1))).0 last.holds);
              right_no = right_no_from (after_failure left i - 1) (λ k c d. held_behind k (omega arith) d);
            })
        by false e =
            let l = ltb-false (first_near high time i) (after_failure left i) e in
            let n = near_is in
            give (first_near high time i) by_time
            (record {
              side = let x = n.inside in omega arith;
              why = (n.holds, n.none_before);
              right_no = right_no_from (first_near high time i) (λ k c d. held_behind k (omega arith) d);
            })

module _ (low high : ℕ) (time : ℕ → ℕ) (left right : ℕ → Bool) (size i : ℕ) where
  -- UNTIL, YES: the earliest fitting j

  pub until_witness_is : until_at low high time left right size i ≡ true → IsFirst size (until_by low high time left right i) (until_witness low high time left right size i)
  until_witness_is met =
      let (j, h, v) = (any_iff size (until_by low high time left right i)).0 met in
      first_is size (until_by low high time left right i) j h v

  -- UNTIL, NO: what the line says decides, where no time falls

  pub until_forced : ((a b : ℕ) → a ≤ b → b < size → time a ≤ time b) → (p : ℕ) (cause : Cause) →
      UntilNo low high time left right size i p cause → until_at low high time left right size i ≡ false
  until_forced falls p cause told =
      refuted (until_at low high time left right size i)
      (λ e.
      let (j, h, (g, w, r, l)) = (until_at_iff low high time left right i size).0 e in
      ⊎_elim
      (λ (a : j ≤ p). true_and_false r (told.right_no j g a ((within_iff low high (time i) (time j)).1 w)))
      (λ (a : p < j). later cause told.why j a h w (l p told.side a))
      (le_or_lt j p))
    where
      later : (c : Cause) → UntilCause c high time left i p → (j : ℕ) → p < j → j < size → Within low high (time i) (time j) → left p ≡ true → ⊥
      later by_left why j a h w l = true_and_false l why
      later by_time why j a h w l =
          let f = falls p j (omega arith) h in
          true_and_false
          ((at_most_iff high (time p - time i)).1 (⊎_elim (λ near. inl (omega arith)) (λ u. inr u) w.1))
          why

  -- and it holds, where the operands have answered m positions, left `answered`, and the until has ended

  module _ (m answered : ℕ) (m_least : m ≤ answered) (unmet : until_at low high time left right size i ≡ false)
      (ended : Ended low high time left right size m i) (fits : m ≤ size) where
    abbrev test : ℕ → Bool
    test q = denied_left left answered i q || over high time i q

    abbrev end : ℕ
    end = first_end high time left size answered i

    failed : (k : ℕ) → i ≤ k → k < answered → left k ≡ false → denied_left left answered i k ≡ true
    failed k a b f =
        (and_iff (ltb k answered) (fails_from left i k)).1 (lt-ltb k answered b, (and_iff (leb i k) (negate (left k))).1 (le-leb i k a, ap negate f))

    -- some position ends it, at the latest m
    ending : (q : ℕ) × (q < size) × (q ≤ m) × (test q ≡ true)
    ending = by ended
      where
        by : Ended low high time left right size m i → (q : ℕ) × (q < size) × (q ≤ m) × (test q ≡ true)
        by (inl (k, a, b, f)) = (k, omega arith, omega arith, (or_iff _ (over high time i k)).1 (inl (failed k a (omega arith) f)))
        by (inr (q, a, b, c, v)) = (
          q,
          c,
          b,
          (or_iff (denied_left left answered i q) (over high time i q)).1
              (inr ((and_iff (leb i q) (negate (at_most high (time q - time i)))).1 (le-leb i q a, (above_iff high (time q - time i)).1 v))),
        )

    end_is : IsFirst size test end
    end_is = let (q, h, b, e) = ending in first_is size test q h e

    end_soon : end ≤ m
    end_soon =
        let (q, h, b, e) = ending in
        let late : q < end → ⊥ = λ l. true_and_false e (end_is.none_before q l) in
        omega arith

    -- left holds before it
    held_before : (k : ℕ) → i ≤ k → k < end → left k ≡ true
    held_before k a b =
        let soon = end_soon in
        ⊎_elim
        (λ v. v)
        (λ v. absurd (true_and_false ((or_iff _ (over high time i k)).1 (inl (failed k a (omega arith) v))) (end_is.none_before k b)))
        (true_or_false (left k))

    right_no_to : (q : ℕ) → i ≤ q → q ≤ end → within low high (time i) (time q) ≡ true → right q ≡ false
    right_no_to q a b w =
        let x = end_is.inside in
        refuted (right q)
        (λ r.
        true_and_false
        ((until_at_iff low high time left right i size).1
        (q, omega arith, (a, (within_iff low high (time i) (time q)).0 w, r, λ k c d. held_before k c (omega arith))))
        unmet)

    -- each cause that applies may be given
    by_cause : (P : Cause → Type 0) (failed late : Bool) → failed || late ≡ true → (failed ≡ true → P by_left) → (late ≡ true → P by_time) → P (cause failed late)
    by_cause P true true e f g = any_cause (cause true true) (f refl) (g refl)
      where
        any_cause : (c : Cause) → P by_left → P by_time → P c
        any_cause by_left x y = x
        any_cause by_time x y = y
    by_cause P true false e f g = f refl
    by_cause P false true e f g = g refl
    by_cause P false false e f g = absurd (false≢true e)

    pub until_denied_is : (P : Says → Type 0) →
        ((p : ℕ) (cause : Cause) → UntilNo low high time left right size i p cause → P (until_no p cause)) →
        P (until_denied high time left size answered i)
    until_denied_is P give =
        by_cause (λ c. P (until_no end c)) (denied_left left answered i end) (over high time i end) end_is.holds
        (λ e.
        let f = (and_iff (leb i end) (negate (left end))).0 ((and_iff (ltb end answered) (fails_from left i end)).0 e).1 in
        give end by_left
        (record {
          side = leb-true i end f.0;
          there = end_is.inside;
          why = (false_iff (left end)).1 ((not_iff (left end)).0 f.1);
          right_no = right_no_to;
        }))
        (λ e.
        let f = (and_iff (leb i end) (negate (at_most high (time end - time i)))).0 e in
        give end by_time
        (record {
          side = leb-true i end f.0;
          there = end_is.inside;
          why = (false_iff (at_most high (time end - time i))).1 ((not_iff (at_most high (time end - time i))).0 f.1);
          right_no = right_no_to;
        }))
