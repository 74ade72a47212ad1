-- A since's line from three searches: the first position at most high before, the latest where left fails, and the first yes of right from
-- the later of them on, at least low before. Over an operator's operands, by position. Assumes nothing.
use Prim.Native.Nat.{ℕ, suc, ◌+◌, ◌-◌, ◌≤◌, ◌<◌, min}
use mathlib.Core.Bool.{Bool, true, false, cond}
use mathlib.Core.Bool.{not as negate}
use mathlib.Core.Logic.{inl, ⊎_elim}
use mathlib.Core.Path.{◌≡◌, refl, sym, ◌∙◌, ap}
use native.Mathlib.Omega.{arith}
use lib.Dec.{leb, ltb}
use borrow.Author.Tests.{le-leb, leb-true, leb-false, ltb-true, ltb-false, lt-ltb, le-ltb}
use Rattle.mtl.specs.Formula.{unbounded}
use Rattle.mtl.specs.Satisfaction.{at_most, since_by, since_at}
use Rattle.mtl.proofs.Bounded.{true_or_false, true_and_false, false_iff, not_iff, and_iff, le_or_lt, at_most_iff, above_iff, above_small, at_most_small, SinceBy, since_by_iff, since_at_iff}
use Rattle.rule.specs.declared.kind.Kind.TheVariants.{Since}
use Rattle.reasons.specs.Search.{first_where, after_last}
use Rattle.reasons.specs.Reason.{Says, first_near, since_denied}
use Rattle.reasons.specs.Reason.Says.{since}
use Rattle.reasons.proofs.Searches.{last_holds, none_after}
use Rattle.search.specs.Scan.{sought}
use Rattle.search.proofs.Finding.{none_before, first_holds, first_unique}
use Rattle.sentences.specs.Said.{alone, found_saying}

-- a position is among those searched where its test holds
pub not_behind : (n : ℕ) (p : ℕ → Bool) (q : ℕ) → p q ≡ true → first_where n p ≤ q
not_behind n p q e = let past : q < first_where n p → ⊥ = λ h. true_and_false e (none_before n p q h) in omega arith

module _ (low high : ℕ) (time : ℕ → ℕ) (left right : ℕ → Bool) (size i : ℕ) (falls : (a b : ℕ) → a ≤ b → b < size → time a ≤ time b)
    (inside : i < size) (small : time i ≤ unbounded) where
  abbrev near : ℕ
  near = first_where size (λ (q : ℕ). leb (time i - high) (time q))

  abbrev late : ℕ
  late = first_where size (λ (q : ℕ). leb (time i + 1 - low) (time q))

  abbrev fail : ℕ
  fail = after_last (suc i) (λ (q : ℕ). negate (left q))

  abbrev from : ℕ
  from = cond (ltb near fail) (fail - 1) near

  abbrev to : ℕ
  to = min late (suc i)

  abbrev found : ℕ
  found = first_where to (sought true from right)

  near_most : near ≤ i
  near_most = not_behind size (λ (q : ℕ). leb (time i - high) (time q)) i (le-leb (time i - high) (time i) (omega arith))

  near_holds : time i - high ≤ time near
  near_holds = leb-true (time i - high) (time near) (first_holds size (λ (q : ℕ). leb (time i - high) (time q)) (omega (arith, near_most)))

  too_early : (q : ℕ) → q < near → high < time i - time q
  too_early q h = omega (arith, leb-false (time i - high) (time q) (none_before size (λ (k : ℕ). leb (time i - high) (time k)) q h))

  pub near_is : first_near high time i ≡ near
  near_is =
      first_unique (suc i) (λ (q : ℕ). at_most high (time i - time q)) near (omega (arith, near_most))
      (λ q h.
      (false_iff (at_most high (time i - time q))).1
      ((not_iff (at_most high (time i - time q))).0 ((above_iff high (time i - time q)).1 (above_small high (time q) (time i) small (too_early q h)))))
      (λ h. (at_most_iff high (time i - time near)).1 (inl (omega (arith, near_holds))))

  -- where the search for right's yes begins
  from_near : near ≤ from
  from_near = by (ltb near fail) refl
    where
      by : (b : Bool) → ltb near fail ≡ b → near ≤ cond b (fail - 1) near
      by true e = omega (arith, ltb-true near fail e)
      by false e = omega arith

  from_fail : fail ≤ from + 1
  from_fail = by (ltb near fail) refl
    where
      by : (b : Bool) → ltb near fail ≡ b → fail ≤ cond b (fail - 1) near + 1
      by true e = omega arith
      by false e = omega (arith, ltb-false near fail e)

  from_least : (j : ℕ) → near ≤ j → fail ≤ j + 1 → from ≤ j
  from_least j a b = by (ltb near fail)
    where
      by : (c : Bool) → cond c (fail - 1) near ≤ j
      by true = omega arith
      by false = omega arith

  -- left holds behind its last failure
  held : (k : ℕ) → fail ≤ k → k ≤ i → left k ≡ true
  held k a b =
      ⊎_elim
      (λ v. v)
      (λ v. absurd (true_and_false (ap negate v) (none_after (suc i) (λ (q : ℕ). negate (left q)) k a (omega arith))))
      (true_or_false (left k))

  -- what fits is what is searched for
  fits_in : (j : ℕ) → j ≤ i → SinceBy low high time left right i j → (j < to) × (sought true from right j ≡ true)
  fits_in j h ((wide, close), hits, kept) =
      let before = falls j i h inside in
      let past_near : j < near → ⊥ = λ l. let far = too_early j l in let few = at_most_small high (time j) (time i) small close in omega arith in
      let past_fail : j + 1 < fail → ⊥ = λ l.
      let (most, failed) = last_holds (suc i) (λ (q : ℕ). negate (left q)) (omega arith) in
      true_and_false failed (ap negate (kept (fail - 1) (omega arith) (omega arith))) in
      let past_late : late ≤ j → ⊥ = λ l.
      let there = leb-true (time i + 1 - low) (time late) (first_holds size (λ (q : ℕ). leb (time i + 1 - low) (time q)) (omega arith)) in
      let later = falls late j l (omega arith) in
      omega arith in
      let here : from ≤ j = from_least j (omega arith) (omega arith) in
      (omega arith, (and_iff (leb from j) (right j)).1 (le-leb from j here, hits))

  fits_out : (j : ℕ) → j < to → sought true from right j ≡ true → SinceBy low high time left right i j
  fits_out j h e =
      let (at, hits) = (and_iff (leb from j) (right j)).0 e in
      let here = leb-true from j at in
      let soon = leb-false (time i + 1 - low) (time j) (none_before size (λ (q : ℕ). leb (time i + 1 - low) (time q)) j (omega arith)) in
      let before = falls j i (omega arith) inside in
      let near_here = falls near j (omega (arith, from_near)) (omega arith) in
      ((omega arith, inl (omega (arith, near_holds))), hits, λ k a b. held k (omega (arith, from_fail)) b)

  pub since_holds : ltb found to ≡ since_at low high time left right i
  since_holds =
      ⊎_elim
      (λ e.
      let (j, h, s) = (since_at_iff low high time left right i).0 e in
      let (l, v) = fits_in j h s in
      let few = not_behind to (sought true from right) j v in
      lt-ltb found to (omega arith) ∙ sym e)
      (λ e.
      ⊎_elim
      (λ (l : to ≤ found). le-ltb found to l ∙ sym e)
      (λ (l : found < to).
      absurd
      (true_and_false
      ((since_at_iff low high time left right i).1 (found, omega arith, fits_out found l (first_holds to (sought true from right) l)))
      e))
      (le_or_lt to found))
      (true_or_false (since_at low high time left right i))

  pub since_first : found < to → first_where (suc i) (since_by low high time left right i) ≡ found
  since_first l =
      first_unique (suc i) (since_by low high time left right i) found (omega arith)
      (λ q h.
      (false_iff (since_by low high time left right i q)).1
      (λ e.
      let (g, v) = fits_in q (omega arith) ((since_by_iff low high time left right i q).0 e) in
      true_and_false v (none_before to (sought true from right) q h)))
      (λ h. (since_by_iff low high time left right i found).1 (fits_out found l (first_holds to (sought true from right) l)))

  -- the saying of the searches is the since's
  pub since_said : found_saying Since (ltb found to) found from (ltb near fail) ≡
      alone
      (cond (since_at low high time left right i) (since (first_where (suc i) (since_by low high time left right i))) (since_denied high time left i))
      (since_at low high time left right i)
  since_said = by (ltb found to) refl (since_at low high time left right i) since_holds
    where
      denied : (n : ℕ) (b : Bool) → ltb n fail ≡ b → n ≡ near →
          found_saying Since false found (cond (ltb near fail) (fail - 1) near) (ltb near fail) ≡
          alone (cond b (Rattle.reasons.specs.Reason.Says.since_no (fail - 1) Rattle.reasons.specs.Reason.Cause.by_left) (Rattle.reasons.specs.Reason.Says.since_no n Rattle.reasons.specs.Reason.Cause.by_time)) false
      denied n true e same = rw (sym same, e) refl
      denied n false e same = rw (sym same, e) refl

      by : (b : Bool) → ltb found to ≡ b → (s : Bool) → b ≡ s →
          found_saying Since b found from (ltb near fail) ≡
          alone (cond s (since (first_where (suc i) (since_by low high time left right i))) (since_denied high time left i)) s
      by true e true h = rw (since_first (ltb-true found to e)) refl
      by false e false h = denied (first_near high time i) (ltb (first_near high time i) fail) refl near_is
      by true e false h = absurd (true_and_false refl h)
      by false e true h = absurd (true_and_false refl (sym h))
