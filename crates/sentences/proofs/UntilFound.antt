-- An until's line from the searches: the first position more than high later, left's first answered no up to it, and the first yes of
-- right up to the earlier of them, at least low later. Over an operator's operands, by position. Assumes nothing.
use Prim.Native.Nat.{ℕ, ◌+◌, ◌-◌, ◌≤◌, ◌<◌, min, max}
use mathlib.Core.Bool.{Bool, true, false, cond, ◌||◌}
use mathlib.Core.Bool.{not as negate}
use mathlib.Core.Logic.{inl, inr, ⊎_elim}
use mathlib.Core.Path.{◌≡◌, refl, sym, ◌∙◌, ap}
use native.Mathlib.Omega.{arith}
use lib.Dec.{leb, ltb}
use borrow.Author.Tests.{le-leb, leb-true, leb-false, ltb-true, ltb-false, lt-ltb, le-ltb}
use Rattle.mtl.specs.Formula.{unbounded}
use Rattle.mtl.specs.Satisfaction.{at_most, until_by, until_at}
use Rattle.mtl.specs.Progress.{fails_from}
use Rattle.mtl.specs.Progress.{over as over_test}
use Rattle.mtl.proofs.Bounded.{true_or_false, true_and_false, false_iff, not_iff, and_iff, or_iff, le_or_lt, above_iff, UntilBy, until_by_iff, until_at_iff}
use Rattle.mtl.proofs.Until.{SettledYes, Ended, SettledNo}
use Rattle.rule.specs.declared.kind.Kind.TheVariants.{Until}
use Rattle.reasons.specs.Search.{first_where}
use Rattle.reasons.specs.Reason.{Says, cause, denied_left, first_end, until_denied}
use Rattle.reasons.specs.Reason.Says.{until, until_no}
use Rattle.reasons.specs.Reason.Cause.{by_left, by_time}
use Rattle.search.specs.Scan.{sought}
use Rattle.search.proofs.Finding.{first_most, none_before, first_holds, first_unique}
use Rattle.sentences.specs.Said.{alone, found_saying}
use Rattle.sentences.proofs.SinceFound.{not_behind}

module _ (low high : ℕ) (time : ℕ → ℕ) (left right : ℕ → Bool) (size pl pr i : ℕ) (falls : (a b : ℕ) → a ≤ b → b < size → time a ≤ time b)
    (finite : high < unbounded) (left_fits : pl ≤ size) (right_fits : pr ≤ size) (answered : i < min pl pr) where
  abbrev over : ℕ
  over = first_where size (λ (q : ℕ). leb (time i + high + 1) (time q))

  abbrev soon : ℕ
  soon = first_where size (λ (q : ℕ). leb (time i + low) (time q))

  abbrev asked : ℕ
  asked = min (over + 1) pl

  abbrev failed : ℕ
  failed = first_where asked (sought false i left)

  abbrev stop : ℕ
  stop = cond (ltb failed asked) failed over

  abbrev from : ℕ
  from = max i soon

  abbrev to : ℕ
  to = min over (stop + 1)

  abbrev seen : ℕ
  seen = min to pr

  abbrev found : ℕ
  found = first_where seen (sought true from right)

  -- TIMES

  over_most : over ≤ size
  over_most = first_most size (λ (q : ℕ). leb (time i + high + 1) (time q))

  not_over : (q : ℕ) → q < over → time q ≤ time i + high
  not_over q h = omega (arith, leb-false (time i + high + 1) (time q) (none_before size (λ (k : ℕ). leb (time i + high + 1) (time k)) q h))

  is_over : (q : ℕ) → over ≤ q → q < size → time i + high < time q
  is_over q h inside =
      let there = leb-true (time i + high + 1) (time over) (first_holds size (λ (k : ℕ). leb (time i + high + 1) (time k)) (omega arith)) in
      let later = falls over q h inside in
      omega arith

  before_over : i < over
  before_over = let past : over ≤ i → ⊥ = λ h. let late = is_over i h (omega arith) in omega arith in omega arith

  over_true : (q : ℕ) → i ≤ q → over ≤ q → q < size → over_test high time i q ≡ true
  over_true q a h inside =
      (and_iff (leb i q) (negate (at_most high (time q - time i)))).1
      (le-leb i q a, (above_iff high (time q - time i)).1 (let late = is_over q h inside in (omega arith, λ u. omega arith)))

  over_false : (q : ℕ) → q < over → over_test high time i q ≡ false
  over_false q h =
      (false_iff (over_test high time i q)).1
      (λ e.
      let (a, v) = (and_iff (leb i q) (negate (at_most high (time q - time i)))).0 e in
      let (far, some) = (above_iff high (time q - time i)).0 v in
      let close = not_over q h in
      omega arith)

  from_i : i ≤ from
  from_i = omega arith

  from_soon : soon ≤ from
  from_soon = omega arith

  from_least : (q : ℕ) → i ≤ q → soon ≤ q → from ≤ q
  from_least q a b = omega arith

  -- LEFT

  failed_most : failed ≤ asked
  failed_most = first_most asked (sought false i left)

  stop_most : stop ≤ over
  stop_most = by (ltb failed asked) refl
    where
      by : (b : Bool) → ltb failed asked ≡ b → cond b failed over ≤ over
      by true e = omega (arith, ltb-true failed asked e)
      by false e = omega arith

  -- left holds at the answered positions before the stop
  held : (k : ℕ) → i ≤ k → k < stop → k < pl → left k ≡ true
  held k a b c =
      ⊎_elim
      (λ v. v)
      (λ v. absurd (true_and_false ((and_iff (leb i k) (negate (left k))).1 (le-leb i k a, ap negate v)) (none_before asked (sought false i left) k (omega (arith, early)))))
      (true_or_false (left k))
    where
      early : k < failed
      early = by (ltb failed asked) refl b
        where
          by : (b : Bool) → ltb failed asked ≡ b → k < cond b failed over → k < failed
          by true e h = h
          by false e h = omega (arith, ltb-false failed asked e)

  -- and fails at the stop, if it was found to fail
  fails : failed < asked → (i ≤ failed) × (left failed ≡ false)
  fails h =
      let (a, v) = (and_iff (leb i failed) (negate (left failed))).0 (first_holds asked (sought false i left) h) in
      (leb-true i failed a, (false_iff (left failed)).1 ((not_iff (left failed)).0 v))

  -- what fits is what is searched for
  fits_in : (q : ℕ) → q < size → UntilBy low high time left right i q → (q < to) × (sought true from right q ≡ true)
  fits_in q h (a, (wide, close), hits, kept) =
      let after = falls i q a h in
      let early : q < over =
      let past : over ≤ q → ⊥ = λ l. let late = is_over q l h in ⊎_elim (λ (x : time q - time i ≤ high). omega arith) (λ (u : high ≡ unbounded). omega arith) close in
      omega arith in
      let there : soon ≤ q = not_behind size (λ (k : ℕ). leb (time i + low) (time k)) q (le-leb (time i + low) (time q) (omega arith)) in
      let stopped : q ≤ stop = until_stop q early kept in
      (omega arith, (and_iff (leb from q) (right q)).1 (le-leb from q (from_least q a there), hits))
    where
      until_stop : (q : ℕ) → q < over → ((k : ℕ) → i ≤ k → k < q → left k ≡ true) → q ≤ stop
      until_stop q early kept = by (ltb failed asked) refl
        where
          by : (b : Bool) → ltb failed asked ≡ b → q ≤ cond b failed over
          by true e =
              let (a, v) = fails (ltb-true failed asked e) in
              let past : failed < q → ⊥ = λ l. true_and_false (kept failed a l) v in
              omega arith
          by false e = omega arith

  fits_out : (q : ℕ) → q < to → q ≤ pl → sought true from right q ≡ true → UntilBy low high time left right i q
  fits_out q h few e =
      let (at, hits) = (and_iff (leb from q) (right q)).0 e in
      let here = leb-true from q at in
      let behind : i ≤ q = omega (arith, from_i) in
      let most = over_most in
      let close = not_over q (omega arith) in
      let there = leb-true (time i + low) (time soon) (first_holds size (λ (k : ℕ). leb (time i + low) (time k)) (omega (arith, from_soon))) in
      let later = falls soon q (omega (arith, from_soon)) (omega arith) in
      (behind, (omega arith, inl (omega arith)), hits, λ k a b. held k a (omega arith) (omega arith))

  -- SETTLED YES

  module _ (settled : SettledYes low high time left right size (min pl pr) i) where
    yes_early : (found < seen) × (found ≤ pl)
    yes_early =
        let (j, h, u) = settled in
        let (l, v) = fits_in j (omega arith) u in
        let few = not_behind seen (sought true from right) j v in
        (omega arith, omega arith)

    yes_fits : UntilBy low high time left right i found
    yes_fits =
        let (l, few) = yes_early in
        fits_out found (omega arith) few (first_holds seen (sought true from right) l)

    yes_holds : until_at low high time left right size i ≡ true
    yes_holds = let (l, few) = yes_early in let most = over_most in (until_at_iff low high time left right i size).1 (found, omega arith, yes_fits)

    yes_first : first_where size (until_by low high time left right i) ≡ found
    yes_first =
        let (l, few) = yes_early in
        let most = over_most in
        first_unique size (until_by low high time left right i) found (omega arith)
        (λ q h.
        (false_iff (until_by low high time left right i q)).1
        (λ e.
        let (g, v) = fits_in q (omega arith) ((until_by_iff low high time left right i q).0 e) in
        true_and_false v (none_before seen (sought true from right) q h)))
        (λ h. (until_by_iff low high time left right i found).1 yes_fits)

    pub yes_said : found_saying Until (ltb found seen) found stop (ltb failed asked) ≡
        alone
        (cond (until_at low high time left right size i) (until (first_where size (until_by low high time left right i))) (until_denied high time left size pl i))
        (until_at low high time left right size i)
    yes_said = rw (lt-ltb found seen yes_early.0, yes_holds, yes_first) refl

  -- SETTLED NO

  module _ (settled : SettledNo low high time left right size (min pl pr) i) where
    -- the search ends in time, and the stop stands in the log
    ends : (to ≤ min pl pr) × (stop < size)
    ends = by settled.1
      where
        left_no : (k : ℕ) → i ≤ k → k < min pl pr → left k ≡ false → (b : Bool) → ltb failed asked ≡ b →
            (min over (cond b failed over + 1) ≤ min pl pr) × (cond b failed over < size)
        left_no k a h v true e =
            let l = ltb-true failed asked e in
            ⊎_elim
            (λ (x : k ≤ over).
            let few = not_behind asked (sought false i left) k ((and_iff (leb i k) (negate (left k))).1 (le-leb i k a, ap negate v)) in
            (omega arith, omega arith))
            (λ (x : over < k). (omega arith, omega arith))
            (le_or_lt k over)
        left_no k a h v false e =
            let l = ltb-false failed asked e in
            ⊎_elim
            (λ (x : k ≤ over).
            let few = not_behind asked (sought false i left) k ((and_iff (leb i k) (negate (left k))).1 (le-leb i k a, ap negate v)) in
            absurd (omega arith))
            (λ (x : over < k). (omega arith, omega arith))
            (le_or_lt k over)

        late : (q : ℕ) → q ≤ min pl pr → q < size → over ≤ q → (b : Bool) → ltb failed asked ≡ b →
            (min over (cond b failed over + 1) ≤ min pl pr) × (cond b failed over < size)
        late q h inside l true e = let few = ltb-true failed asked e in (omega arith, omega arith)
        late q h inside l false e = (omega arith, omega arith)

        by : Ended low high time left right size (min pl pr) i → (to ≤ min pl pr) × (stop < size)
        by (inl (k, a, h, v)) = left_no k a h v (ltb failed asked) refl
        by (inr (q, a, h, inside, (far, some))) =
            let reached : over ≤ q =
            let short : q < over → ⊥ = λ l. let close = not_over q l in omega arith in
            omega arith in
            late q h inside reached (ltb failed asked) refl

    no_fit : (q : ℕ) → q < size → UntilBy low high time left right i q → ⊥
    no_fit q h u = let (l, v) = fits_in q h u in settled.0 (q, omega (arith, ends.0), u)

    no_found : seen ≤ found
    no_found =
        let past : found < seen → ⊥ = λ l.
        let most = over_most in
        no_fit found (omega arith) (fits_out found (omega arith) (omega (arith, ends.0)) (first_holds seen (sought true from right) l)) in
        omega arith

    no_holds : until_at low high time left right size i ≡ false
    no_holds =
        (false_iff (until_at low high time left right size i)).1
        (λ e. let (q, h, u) = (until_at_iff low high time left right i size).0 e in no_fit q h u)

    abbrev test : ℕ → Bool
    test q = denied_left left pl i q || over_test high time i q

    nothing : (q : ℕ) → q < stop → test q ≡ false
    nothing q h =
        (false_iff (test q)).1
        (λ e.
        ⊎_elim
        (λ d.
        let (l, f) = (and_iff (ltb q pl) (fails_from left i q)).0 d in
        let (a, v) = (and_iff (leb i q) (negate (left q))).0 f in
        true_and_false (held q (leb-true i q a) h (ltb-true q pl l)) ((false_iff (left q)).1 ((not_iff (left q)).0 v)))
        (λ o. true_and_false o (over_false q (omega (arith, stop_most))))
        ((or_iff (denied_left left pl i q) (over_test high time i q)).0 e))

    denied_stop : denied_left left pl i stop ≡ ltb failed asked
    denied_stop = by (ltb failed asked) refl
      where
        by : (b : Bool) → ltb failed asked ≡ b → denied_left left pl i (cond b failed over) ≡ b
        by true e =
            let l = ltb-true failed asked e in
            let (a, v) = fails l in
            (and_iff (ltb failed pl) (fails_from left i failed)).1 (lt-ltb failed pl (omega arith), (and_iff (leb i failed) (negate (left failed))).1 (le-leb i failed a, ap negate v))
        by false e =
            (false_iff (denied_left left pl i over)).1
            (λ d.
            let (l, f) = (and_iff (ltb over pl) (fails_from left i over)).0 d in
            let few = not_behind asked (sought false i left) over f in
            let none = ltb-false failed asked e in
            let within = ltb-true over pl l in
            absurd (omega arith))

    stopped : test stop ≡ true
    stopped = by (ltb failed asked) refl
      where
        by : (b : Bool) → ltb failed asked ≡ b → test stop ≡ true
        by true e = (or_iff (denied_left left pl i stop) (over_test high time i stop)).1 (inl (denied_stop ∙ e))
        by false e =
            let here : stop ≡ over = ap (λ (b : Bool). cond b failed over) e in
            let inside = ends.1 in
            (or_iff (denied_left left pl i stop) (over_test high time i stop)).1
            (inr (ap (over_test high time i) here ∙ over_true over (omega (arith, before_over)) (omega arith) (omega arith)))

    end_is : first_end high time left size pl i ≡ stop
    end_is = let inside = ends.1 in first_unique size test stop (omega arith) nothing (λ h. stopped)

    denied_is : until_denied high time left size pl i ≡ until_no stop (cond (ltb failed asked) by_left by_time)
    denied_is =
        ap (λ (e : ℕ). until_no e (cause (denied_left left pl i e) (over_test high time i e))) end_is ∙
        ap (λ (b : Bool). until_no stop (cause b (over_test high time i stop))) denied_stop ∙ either (ltb failed asked)
      where
        either : (b : Bool) → until_no stop (cause b (over_test high time i stop)) ≡ until_no stop (cond b by_left by_time)
        either true = refl
        either false = refl

    pub no_said : found_saying Until (ltb found seen) found stop (ltb failed asked) ≡
        alone
        (cond (until_at low high time left right size i) (until (first_where size (until_by low high time left right i))) (until_denied high time left size pl i))
        (until_at low high time left right size i)
    no_said = rw (le-ltb found seen no_found, no_holds) (by (ltb failed asked) ∙ ap (λ (x : Says). alone x false) (sym denied_is))
      where
        by : (b : Bool) → found_saying Until false found stop b ≡ alone (until_no stop (cond b by_left by_time)) false
        by true = refl
        by false = refl
