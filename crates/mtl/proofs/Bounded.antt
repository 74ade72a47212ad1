-- Each test of specs/ and the statement it decides: the laws by which proofs cross from Bool to Type and back.
-- (Examples is named first so that the table of worked examples is checked before any theorem.)
use Rattle.mtl.specs.Examples
use Prim.Native.Nat.{ℕ, zero, suc, ◌-◌, ◌≤◌, ◌<◌}
use mathlib.Core.Bool.{Bool, true, false, cond, ◌&&◌, ◌||◌, true≢false, false≢true}
use mathlib.Core.Bool.{not as negate}
use mathlib.Core.Logic.{◌⊎◌, inl, inr, ⊎_elim, ◌↔◌}
use mathlib.Core.Path.{◌≡◌, refl, sym, ◌∙◌, ap}
use native.Mathlib.Nat.{eq-or-lt_of_le}
use native.Mathlib.Omega.{arith}
use lib.Dec.{leb, ltb, eqb}
use borrow.Author.Tests.{leb-true, leb-false, ltb-false, le-leb, lt-leb, le-ltb, eqb-true, eq-eqb, not-true}
use Rattle.mtl.specs.Formula.{unbounded}
use Rattle.mtl.specs.Satisfaction.{any, all, at_most, within, held_after, held_from, since_by, until_by, since_at, until_at}
use Rattle.mtl.specs.Progress.{fails_from, over, run}
use Rattle.mtl.specs.Reading.{AtMost, Within}

-- Bool

pub true_or_false : (a : Bool) → (a ≡ true) ⊎ (a ≡ false)
true_or_false true = inl refl
true_or_false false = inr refl

pub true_and_false : {a : Bool} → a ≡ true → a ≡ false → ⊥
true_and_false p q = true≢false (sym p ∙ q)

-- a test is false if it is refuted
pub false_iff : (a : Bool) → (a ≡ false) ↔ ((a ≡ true) → ⊥)
false_iff true = (λ e p. true≢false e, λ f. absurd (f refl))
false_iff false = (λ e p. false≢true p, λ f. refl)

-- two tests of equivalent statements are equal
pub same_test : (a b : Bool) → (a ≡ true) ↔ (b ≡ true) → a ≡ b
same_test true b h = sym (h.0 refl)
same_test false true h = h.1 refl
same_test false false h = refl

pub and_iff : (a b : Bool) → (a && b ≡ true) ↔ ((a ≡ true) × (b ≡ true))
and_iff true b = (λ e. (refl, e), λ p. p.1)
and_iff false b = (λ e. absurd (false≢true e), λ p. p.0)

pub or_iff : (a b : Bool) → (a || b ≡ true) ↔ ((a ≡ true) ⊎ (b ≡ true))
or_iff true b = (λ e. inl refl, λ p. refl)
or_iff false b = (inr, ⊎_elim (λ e. absurd (false≢true e)) (λ e. e))

pub not_iff : (a : Bool) → (negate a ≡ true) ↔ ((a ≡ true) → ⊥)
not_iff true = (λ e p. false≢true e, λ f. absurd (f refl))
not_iff false = (λ e p. false≢true p, λ f. refl)

-- orders

pub leb_iff : (a b : ℕ) → (leb a b ≡ true) ↔ (a ≤ b)
leb_iff a b = (leb-true a b, le-leb a b)

pub le_or_lt : (a b : ℕ) → (a ≤ b) ⊎ (b < a)
le_or_lt a b = ⊎_elim (λ e. inl (leb-true a b e)) (λ e. inr (leb-false a b e)) (true_or_false (leb a b))

pub at_most_iff : (high gap : ℕ) → (at_most high gap ≡ true) ↔ AtMost high gap
at_most_iff high gap =
    let either = or_iff (leb gap high) (eqb high unbounded) in (
      λ e. ⊎_elim (λ l. inl (leb-true gap high l)) (λ u. inr (eqb-true high unbounded u)) (either.0 e),
      ⊎_elim (λ l. either.1 (inl (le-leb gap high l))) (λ u. either.1 (inr (eq-eqb high unbounded u))),
    )

-- "more than high": above it, where there is an upper end
abbrev pub Above : (high gap : ℕ) → Type 0
Above high gap = (high < gap) × (high ≡ unbounded → ⊥)

pub above_iff : (high gap : ℕ) → (negate (at_most high gap) ≡ true) ↔ Above high gap
above_iff high gap =
    let test = not_iff (at_most high gap) in (
      λ e.
          let no : AtMost high gap → ⊥ = λ m. test.0 e ((at_most_iff high gap).1 m) in
          (⊎_elim (λ l. absurd (no (inl l))) (λ g. g) (le_or_lt gap high), λ u. no (inr u)),
      λ a. test.1 (λ m. ⊎_elim (λ l. let g = a.0 in omega arith) a.1 ((at_most_iff high gap).0 m)),
    )

pub at_most_or_above : (high gap : ℕ) → AtMost high gap ⊎ Above high gap
at_most_or_above high gap =
    ⊎_elim
    (λ e. inl ((at_most_iff high gap).0 e))
    (λ e. inr ((above_iff high gap).0 (ap negate e)))
    (true_or_false (at_most high gap))

pub within_iff : (low high earlier later : ℕ) → (within low high earlier later ≡ true) ↔ Within low high earlier later
within_iff low high earlier later =
    let both = and_iff (leb low (later - earlier)) (at_most high (later - earlier)) in
    let most = at_most_iff high (later - earlier) in (
      λ e. (leb-true low (later - earlier) (both.0 e).0, most.0 (both.0 e).1),
      λ w. both.1 (le-leb low (later - earlier) w.0, most.1 w.1),
    )

-- A gap to a 32-bit time never lies above 4,294,967,295, so that there high is a number like any other: code over
-- 32-bit times needs no case for it.
pub at_most_small : (high earlier later : ℕ) → later ≤ unbounded → AtMost high (later - earlier) → later - earlier ≤ high
at_most_small high earlier later small (inl l) = l
at_most_small high earlier later small (inr u) = omega arith

pub above_small : (high earlier later : ℕ) → later ≤ unbounded → high < later - earlier → Above high (later - earlier)
above_small high earlier later small h = (h, λ u. omega arith)

pub within_small : (low high earlier later : ℕ) → later ≤ unbounded →
    within low high earlier later ≡ (leb low (later - earlier) && leb (later - earlier) high)
within_small low high earlier later small =
    ap (λ (b : Bool). leb low (later - earlier) && b)
    (same_test (at_most high (later - earlier)) (leb (later - earlier) high) (
      λ e. le-leb (later - earlier) high (at_most_small high earlier later small ((at_most_iff high (later - earlier)).0 e)),
      λ e. (at_most_iff high (later - earlier)).1 (inl (leb-true (later - earlier) high e)),
    ))

-- any and all

pub any_iff : (n : ℕ) (p : ℕ → Bool) → (any n p ≡ true) ↔ ((i : ℕ) × (i < n) × (p i ≡ true))
unfolding any
any_iff zero p = (λ e. absurd (false≢true e), λ w. absurd (let h = w.1 in omega arith))
any_iff (suc n) p =
    let either = or_iff (any n p) (p n) in (
      λ e. ⊎_elim (λ a. let (i, h, v) = (any_iff n p).0 a in (i, omega arith, v)) (λ v. (n, omega arith, v)) (either.0 e),
      λ w. either.1 (⊎_elim (λ s. inr (ap p (sym s) ∙ w.2)) (λ l. inl ((any_iff n p).1 (w.0, l, w.2))) (last w.1)),
    )
  where
    last : {i : ℕ} → i < suc n → (i ≡ n) ⊎ (i < n)
    last h = eq-or-lt_of_le (omega arith)

pub any_false_iff : (n : ℕ) (p : ℕ → Bool) → (any n p ≡ false) ↔ ((i : ℕ) → i < n → p i ≡ false)
any_false_iff n p = (
  λ e i h. (false_iff (p i)).1 (λ v. true_and_false ((any_iff n p).1 (i, h, v)) e),
  λ f. (false_iff (any n p)).1 (λ e. let (i, h, v) = (any_iff n p).0 e in true_and_false v (f i h)),
)

pub all_iff : (n : ℕ) (p : ℕ → Bool) → (all n p ≡ true) ↔ ((i : ℕ) → i < n → p i ≡ true)
unfolding all
all_iff zero p = (λ e i h. absurd (omega arith), λ f. refl)
all_iff (suc n) p =
    let both = and_iff (all n p) (p n) in (
      λ e i h. ⊎_elim (λ s. ap p s ∙ (both.0 e).1) (λ l. (all_iff n p).0 (both.0 e).0 i l) (last i h),
      λ f. both.1 ((all_iff n p).1 (λ i h. f i (omega arith)), f n (omega arith)),
    )
  where
    last : (i : ℕ) → i < suc n → (i ≡ n) ⊎ (i < n)
    last i h = eq-or-lt_of_le (omega arith)

pub all_false_iff : (n : ℕ) (p : ℕ → Bool) → (all n p ≡ false) ↔ ((i : ℕ) × (i < n) × (p i ≡ false))
unfolding all
all_false_iff zero p = (λ e. absurd (true≢false e), λ w. absurd (let h = w.1 in omega arith))
all_false_iff (suc n) p = (
  λ e.
      ⊎_elim
      (λ v. let (i, h, u) = (all_false_iff n p).0 (before e v) in (i, omega arith, u))
      (λ u. (n, omega arith, u))
      (true_or_false (p n)),
  λ w. (false_iff (all n p && p n)).1 (λ e. true_and_false ((all_iff (suc n) p).0 e w.0 w.1) w.2),
)
  where
    before : all n p && p n ≡ false → p n ≡ true → all n p ≡ false
    before e v = (false_iff (all n p)).1 (λ a. true_and_false ((and_iff (all n p) (p n)).1 (a, v)) e)

pub any_congr : (n : ℕ) (p q : ℕ → Bool) → ((i : ℕ) → i < n → p i ≡ q i) → any n p ≡ any n q
unfolding any
any_congr zero p q same = refl
any_congr (suc n) p q same = rw (any_congr n p q (λ i h. same i (omega arith)), same n (omega arith))

pub all_congr : (n : ℕ) (p q : ℕ → Bool) → ((i : ℕ) → i < n → p i ≡ q i) → all n p ≡ all n q
unfolding all
all_congr zero p q same = refl
all_congr (suc n) p q same = rw (all_congr n p q (λ i h. same i (omega arith)), same n (omega arith))

-- run

-- r is the length of the longest run from 0, of at most m positions, in which p holds everywhere
pub record Run (m : ℕ) (p : ℕ → Bool) (r : ℕ) : Type 0 where
  pub most : r ≤ m
  pub holds : (i : ℕ) → i < r → p i ≡ true
  pub stops : (r ≡ m) ⊎ (p r ≡ false)

pub run_is : (m : ℕ) (p : ℕ → Bool) → Run m p (run m p)
unfolding run
run_is zero p = record { most = omega arith; holds = λ i h. absurd (omega arith); stops = inl refl }
run_is (suc m) p = step (run_is m p) (eqb (run m p) m && p m) refl
  where
    step : Run m p (run m p) → (b : Bool) → eqb (run m p) m && p m ≡ b → Run (suc m) p (cond b (suc m) (run m p))
    step ih true e =
        let both = (and_iff (eqb (run m p) m) (p m)).0 e in
        let full : run m p ≡ m = eqb-true (run m p) m both.0 in
        record {
          most = omega arith;
          holds = λ i h. ⊎_elim (λ s. ap p s ∙ both.1) (λ l. ih.holds i (omega arith)) (eq-or-lt_of_le {n = i} {m = m} (omega arith));
          stops = inl refl;
        }
    step ih false e =
        record {
          most = let k = ih.most in omega arith;
          holds = ih.holds;
          stops =
              inr
              (⊎_elim
              (λ s. ap p s ∙ (false_iff (p m)).1 (λ v. true_and_false ((and_iff (eqb (run m p) m) (p m)).1 (eq-eqb (run m p) m s, v)) e))
              (λ f. f)
              ih.stops);
        }

pub run_le : (m : ℕ) (p : ℕ → Bool) → run m p ≤ m
run_le m p = (run_is m p).most

pub run_holds : (m : ℕ) (p : ℕ → Bool) (i : ℕ) → i < run m p → p i ≡ true
run_holds m p = (run_is m p).holds

pub run_stops : (m : ℕ) (p : ℕ → Bool) → run m p < m → p (run m p) ≡ false
run_stops m p h = ⊎_elim (λ e. absurd (omega arith)) (λ f. f) (run_is m p).stops

pub run_congr : (m : ℕ) (p q : ℕ → Bool) → ((i : ℕ) → i < m → p i ≡ q i) → run m p ≡ run m q
unfolding run
run_congr zero p q same = refl
run_congr (suc m) p q same = rw (run_congr m p q (λ i h. same i (omega arith)), same m (omega arith))

-- a position below m is in the run if p holds up to it
pub run_iff : (m : ℕ) (p : ℕ → Bool) (i : ℕ) → i < m → (i < run m p) ↔ ((k : ℕ) → k ≤ i → p k ≡ true)
run_iff m p i h = (λ l k g. run_holds m p k (omega arith), λ f. let n : run m p ≤ i → ⊥ = past f in omega arith)
  where
    past : ((k : ℕ) → k ≤ i → p k ≡ true) → run m p ≤ i → ⊥
    past f l = true_and_false (f (run m p) l) (run_stops m p (omega arith))

-- a run reaches as far as p holds
pub run_least : (m : ℕ) (p : ℕ → Bool) (r : ℕ) → r ≤ m → ((i : ℕ) → i < r → p i ≡ true) → r ≤ run m p
run_least m p r most holds = let n : run m p < r → ⊥ = past in omega arith
  where
    past : run m p < r → ⊥
    past h = true_and_false (holds (run m p) h) (run_stops m p (omega arith))

-- the operators' conditions

-- a test that is needed only where another fails
unless_iff : {A : Type 0} (a b : Bool) → (a ≡ false) ↔ A → (a || b ≡ true) ↔ (A → b ≡ true)
unless_iff true b h = (λ e x. absurd (true≢false (h.1 x)), λ f. refl)
unless_iff false b h = (λ e x. e, λ f. f (h.0 refl))

pub held_after_iff : (left : ℕ → Bool) (j i : ℕ) → (all (suc i) (held_after left j) ≡ true) ↔ ((k : ℕ) → j < k → k ≤ i → left k ≡ true)
held_after_iff left j i = (
  λ e k g h. (at k).0 ((all_iff (suc i) (held_after left j)).0 e k (omega arith)) g,
  λ f. (all_iff (suc i) (held_after left j)).1 (λ k h. (at k).1 (λ g. f k g (omega arith))),
)
  where
    at : (k : ℕ) → (held_after left j k ≡ true) ↔ (j < k → left k ≡ true)
    at k = unless_iff (leb k j) (left k) (leb-false k j, lt-leb k j)

pub held_from_iff : (left : ℕ → Bool) (i j : ℕ) → (all j (held_from left i) ≡ true) ↔ ((k : ℕ) → i ≤ k → k < j → left k ≡ true)
held_from_iff left i j = (
  λ e k g h. (at k).0 ((all_iff j (held_from left i)).0 e k h) g,
  λ f. (all_iff j (held_from left i)).1 (λ k h. (at k).1 (λ g. f k g h)),
)
  where
    at : (k : ℕ) → (held_from left i k ≡ true) ↔ (i ≤ k → left k ≡ true)
    at k = unless_iff (ltb k i) (left k) (ltb-false k i, le-ltb k i)

module _ (low high : ℕ) (time : ℕ → ℕ) (left right : ℕ → Bool) (i : ℕ) where
  -- j meets the condition of since at i
  abbrev pub SinceBy : ℕ → Type 0
  SinceBy j = Within low high (time j) (time i) × (right j ≡ true) × ((k : ℕ) → j < k → k ≤ i → left k ≡ true)

  -- j meets the condition of until at i
  abbrev pub UntilBy : ℕ → Type 0
  UntilBy j = (i ≤ j) × Within low high (time i) (time j) × (right j ≡ true) × ((k : ℕ) → i ≤ k → k < j → left k ≡ true)

  pub since_by_iff : (j : ℕ) → (since_by low high time left right i j ≡ true) ↔ SinceBy j
  since_by_iff j =
      let outer = and_iff (within low high (time j) (time i)) (right j && all (suc i) (held_after left j)) in
      let inner = and_iff (right j) (all (suc i) (held_after left j)) in
      let gap = within_iff low high (time j) (time i) in
      let held = held_after_iff left j i in (
        λ e. (gap.0 (outer.0 e).0, (inner.0 (outer.0 e).1).0, held.0 (inner.0 (outer.0 e).1).1),
        λ s. outer.1 (gap.1 s.0, inner.1 (s.1, held.1 s.2)),
      )

  pub until_by_iff : (j : ℕ) → (until_by low high time left right i j ≡ true) ↔ UntilBy j
  until_by_iff j =
      let behind = and_iff (leb i j) (within low high (time i) (time j) && (right j && all j (held_from left i))) in
      let outer = and_iff (within low high (time i) (time j)) (right j && all j (held_from left i)) in
      let inner = and_iff (right j) (all j (held_from left i)) in
      let gap = within_iff low high (time i) (time j) in
      let held = held_from_iff left i j in (
        λ e.
            let o = outer.0 (behind.0 e).1 in
            let n = inner.0 o.1 in
            (leb-true i j (behind.0 e).0, gap.0 o.0, n.0, held.0 n.1),
        λ u. behind.1 (le-leb i j u.0, outer.1 (gap.1 u.1, inner.1 (u.2, held.1 u.3))),
      )

  -- since at i: some j ≤ i meets its condition
  pub since_at_iff : (since_at low high time left right i ≡ true) ↔ ((j : ℕ) × (j ≤ i) × SinceBy j)
  since_at_iff =
      let some = any_iff (suc i) (since_by low high time left right i) in (
        λ e. let (j, h, v) = some.0 e in (j, omega arith, (since_by_iff j).0 v),
        λ w. let (j, h, s) = w in some.1 (j, omega arith, (since_by_iff j).1 s),
      )

  -- until at i: some j below n meets its condition (n is the log's size in the plain reading, m in settled-yes)
  pub until_at_iff : (n : ℕ) → (until_at low high time left right n i ≡ true) ↔ ((j : ℕ) × (j < n) × UntilBy j)
  until_at_iff n =
      let some = any_iff n (until_by low high time left right i) in (
        λ e. let (j, h, v) = some.0 e in (j, h, (until_by_iff j).0 v),
        λ w. let (j, h, u) = w in some.1 (j, h, (until_by_iff j).1 u),
      )

any_from_iff : (i n : ℕ) (p : ℕ → Bool) → (any n (λ k. leb i k && p k) ≡ true) ↔ ((k : ℕ) × (i ≤ k) × (k < n) × (p k ≡ true))
any_from_iff i n p = (
  λ e. let (k, h, v) = (any_iff n (λ k. leb i k && p k)).0 e in let b = (and_iff (leb i k) (p k)).0 v in (k, leb-true i k b.0, h, b.1),
  λ w. let (k, g, h, v) = w in (any_iff n (λ k. leb i k && p k)).1 (k, h, (and_iff (leb i k) (p k)).1 (le-leb i k g, v)),
)

pub fails_from_iff : (left : ℕ → Bool) (i m : ℕ) →
    (any m (fails_from left i) ≡ true) ↔ ((k : ℕ) × (i ≤ k) × (k < m) × (left k ≡ false))
fails_from_iff left i m =
    let some = any_from_iff i m (λ k. negate (left k)) in (
      λ e. let (k, g, h, v) = some.0 e in (k, g, h, not-true (left k) v),
      λ w. let (k, g, h, v) = w in some.1 (k, g, h, ap negate v),
    )

pub over_iff : (high : ℕ) (time : ℕ → ℕ) (i n : ℕ) →
    (any n (over high time i) ≡ true) ↔ ((q : ℕ) × (i ≤ q) × (q < n) × Above high (time q - time i))
over_iff high time i n =
    let some = any_from_iff i n (λ q. negate (at_most high (time q - time i))) in (
      λ e. let (q, g, h, v) = some.0 e in (q, g, h, (above_iff high (time q - time i)).0 v),
      λ w. let (q, g, h, v) = w in some.1 (q, g, h, (above_iff high (time q - time i)).1 v),
    )
