-- Progress is document 01's answered number: exact for until, and an equation for every other operator.
use Prim.Native.Nat.{ℕ, suc, ◌-◌, ◌≤◌, ◌<◌, min}
use mathlib.Core.Bool.{Bool, true, false, ◌||◌}
use mathlib.Core.Logic.Iff
use mathlib.Core.Logic.{◌⊎◌, inl, inr, ⊎_elim, ◌↔◌}
use mathlib.Core.Path.{◌≡◌, refl, ◌∙◌}
use native.Mathlib.Omega.{arith}
use Rattle.mtl.specs.Formula.{Formula}
use Rattle.mtl.specs.Formula.Formula.{letter, not, or, previous, next, since, until}
use Rattle.mtl.specs.Log.{Log, NeverFalls}
use Rattle.mtl.specs.Satisfaction.{any, until_at, sat}
use Rattle.mtl.specs.Progress.{fails_from, over, settled_yes, settled_no, settled, until_progress, progress}
use Rattle.mtl.specs.Reading.{Within}
use Rattle.mtl.proofs.Bounded.{
  true_or_false,
  true_and_false,
  false_iff,
  same_test,
  and_iff,
  not_iff,
  le_or_lt,
  Above,
  at_most_or_above,
  UntilBy,
  until_at_iff,
  fails_from_iff,
  over_iff,
  Run,
  run_is,
  run_le,
  run_holds,
  run_iff,
}
use Rattle.mtl.proofs.Printed.{or_agrees, until_by_agrees}

-- no more positions are answered than the log has
pub progress_le_size : (φ : Formula) (L : Log) → progress φ L ≤ L.size
unfolding progress
progress_le_size (letter k) L = omega arith
progress_le_size (not φ) L = progress_le_size φ L
progress_le_size (or φ ψ) L = let p = progress_le_size φ L in omega arith
progress_le_size (previous low high φ) L = omega arith
progress_le_size (next low high φ) L = let p = progress_le_size φ L in omega arith
progress_le_size (since low high φ ψ) L = let p = progress_le_size φ L in omega arith
progress_le_size (until low high φ ψ) L =
    let p = progress_le_size φ L in
    let m = min (progress φ L) (progress ψ L) in
    let r = run_le m (settled low high L.time (sat φ L) (sat ψ L) L.size m) in
    omega arith

-- The settling of until as statements, over an operator's operands as specs/Progress has them.

module _ (low high : ℕ) (time : ℕ → ℕ) (left right : ℕ → Bool) (size m : ℕ) where
  -- "Position i < m is settled yes if the until's condition is met by some j < m."
  abbrev pub SettledYes : ℕ → Type 0
  SettledYes i = (j : ℕ) × (j < m) × UntilBy low high time left right i j

  -- "either left is answered no at some k with i ≤ k < m, or some position of the log from i up to and including m lies
  -- more than high after i"
  abbrev pub Ended : ℕ → Type 0
  Ended i =
      ((k : ℕ) × (i ≤ k) × (k < m) × (left k ≡ false)) ⊎
      ((q : ℕ) × (i ≤ q) × (q ≤ m) × (q < size) × Above high (time q - time i))

  -- "It is settled no if no such j exists and either .. or .."
  abbrev pub SettledNo : ℕ → Type 0
  SettledNo i = (SettledYes i → ⊥) × Ended i

  -- by the test of specs/Progress
  abbrev pub Settled : ℕ → Type 0
  Settled i = settled low high time left right size m i ≡ true

  pub settled_yes_iff : (i : ℕ) → (settled_yes low high time left right size m i ≡ true) ↔ SettledYes i
  settled_yes_iff i = until_at_iff low high time left right i m

  pub ended_iff : (i : ℕ) → (any m (fails_from left i) || any (min (suc m) size) (over high time i) ≡ true) ↔ Ended i
  ended_iff i =
      or_agrees (any m (fails_from left i)) (any (min (suc m) size) (over high time i)) (fails_from_iff left i m) (
        λ o. let (q, g, h, v) = (over_iff high time i (min (suc m) size)).0 o in (q, g, omega arith, omega arith, v),
        λ w. let (q, g, h, h', v) = w in (over_iff high time i (min (suc m) size)).1 (q, g, omega arith, v),
      )

  pub settled_no_iff : (i : ℕ) → (settled_no low high time left right size m i ≡ true) ↔ SettledNo i
  settled_no_iff i =
      let both = and_iff _ (any m (fails_from left i) || any (min (suc m) size) (over high time i)) in
      let unmet = not_iff (settled_yes low high time left right size m i) in (
        λ e. let b = both.0 e in (λ y. unmet.0 b.0 ((settled_yes_iff i).1 y), (ended_iff i).0 b.1),
        λ w. both.1 (unmet.1 (λ y. w.0 ((settled_yes_iff i).0 y)), (ended_iff i).1 w.1),
      )

  pub settled_iff : (i : ℕ) → Settled i ↔ (SettledYes i ⊎ SettledNo i)
  settled_iff i =
      or_agrees (settled_yes low high time left right size m i) (settled_no low high time left right size m i) (settled_yes_iff i) (settled_no_iff i)

  -- what has ended is settled, one way or the other
  pub ended_settled : (i : ℕ) → Ended i → Settled i
  ended_settled i d =
      (settled_iff i).1
      (⊎_elim
      (λ y. inl ((settled_yes_iff i).0 y))
      (λ n. inr (λ y. true_and_false ((settled_yes_iff i).1 y) n, d))
      (true_or_false (settled_yes low high time left right size m i)))

  module _ (fits : m ≤ size) where
    -- A settled verdict holds in every other reading that has the log's times, answers the operands alike below m, and
    -- whose times never fall: a j from m on would have left hold up to m, and lie no sooner than the position that is over.
    module _ (Position : ℕ → Type 0) (time' : ℕ → ℕ) (Left Right : ℕ → Type 0)
        (positions : (j : ℕ) → j < m → Position j)
        (times : (k : ℕ) → k < size → time k ≡ time' k)
        (lefts : (k : ℕ) → k < m → (left k ≡ true) ↔ Left k)
        (rights : (k : ℕ) → k < m → (right k ≡ true) ↔ Right k)
        (falls : (i j : ℕ) → i ≤ j → Position j → time' i ≤ time' j)
        (i : ℕ) (h : i < m) where
      -- until at i, as specs/Reading prints it
      abbrev UntilHolds : Type 0
      UntilHolds =
          (j : ℕ) × (i ≤ j) × Position j × Within low high (time' i) (time' j) × Right j × ((k : ℕ) → i ≤ k → k < j → Left k)

      met_iff : (j : ℕ) → j < m → UntilBy low high time left right i j ↔
          ((i ≤ j) × Within low high (time' i) (time' j) × Right j × ((k : ℕ) → i ≤ k → k < j → Left k))
      met_iff j b =
          until_by_agrees low high time time' left right Left Right i j
          (λ k g. times k (omega arith))
          (λ k g. lefts k (omega arith))
          (λ k g. rights k (omega arith))

      none_from_m : Ended i → (w : UntilHolds) → m ≤ w.0 → ⊥
      none_from_m (inl (k, a, b, f)) (j, g, p, v, r, l) from = true_and_false ((lefts k b).1 (l k a (omega arith))) f
      none_from_m (inr (q, a, b, c, (late, ends))) (j, g, p, v, r, l) from =
          let e = times q c in
          let e' = times i (omega arith) in
          let f = falls q j (omega arith) p in
          ⊎_elim (λ near. omega arith) ends v.1

      met_below_m : UntilHolds → SettledYes i ⊎ SettledNo i → SettledYes i
      met_below_m w (inl y) = y
      met_below_m w (inr (n, d)) =
          let (j, g, p, v, r, l) = w in
          ⊎_elim (λ from. absurd (none_from_m d w from)) (λ b. (j, b, (met_iff j b).1 (g, v, r, l))) (le_or_lt m j)

      pub settled_agrees : Settled i → (settled_yes low high time left right size m i ≡ true) ↔ UntilHolds
      settled_agrees s =
          Iff.trans
          (settled_yes_iff i) (
            λ y. let (j, b, u) = y in let (g, v, r, l) = (met_iff j b).0 u in (j, g, positions j b, v, r, l),
            λ w. met_below_m w ((settled_iff i).0 s),
          )

    module _ (falls : (i j : ℕ) → i ≤ j → j < size → time i ≤ time j) where
      -- the plain reading looks at every j of the log; of a settled position those below m decide
      pub settled_verdict : (i : ℕ) → i < m → Settled i → until_at low high time left right size i ≡ settled_yes low high time left right size m i
      settled_verdict i h s =
          let whole = until_at_iff low high time left right i size in
          let below =
          settled_agrees (λ j. j < size) time (λ k. left k ≡ true) (λ k. right k ≡ true)
          (λ j b. omega arith) (λ k b. refl) (λ k b. Iff.rfl) (λ k b. Iff.rfl) falls i h s in
          same_test (until_at low high time left right size i) (settled_yes low high time left right size m i) (
            λ e. let (j, b, (g, w, r, l)) = whole.0 e in below.1 (j, g, b, w, r, l),
            λ e. let (j, g, b, w, r, l) = below.0 e in whole.1 (j, b, (g, w, r, l)),
          )

      -- a later position of the log below m: i ≤ j
      module _ (i j : ℕ) (g : i ≤ j) (h : j < m) where
        ended_before : Ended j → Ended i
        ended_before (inl (k, a, b, f)) = inl (k, omega arith, b, f)
        ended_before (inr (q, a, b, c, (late, ends))) = let f = falls i j g (omega arith) in inr (q, omega arith, b, c, (omega arith, ends))

        -- while i has not ended, what meets the condition for j meets it for i
        met_before : (Ended i → ⊥) → SettledYes j → SettledYes i
        met_before n (t, b, (a, w, r, l)) =
            let late : Above high (time t - time i) → ⊥ = λ v. n (inr (t, omega arith, omega arith, omega arith, v)) in
            let near = ⊎_elim (λ v. v) (λ v. absurd (late v)) (at_most_or_above high (time t - time i)) in
            let f = falls i j g (omega arith) in
            let far = w.0 in
            (t, b, (omega arith, (omega arith, near), r, λ k c d. held k c (omega arith)))
          where
            held : (k : ℕ) → i ≤ k → k < m → left k ≡ true
            held k c d = ⊎_elim (λ v. v) (λ v. absurd (n (inl (k, c, d, v)))) (true_or_false (left k))

        -- an open position has no settled one behind it below m
        pub settled_before : Settled j → Settled i
        settled_before s =
            ⊎_elim
            (λ d. ended_settled i ((ended_iff i).0 d))
            (λ d.
            ⊎_elim
            (λ y. (settled_iff i).1 (inl (met_before (λ e. true_and_false ((ended_iff i).1 e) d) y)))
            (λ n. ended_settled i (ended_before n.1))
            ((settled_iff j).0 s))
            (true_or_false (any m (fails_from left i) || any (min (suc m) size) (over high time i)))

      -- so the answered run holds every settled position below m
      pub settled_in_run : (i : ℕ) → i < m → (i < until_progress low high time left right size m) ↔ Settled i
      settled_in_run i h = (
        λ l. run_holds m (settled low high time left right size m) i l,
        λ s. (run_iff m (settled low high time left right size m) i h).1 (λ k l. settled_before k i l h s),
      )

-- The same of a formula on a log.

-- "m is the smaller of the operands' numbers."
abbrev pub answered_operands : (φ ψ : Formula) (L : Log) → ℕ
answered_operands φ ψ L = min (progress φ L) (progress ψ L)

pub answered_fits : (φ ψ : Formula) (L : Log) → answered_operands φ ψ L ≤ L.size
answered_fits φ ψ L = let p = progress_le_size φ L in omega arith

module _ (low high : ℕ) (φ ψ : Formula) (L : Log) where
  abbrev pub until_settled : ℕ → Bool
  until_settled = settled low high L.time (sat φ L) (sat ψ L) L.size (answered_operands φ ψ L)

  abbrev pub UntilSettledYes : ℕ → Type 0
  UntilSettledYes = SettledYes low high L.time (sat φ L) (sat ψ L) L.size (answered_operands φ ψ L)

  abbrev pub UntilSettledNo : ℕ → Type 0
  UntilSettledNo = SettledNo low high L.time (sat φ L) (sat ψ L) L.size (answered_operands φ ψ L)

  pub until_yes_iff : (i : ℕ) →
      (settled_yes low high L.time (sat φ L) (sat ψ L) L.size (answered_operands φ ψ L) i ≡ true) ↔ UntilSettledYes i
  until_yes_iff = settled_yes_iff low high L.time (sat φ L) (sat ψ L) L.size (answered_operands φ ψ L)

  pub until_settled_iff : (i : ℕ) → (until_settled i ≡ true) ↔ (UntilSettledYes i ⊎ UntilSettledNo i)
  until_settled_iff = settled_iff low high L.time (sat φ L) (sat ψ L) L.size (answered_operands φ ψ L)

  -- THEOREM, on all logs. "The answered run is the longest from 0 in which all are settled."
  pub until_longest : Run (answered_operands φ ψ L) until_settled (progress (until low high φ ψ) L)
  unfolding progress
  until_longest = run_is (answered_operands φ ψ L) until_settled

  module _ (falls : NeverFalls L) (i : ℕ) where
    -- THEOREM, on logs whose times never fall. No position behind an open one is settled, so that the answered positions are
    -- just the settled ones: "Position i < m is settled yes if the until's condition is met by some j < m. It is settled no
    -- if no such j exists and either left is answered no at some k with i ≤ k < m, or some position of the log from i up to
    -- and including m lies more than high after i."
    pub until_answered : (i < progress (until low high φ ψ) L) ↔ ((i < answered_operands φ ψ L) × (UntilSettledYes i ⊎ UntilSettledNo i))
    unfolding progress
    until_answered =
        let m = answered_operands φ ψ L in
        let b = run_le m until_settled in (
          λ l. (omega arith, (until_settled_iff i).0 (run_holds m until_settled i l)),
          λ w. (settled_in_run low high L.time (sat φ L) (sat ψ L) L.size m (answered_fits φ ψ L) falls i w.0).1 ((until_settled_iff i).1 w.1),
        )

    -- An answered position's plain reading on the whole log is decided by the j below m ..
    pub until_verdict : i < progress (until low high φ ψ) L →
        sat (until low high φ ψ) L i ≡ settled_yes low high L.time (sat φ L) (sat ψ L) L.size (answered_operands φ ψ L) i
    unfolding sat
    until_verdict l =
        let (h, s) = until_answered.0 l in
        settled_verdict low high L.time (sat φ L) (sat ψ L) L.size (answered_operands φ ψ L) (answered_fits φ ψ L) falls i h ((until_settled_iff i).1 s)

    -- THEOREMS, on logs whose times never fall: .. so that it holds where the position is settled yes, and not where it is settled no.
    pub until_yes : i < answered_operands φ ψ L → UntilSettledYes i → sat (until low high φ ψ) L i ≡ true
    until_yes h y = until_verdict (until_answered.1 (h, inl y)) ∙ (until_yes_iff i).1 y

    pub until_no : i < answered_operands φ ψ L → UntilSettledNo i → sat (until low high φ ψ) L i ≡ false
    until_no h n = until_verdict (until_answered.1 (h, inr n)) ∙ (false_iff _).1 (λ y. n.0 ((until_yes_iff i).0 y))

-- THEOREMS, on all logs: the other operators' numbers.

module _ (L : Log) where
  -- "Letter: all N."
  pub progress_letter : (k : ℕ) → progress (letter k) L ≡ L.size
  unfolding progress
  progress_letter k = refl

  -- "Not .. : as many as the operand."
  pub progress_not : (φ : Formula) → progress (not φ) L ≡ progress φ L
  unfolding progress
  progress_not φ = refl

  -- "Previous now answers one position more than its operand, never more than N."
  pub progress_previous : (low high : ℕ) (φ : Formula) → progress (previous low high φ) L ≡ min L.size (suc (progress φ L))
  unfolding progress
  progress_previous low high φ = refl

  -- "Or and since: the smaller of the two operands' numbers."
  pub progress_or : (φ ψ : Formula) → progress (or φ ψ) L ≡ min (progress φ L) (progress ψ L)
  unfolding progress
  progress_or φ ψ = refl

  pub progress_since : (low high : ℕ) (φ ψ : Formula) → progress (since low high φ ψ) L ≡ min (progress φ L) (progress ψ L)
  unfolding progress
  progress_since low high φ ψ = refl

  -- "Next: one fewer than the operand, never below 0."
  pub progress_next : (low high : ℕ) (φ : Formula) → progress (next low high φ) L ≡ progress φ L - 1
  unfolding progress
  progress_next low high φ = refl
