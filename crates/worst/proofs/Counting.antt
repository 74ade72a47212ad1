-- Counting distinct values.
use Prim.Native.Nat.{ℕ, zero, suc, ◌+◌, ◌-◌, ◌≤◌, ◌<◌, min}
use mathlib.Core.Bool.{Bool, true, not}
use mathlib.Core.Logic.{⊎_elim, ◌↔◌}
use mathlib.Core.Path.{◌≡◌}
use native.Mathlib.Omega.{arith}
use lib.Dec.{eqb}
use borrow.Author.Tests.{eq-eqb, eqb-true}
use Rattle.mtl.specs.Satisfaction.{any}
use Rattle.mtl.proofs.Bounded.{true_or_false, false_iff, and_iff, not_iff, any_iff, le_or_lt}
use Rattle.bits.proofs.Laws.{number_lt}
use Rattle.worst.specs.Waiting.{count_where, same_value, new_value, distinct}

pub count_le : (n : ℕ) (p : ℕ → Bool) → count_where n p ≤ n
unfolding count_where
count_le zero p = omega arith
count_le (suc n) p = omega (arith, count_le n p, number_lt (p n))

module _ (p : ℕ → Bool) (value : ℕ → ℕ) where
  -- n has p, and a value that no number before it with p has
  abbrev New : ℕ → Type 0
  New n = (p n ≡ true) × ((j : ℕ) → j < n → p j ≡ true → value j ≡ value n → ⊥)

  same_iff : (i j : ℕ) → (same_value p value i j ≡ true) ↔ ((p j ≡ true) × (value j ≡ value i))
  same_iff i j =
      let both = and_iff (p j) (eqb (value j) (value i)) in (
        λ e. ((both.0 e).0, eqb-true (value j) (value i) (both.0 e).1),
        λ w. both.1 (w.0, eq-eqb (value j) (value i) w.1),
      )

  new_iff : (n : ℕ) → (new_value p value n ≡ true) ↔ New n
  new_iff n =
      let both = and_iff (p n) (not (any n (same_value p value n))) in
      let none = not_iff (any n (same_value p value n)) in
      let some = any_iff n (same_value p value n) in (
        λ e. ((both.0 e).0, λ j h q s. none.0 (both.0 e).1 (some.1 (j, h, (same_iff n j).1 (q, s)))),
        λ w. both.1 (w.0, none.1 (λ a. let (j, h, v) = some.0 a in let (q, s) = (same_iff n j).0 v in w.1 j h q s)),
      )

  -- values that never fall and lie from `from` up to, and without, `end`: there are no more distinct ones than these
  pub distinct_le : (from end n : ℕ) →
      ((i j : ℕ) → i ≤ j → j < n → value i ≤ value j) →
      ((i : ℕ) → i < n → p i ≡ true → (from ≤ value i) × (value i < end)) →
      distinct n p value ≤ end - from
  unfolding count_where
  distinct_le from end zero falls inside = omega arith
  distinct_le from end (suc n) falls inside =
      ⊎_elim
      (λ e.
      let new = (new_iff n).0 e in
      let here = inside n (omega arith) new.0 in
      let below =
      distinct_le from (value n) n
      (λ i j l h. falls i j l (omega arith))
      (λ i h q.
      let there = inside i (omega arith) q in
      let order = falls i n (omega arith) (omega arith) in
      let other = new.1 i h q in
      (omega arith, omega arith)) in
      rw e (omega arith))
      (λ e. let before = distinct_le from end n (λ i j l h. falls i j l (omega arith)) (λ i h q. inside i (omega arith) q) in rw e (omega arith))
      (true_or_false (new_value p value n))

  -- values that rise by one up to `top` and stay there, at all numbers below n
  pub distinct_rising : (top n : ℕ) → ((i : ℕ) → i < n → p i ≡ true) → ((i : ℕ) → i < n → value i ≡ min i top) →
      distinct n p value ≡ min n (top + 1)
  unfolding count_where
  distinct_rising top zero every rising = omega arith
  distinct_rising top (suc n) every rising =
      let before = distinct_rising top n (λ i h. every i (omega arith)) (λ i h. rising i (omega arith)) in
      let here = rising n (omega arith) in
      ⊎_elim
      (λ (h : n ≤ top).
      let e =
      (new_iff n).1 (every n (omega arith), λ j l q s. let there = rising j (omega arith) in omega arith) in
      rw e (omega arith))
      (λ (h : top < n).
      let e =
      (false_iff (new_value p value n)).1
      (λ e. let there = rising top (omega arith) in ((new_iff n).0 e).1 top h (every top (omega arith)) (omega arith)) in
      rw e (omega arith))
      (le_or_lt n top)
