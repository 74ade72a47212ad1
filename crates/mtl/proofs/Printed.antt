-- On finite logs the reading that computes (sat) and the reading that documents 000 and 002 print (HoldsIn) agree.
use Prim.Native.Nat.{ℕ, ◌+◌, ◌-◌, ◌≤◌, ◌<◌}
use mathlib.Core.Bool.{Bool, true, ◌&&◌, ◌||◌}
use mathlib.Core.Logic.Iff
use mathlib.Core.Logic.{◌⊎◌, ⊎_map, ◌↔◌}
use mathlib.Core.Path.{◌≡◌, refl}
use native.Mathlib.Omega.{arith}
use lib.Dec.{ltb}
use borrow.Author.Tests.{ltb-true, lt-ltb}
use Rattle.mtl.specs.Formula.{Formula}
use Rattle.mtl.specs.Formula.Formula.{letter, not, or, previous, next, since, until}
use Rattle.mtl.specs.Log.{Log}
use Rattle.mtl.specs.Satisfaction.{within, previous_at, next_at, since_at, until_at, sat}
use Rattle.mtl.specs.Reading.{Within, Holds, HoldsIn}
use Rattle.mtl.proofs.Bounded.{and_iff, or_iff, not_iff, within_iff, since_at_iff, until_at_iff, UntilBy}

-- Operator by operator: a test over Bool operands decides the printed condition over statements, where the operands'
-- tests decide their statements and the times are the same, at the positions that the operator looks at.

pub or_agrees : {A B : Type 0} (a b : Bool) → (a ≡ true) ↔ A → (b ≡ true) ↔ B → (a || b ≡ true) ↔ (A ⊎ B)
unfolding ⊎_map
or_agrees a b p q = Iff.trans (or_iff a b) (⊎_map p.0 q.0, ⊎_map p.1 q.1)

module _ (low high : ℕ) (time time' : ℕ → ℕ) where
  pub within_agrees : (i j : ℕ) → time i ≡ time' i → time j ≡ time' j →
      (within low high (time i) (time j) ≡ true) ↔ Within low high (time' i) (time' j)
  within_agrees i j p q = rw (p, q) (within_iff low high (time' i) (time' j))

  pub previous_agrees : (operand : ℕ → Bool) (Operand : ℕ → Type 0) (i : ℕ) →
      ((k : ℕ) → k ≤ i → time k ≡ time' k) → (0 < i → (operand (i - 1) ≡ true) ↔ Operand (i - 1)) →
      (previous_at low high time operand i ≡ true) ↔ ((0 < i) × Within low high (time' (i - 1)) (time' i) × Operand (i - 1))
  previous_agrees operand Operand i times operands =
      let outer = and_iff (ltb 0 i) (within low high (time (i - 1)) (time i) && operand (i - 1)) in
      let inner = and_iff (within low high (time (i - 1)) (time i)) (operand (i - 1)) in
      let gap = within_agrees (i - 1) i (times (i - 1) (omega arith)) (times i (omega arith)) in (
        λ e.
            let o = outer.0 e in
            let h = ltb-true 0 i o.0 in
            let n = inner.0 o.1 in
            (h, gap.0 n.0, (operands h).0 n.1),
        λ w. outer.1 (lt-ltb 0 i w.0, inner.1 (gap.1 w.1, (operands w.0).1 w.2)),
      )

  pub next_agrees : (operand : ℕ → Bool) (Operand Position : ℕ → Type 0) (size i : ℕ) →
      ((k : ℕ) → k < size → time k ≡ time' k) → (i + 1 < size → (operand (i + 1) ≡ true) ↔ Operand (i + 1)) →
      (i + 1 < size) ↔ Position (i + 1) →
      (next_at low high time operand size i ≡ true) ↔ (Position (i + 1) × Within low high (time' i) (time' (i + 1)) × Operand (i + 1))
  next_agrees operand Operand Position size i times operands position =
      let outer = and_iff (ltb (i + 1) size) (within low high (time i) (time (i + 1)) && operand (i + 1)) in
      let inner = and_iff (within low high (time i) (time (i + 1))) (operand (i + 1)) in (
        λ e.
            let o = outer.0 e in
            let h = ltb-true (i + 1) size o.0 in
            let n = inner.0 o.1 in
            (position.0 h, (gap h).0 n.0, (operands h).0 n.1),
        λ w.
            let h = position.1 w.0 in
            outer.1 (lt-ltb (i + 1) size h, inner.1 ((gap h).1 w.1, (operands h).1 w.2)),
      )
    where
      gap : i + 1 < size → (within low high (time i) (time (i + 1)) ≡ true) ↔ Within low high (time' i) (time' (i + 1))
      gap h = within_agrees i (i + 1) (times i (omega arith)) (times (i + 1) h)

  pub since_agrees : (left right : ℕ → Bool) (Left Right : ℕ → Type 0) (i : ℕ) →
      ((k : ℕ) → k ≤ i → time k ≡ time' k) →
      ((k : ℕ) → k ≤ i → (left k ≡ true) ↔ Left k) → ((k : ℕ) → k ≤ i → (right k ≡ true) ↔ Right k) →
      (since_at low high time left right i ≡ true) ↔
      ((j : ℕ) × (j ≤ i) × Within low high (time' j) (time' i) × Right j × ((k : ℕ) → j < k → k ≤ i → Left k))
  since_agrees left right Left Right i times lefts rights =
      Iff.trans
      (since_at_iff low high time left right i) (
        λ w.
            let (j, h, (g, r, l)) = w in
            (j, h, rw (times j h, times i (omega arith)) at g, (rights j h).0 r, λ k a b. (lefts k b).0 (l k a b)),
        λ w.
            let (j, h, g, r, l) = w in
            (j, h, (rw (times j h, times i (omega arith)) g, (rights j h).1 r, λ k a b. (lefts k b).1 (l k a b))),
      )

  -- one j meets the condition of until at i
  pub until_by_agrees : (left right : ℕ → Bool) (Left Right : ℕ → Type 0) (i j : ℕ) →
      ((k : ℕ) → k ≤ j → time k ≡ time' k) →
      ((k : ℕ) → k ≤ j → (left k ≡ true) ↔ Left k) → ((k : ℕ) → k ≤ j → (right k ≡ true) ↔ Right k) →
      UntilBy low high time left right i j ↔
      ((i ≤ j) × Within low high (time' i) (time' j) × Right j × ((k : ℕ) → i ≤ k → k < j → Left k))
  until_by_agrees left right Left Right i j times lefts rights = (
    λ u.
        let (h, g, r, l) = u in
        (h, rw (times i h, times j (omega arith)) at g, (rights j (omega arith)).0 r, λ k a b. (lefts k (omega arith)).0 (l k a b)),
    λ w.
        let (h, g, r, l) = w in
        (h, rw (times i h, times j (omega arith)) g, (rights j (omega arith)).1 r, λ k a b. (lefts k (omega arith)).1 (l k a b)),
  )

-- until on the whole log
pub until_agrees : (low high : ℕ) (time : ℕ → ℕ) (left right : ℕ → Bool) (Left Right : ℕ → Type 0) (size i : ℕ) →
    ((k : ℕ) → (left k ≡ true) ↔ Left k) → ((k : ℕ) → (right k ≡ true) ↔ Right k) →
    (until_at low high time left right size i ≡ true) ↔
    ((j : ℕ) × (i ≤ j) × (j < size) × Within low high (time i) (time j) × Right j × ((k : ℕ) → i ≤ k → k < j → Left k))
until_agrees low high time left right Left Right size i lefts rights =
    Iff.trans
    (until_at_iff low high time left right i size) (
      λ w. let (j, h, u) = w in let (g, p, r, l) = (by j).0 u in (j, g, h, p, r, l),
      λ w. let (j, g, h, p, r, l) = w in (j, h, (by j).1 (g, p, r, l)),
    )
  where
    by : (j : ℕ) → UntilBy low high time left right i j ↔
        ((i ≤ j) × Within low high (time i) (time j) × Right j × ((k : ℕ) → i ≤ k → k < j → Left k))
    by j = until_by_agrees low high time time left right Left Right i j (λ k h. refl) (λ k h. lefts k) (λ k h. rights k)

-- THEOREM. "The plain reading. From source document 002, figure 1 (the same in 000, section 3), cut to a finite log":
-- the test computes that reading, at every position.

pub sat_iff : (φ : Formula) (L : Log) (i : ℕ) → (sat φ L i ≡ true) ↔ HoldsIn L φ i
unfolding sat Holds
sat_iff (letter k) L i = Iff.rfl
sat_iff (not φ) L i = Iff.trans (not_iff (sat φ L i)) (Iff.not (sat_iff φ L i))
sat_iff (or φ ψ) L i = or_agrees (sat φ L i) (sat ψ L i) (sat_iff φ L i) (sat_iff ψ L i)
sat_iff (previous low high φ) L i =
    previous_agrees low high L.time L.time (sat φ L) (HoldsIn L φ) i (λ k h. refl) (λ h. sat_iff φ L (i - 1))
sat_iff (next low high φ) L i =
    next_agrees low high L.time L.time (sat φ L) (HoldsIn L φ) (λ j. j < L.size) L.size i
    (λ k h. refl) (λ h. sat_iff φ L (i + 1)) Iff.rfl
sat_iff (since low high φ ψ) L i =
    since_agrees low high L.time L.time (sat φ L) (sat ψ L) (HoldsIn L φ) (HoldsIn L ψ) i
    (λ k h. refl) (λ k h. sat_iff φ L k) (λ k h. sat_iff ψ L k)
sat_iff (until low high φ ψ) L i =
    until_agrees low high L.time (sat φ L) (sat ψ L) (HoldsIn L φ) (HoldsIn L ψ) L.size i (sat_iff φ L) (sat_iff ψ L)
