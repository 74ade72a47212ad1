-- Refusals 5 and 6, not met, say that each entry's fields are in their ranges.
use Prim.Native.Nat.{ℕ, zero, suc, ◌≤◌, ◌<◌}
use native.Mathlib.Nat.{eq-or-lt_of_le, le_of_suc-le-suc, not-suc-le-zero}
use native.Mathlib.Omega.{arith}
use borrow.Author.Tests.{ltb-false, lt-ltb, eqb-true, eqb-false}
use mathlib.Core.Path.{◌≡◌, refl, ap, ◌∙◌}
use mathlib.Core.Bool.{Bool, true, false, ◌&&◌, ◌||◌, not}
use mathlib.Core.Logic.{◌⊎◌, ⊎_elim, inl, inr}
use lib.Dec.{ltb, eqb}
use Rattle.mtl.specs.Satisfaction.{any}
use Rattle.rule.specs.declared.Entry.{Entry}
use Rattle.mtl.specs.Formula.{unbounded}
use Rattle.rule.specs.Refusal.{misshapen, misplaced}
use Rattle.rule.specs.Accepted.{FieldsInRange}
use Rattle.rule.proofs.Headers.{or_left, or_right}

-- nowhere below n
pub none_below : (n : ℕ) (p : ℕ → Bool) → any n p ≡ false → (k : ℕ) → k < n → p k ≡ false
unfolding any
none_below zero p e k h = absurd (not-suc-le-zero h)
none_below (suc n) p e k h =
    ⊎_elim (λ q. ap p q ∙ or_right (any n p) (p n) e) (none_below n p (or_left (any n p) (p n) e) k)
    (eq-or-lt_of_le (le_of_suc-le-suc h))

none_of_four : (a b c d : Bool) → a || b || c || d ≡ false → (a ≡ false) × (b ≡ false) × (c ≡ false) × (d ≡ false)
none_of_four a b c d e =
    let f = or_left (a || b || c) d e in
    let g = or_left (a || b) c f in
    (or_left a b g, or_right a b g, or_right (a || b) c f, or_right (a || b || c) d e)

and_right : (a b : Bool) → (a && b) ≡ false → a ≡ true → b ≡ false
and_right true b e h = e
and_right false b e h = cc

and_left : (a b : Bool) → (a && b) ≡ false → b ≡ true → a ≡ false
and_left true b e h = cc
and_left false b e h = refl

module _ (e : Entry) (s : misshapen e ≡ false) (p : misplaced e ≡ false) where
  shape : (ltb 6 e.kind ≡ false) × (ltb 31 e.letter ≡ false) × ((ltb 0 e.kind && ltb 0 e.letter) ≡ false)
      × ((ltb e.kind 3 && (ltb 0 e.low || ltb 0 e.high)) ≡ false)
  shape = none_of_four (ltb 6 e.kind) (ltb 31 e.letter) _ _ s

  place : (ltb 3600 e.low ≡ false) × (ltb e.high e.low ≡ false)
      × ((ltb 3600 e.high && not (eqb e.high unbounded)) ≡ false)
      × ((eqb e.high unbounded && eqb e.kind 6) ≡ false)
  place = none_of_four (ltb 3600 e.low) (ltb e.high e.low) _ _ p

  letter_free : 0 < e.kind → e.letter ≡ 0
  letter_free h =
      let z = ltb-false 0 e.letter (and_right (ltb 0 e.kind) (ltb 0 e.letter) shape.2 (lt-ltb 0 e.kind h)) in
      omega arith

  interval_free : e.kind < 3 → (e.low ≡ 0) × (e.high ≡ 0)
  interval_free h =
      let z = and_right (ltb e.kind 3) (ltb 0 e.low || ltb 0 e.high) shape.3 (lt-ltb e.kind 3 h) in
      let l = ltb-false 0 e.low (or_left (ltb 0 e.low) (ltb 0 e.high) z) in
      let m = ltb-false 0 e.high (or_right (ltb 0 e.low) (ltb 0 e.high) z) in
      (omega arith, omega arith)

  kind_is : e.kind ≤ 6
  kind_is = ltb-false 6 e.kind shape.0

  high_is : (e.high ≤ 3600) ⊎ ((e.high ≡ unbounded) × (3 ≤ e.kind) × (e.kind ≤ 5))
  high_is = go (eqb e.high unbounded) refl
    where
      go : (c : Bool) → eqb e.high unbounded ≡ c → (e.high ≤ 3600) ⊎ ((e.high ≡ unbounded) × (3 ≤ e.kind) × (e.kind ≤ 5))
      go true q =
          let u = eqb-true e.high unbounded q in
          let no_until = eqb-false e.kind 6 (and_right (eqb e.high unbounded) (eqb e.kind 6) place.3 q) in
          let timed : e.kind < 3 → ⊥ = λ h. let y = interval_free h in omega (arith, y.1) in
          inr (u, omega arith, omega (arith, kind_is))
      go false q =
          let n : not (eqb e.high unbounded) ≡ true = ap not q in
          inl (ltb-false 3600 e.high (and_left (ltb 3600 e.high) (not (eqb e.high unbounded)) place.2 n))

  pub in_range : FieldsInRange e
  in_range =
      record {
        kind = kind_is;
        letter = ltb-false 31 e.letter shape.1;
        low = ltb-false 3600 e.low place.0;
        order = ltb-false e.high e.low place.1;
        high = high_is;
        no_letter = letter_free;
        no_interval = interval_free;
      }
