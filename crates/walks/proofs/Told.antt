-- until where the last position taken settles all that wait.
use Prim.Native.Nat.{ℕ, ◌+◌, ◌-◌, ◌≤◌, ◌<◌, ◌^◌, min}
use native.Mathlib.Omega.{arith}
use mathlib.Core.Bool.{Bool, true, false, cond, ◌&&◌, ◌||◌, true≢false}
use mathlib.Core.Bool.{not as negate}
use mathlib.Core.Logic.{◌⊎◌, inl, inr, ⊎_elim}
use mathlib.Core.Path.{◌≡◌, refl, sym, ◌∙◌, ap}
use lib.Dec.{eqb, leb, ltb}
use lib.Pow.{pow_pos}
use borrow.Author.Tests.{leb-true, le-leb, lt-leb, ltb-true, lt-ltb, eqb-true, eq-eqb}
use Rattle.mtl.proofs.Bounded.{and_iff, or_iff, le_or_lt}
use Rattle.mtl.proofs.Closing.{both_settled, both_fit}
use Rattle.bits.specs.Packed.{bit}
use Rattle.bits.proofs.Filling.{no_bit, ones_bit}
use Rattle.walks.specs.Settle.{is_met, is_over, settle_spec, is_told, Met, Walk}
use Rattle.walks.specs.declared.Last.{Last}
use Rattle.std.specs.Prelude.{None, Some}
use Rattle.walks.proofs.Logic as logic
use Rattle.walks.proofs.Single.{finds, sees_log}
use Rattle.walks.proofs.Log.{on_log, waiting_rise, untaken}

-- the tests of `is_told`
module _ (low lead : ℕ) (last : Last) where
  pub record Tells : Type 0 where
    pub some : 0 < lead
    pub small : low < 2 ^ 32
    pub settles : negate last.left || (last.right && eqb low 0) ≡ true

  pub tells : is_told low lead last ≡ true → Tells
  tells e =
      let (ab, c) = (and_iff (ltb 0 lead && leb low 4294967295) (negate last.left || (last.right && eqb low 0))).0 e in
      let (a, b) = (and_iff (ltb 0 lead) (leb low 4294967295)).0 ab in
      record { some = ltb-true 0 lead a; small = omega (arith, leb-true low 4294967295 b); settles = c }

  pub quiet_last : is_told low lead last ≡ false → 0 < lead → low ≡ 0 → (last.left ≡ true) × (last.right ≡ false)
  quiet_last e some none =
      by last.left last.right refl refl
      (rw (lt-ltb 0 lead some, le-leb low 4294967295 (omega arith), eq-eqb low 0 none) at e)
    where
      by : (l r : Bool) → last.left ≡ l → last.right ≡ r → negate l || (r && true) ≡ false → (last.left ≡ true) × (last.right ≡ false)
      by true true x y e = absurd (true≢false e)
      by true false x y e = (x, y)
      by false r x y e = absurd (true≢false e)

-- nothing more is needed to know a position that waits
known : {low lead : ℕ} {last : Last} → Tells low lead last → (most start next : ℕ) → settle_spec low most start last next ≡ Some (is_met low start last)
known {low} {last = last} t most start next =
    ap (λ (x : Bool). cond x (Some (is_met low start last)) None)
    ((or_iff (is_met low start last) (is_over most start last next)).1
    (⊎_elim
    (λ f. inr ((or_iff (negate last.left) (ltb most (next - start))).1 (inl f)))
    (λ m.
    let (r, z) = (and_iff last.right (eqb low 0)).0 m in
    inl ((and_iff last.right (leb low (last.time - start))).1 (r, le-leb low (last.time - start) (omega (arith, eqb-true low 0 z)))))
    ((or_iff (negate last.left) (last.right && eqb low 0)).0 t.settles)))

-- as the code finds it, the first `met` of `count` positions are yes
module _ (low : ℕ) (start : ℕ → ℕ) (last : Last) (count met : ℕ) where
  abbrev FoundBy : Bool → Type 0
  FoundBy r = ((low ≡ 0) × (met ≡ cond r count 0)) ⊎ ((0 < low) × Met low start (cond r last.time 0) count met)

  abbrev pub Found : Type 0
  Found = FoundBy last.right

  pub none_found : last.right ≡ false → met ≡ 0 → Found
  none_found r z =
      rw r
      (⊎_elim
      (λ none. inl (omega arith, z))
      (λ some. inr (some, record { most = omega arith; far = λ i h. absurd (omega arith); next = λ h. omega arith }))
      (le_or_lt low 0))

  pub found_by : last.right ≡ true → ((low ≡ 0) × (met ≡ count)) ⊎ ((0 < low) × Met low start last.time count met) → Found
  found_by r f = rw r f

  pub found_most : Found → met ≤ count
  found_most = by last.right
    where
      by : (r : Bool) → FoundBy r → met ≤ count
      by true (inl (z, e)) = omega arith
      by false (inl (z, e)) = omega arith
      by r (inr (some, m)) = m.most

  -- a word of them
  module _ (rises : (i j : ℕ) → i ≤ j → j < count → start i ≤ start j) (i : ℕ) (h : i < count) where
    ones : i < met → bit (2 ^ met - 1) i ≡ true
    ones l = ones_bit met i l

    zeros : met ≤ i → bit (2 ^ met - 1) i ≡ false
    zeros l = no_bit met (2 ^ met - 1) i (omega (arith, pow_pos met)) l

    found_bit : (r : Bool) → FoundBy r → bit (2 ^ met - 1) i ≡ r && leb low (last.time - start i)
    found_bit true (inl (z, e)) = ones (omega arith) ∙ sym (le-leb low (last.time - start i) (omega arith))
    found_bit false (inl (z, e)) = zeros (omega arith)
    found_bit true (inr (some, m)) =
        ⊎_elim
        (λ l. let f = rises met i l h in let n = m.next (omega arith) in zeros l ∙ sym (lt-leb low (last.time - start i) (omega arith)))
        (λ l. let f = m.far i l in ones l ∙ sym (le-leb low (last.time - start i) (omega arith)))
        (le_or_lt met i)
    found_bit false (inr (some, m)) = ⊎_elim zeros (λ l. let f = m.far i l in absurd (omega arith)) (le_or_lt met i)

-- the walk that the code makes of it
pub told_walk : {low high lead n left right met count : ℕ} {start next : ℕ → ℕ} {from : Last} → Tells low lead from → count ≡ min lead 64 →
    Found low start from count met → Walk low high start next lead n left right from (record { bits = 2 ^ met - 1; count = count; took = 0; last = from })
told_walk {low} {lead = lead} {n = n} {met = met} {count = count} {start = start} {next = next} {from = from} t e found =
    let some = t.some in
    record {
      limits = record { few = omega arith; most = omega arith; behind = omega arith; bound = λ h. h };
      waiting = λ z t. absurd (omega arith);
      walks = λ high φ ψ L g at clamp behind falls reads lefts rights begun.
          let log = on_log reads lefts rights in
          let operands : at + 0 ≤ both_settled φ ψ L = omega (arith, log.operands) in
          untaken falls (omega arith) begun count (omega arith) (omega arith) (omega arith)
          (λ i h.
          rw (found_bit low start from count met (λ i j a b. waiting_rise behind falls log i j a (omega arith) (omega arith)) i h from.right found)
          (finds low high _ clamp φ ψ L falls (sees_log start next lead n i 0 (omega arith) (omega arith) behind log.inside reads) operands from
          (logic.answered_later (both_fit φ ψ L) falls operands begun.heads (omega arith) (g + i) (omega arith) (omega arith))
          (Some (is_met low (start i) from))
          (rw (lt-leb (lead + 0) i (omega arith)) (known t _ (start i) (next 0)))));
    }
