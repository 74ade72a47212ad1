-- The first and the last position that a test finds.
use Prim.Native.Nat.{ℕ, zero, suc, ◌-◌, ◌≤◌, ◌<◌}
use mathlib.Core.Bool.{Bool, true, false, cond}
use mathlib.Core.Bool.{not as negate}
use mathlib.Core.Logic.{⊎_elim}
use mathlib.Core.Path.{◌≡◌, refl, sym, ◌∙◌, ap}
use native.Mathlib.Nat.{eq-or-lt_of_le}
use native.Mathlib.Omega.{arith}
use Rattle.mtl.proofs.Bounded.{true_and_false, false_iff, not_iff, run_is}
use Rattle.mtl.specs.Progress.{run}
use Rattle.reasons.specs.Search.{first_where, after_last, IsFirst, IsLast}

unnegate_true : (b : Bool) → negate b ≡ true → b ≡ false
unnegate_true b e = (false_iff b).1 ((not_iff b).0 e)

unnegate_false : (b : Bool) → negate b ≡ false → b ≡ true
unnegate_false true e = refl
unnegate_false false e = sym e

-- where p holds somewhere below n, `first_where` is the first such position
pub first_is : (n : ℕ) (p : ℕ → Bool) (q : ℕ) → q < n → p q ≡ true → IsFirst n p (first_where n p)
first_is n p q h e =
    let f : ℕ → Bool = λ (k : ℕ). negate (p k) in
    let r = run_is n f in
    let before : (k : ℕ) → k < run n f → p k ≡ false = λ k l. unnegate_true (p k) (r.holds k l) in
    let least : q < run n f → ⊥ = λ l. true_and_false e (before q l) in
    record {
      inside = omega arith;
      holds = ⊎_elim (λ (s : run n f ≡ n). absurd (least (omega arith))) (λ s. unnegate_false (p (run n f)) s) r.stops;
      none_before = before;
    }

-- the last position below n at which p holds, where `after_last` is more than 0
pub last_holds : (n : ℕ) (p : ℕ → Bool) → 0 < after_last n p → (after_last n p ≤ n) × (p (after_last n p - 1) ≡ true)
unfolding after_last
last_holds zero p h = absurd (omega arith)
last_holds (suc n) p h = by (p n) refl h (last_holds n p)
  where
    by : (b : Bool) → p n ≡ b → 0 < cond b (suc n) (after_last n p) →
        (0 < after_last n p → (after_last n p ≤ n) × (p (after_last n p - 1) ≡ true)) →
        (cond b (suc n) (after_last n p) ≤ suc n) × (p (cond b (suc n) (after_last n p) - 1) ≡ true)
    by true e g ih = let s : suc n - 1 ≡ n = omega arith in (omega arith, ap p s ∙ e)
    by false e g ih = let (a, b) = ih g in (omega arith, b)

pub none_after : (n : ℕ) (p : ℕ → Bool) (q : ℕ) → after_last n p ≤ q → q < n → p q ≡ false
unfolding after_last
none_after zero p q a h = absurd (omega arith)
none_after (suc n) p q a h = by (p n) refl a (none_after n p q)
  where
    by : (b : Bool) → p n ≡ b → cond b (suc n) (after_last n p) ≤ q → (after_last n p ≤ q → q < n → p q ≡ false) → p q ≡ false
    by true e g ih = absurd (omega arith)
    by false e g ih = ⊎_elim (λ (s : q ≡ n). ap p s ∙ e) (λ (l : q < n). ih g l) (eq-or-lt_of_le {n = q} {m = n} (omega arith))

-- where `after_last` is more than 0, the last such position is one less
pub last_is : (n : ℕ) (p : ℕ → Bool) → 0 < after_last n p → IsLast n p (after_last n p - 1)
last_is n p h =
    let (few, holds) = last_holds n p h in
    record { inside = omega arith; holds = holds; none_behind = λ q l m. none_after n p q (omega arith) m }
