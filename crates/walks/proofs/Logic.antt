-- until's two heads, over numbers: what the record `Until` settles, and how it goes on from there.
use Prim.Native.Nat.{ℕ, ◌+◌, ◌-◌, ◌≤◌, ◌<◌}
use mathlib.Core.Bool.{Bool, true, false, ◌||◌, true≢false}
use mathlib.Core.Logic.{◌⊎◌, inl, inr, ⊎_elim}
use mathlib.Core.Path.{◌≡◌, refl, sym, ◌∙◌, ap}
use native.Mathlib.Omega.{arith}
use lib.Dec.{eqb}
use Rattle.mtl.proofs.Bounded.{true_and_false, le_or_lt, Above}
use Rattle.mtl.proofs.Until.{SettledYes, SettledNo, Ended}
use Rattle.blocks.specs.Block.{Until}

-- neither of two tests holds
pub neither : (x y : Bool) → x || y ≡ false → (x ≡ false) × (y ≡ false)
neither true y e = absurd (true≢false e)
neither false y e = (refl, e)

-- nothing taken so far settles g, nor does the time of position p
pub record Waits (low high : ℕ) (time : ℕ → ℕ) (left right : ℕ → Bool) (size g p : ℕ) : Type 0 where
  pub ahead : g ≤ p
  pub held : (k : ℕ) → g ≤ k → k < p → left k ≡ true
  pub early : (k : ℕ) → g ≤ k → k < p → right k ≡ true → time k - time g < low
  pub near : (q : ℕ) → g ≤ q → q ≤ p → q < size → time q - time g ≤ high

-- m is the smaller of the operands' numbers, size the log's
module _ {low high : ℕ} {time : ℕ → ℕ} {left right : ℕ → Bool} {size m : ℕ} (fits : m ≤ size)
    (falls : (i j : ℕ) → i ≤ j → j < size → time i ≤ time j) {g p : ℕ} (behind : p ≤ m) where
  -- with no position taken from g on
  pub waits_fresh : p ≡ g → Waits low high time left right size g p
  waits_fresh e =
      record {
        ahead = omega arith;
        held = λ k a b. absurd (omega arith);
        early = λ k a b r. absurd (omega arith);
        near = λ q a b c. let s : q ≡ g = omega arith in let t = ap time s in omega arith;
      }

  -- while g waits, position p can be taken ..
  pub taken_next : Waits low high time left right size g p → p < m → {ll lr lt : ℕ} → left p ≡ eqb ll 1 → right p ≡ eqb lr 1 → lt ≡ time p →
      Until low high time left right g (p + 1) ll lr lt
  taken_next w h l r t =
      let e : p + 1 - 1 ≡ p = omega arith in
      let n = w.near p w.ahead (omega arith) (omega arith) in
      let a = w.ahead in
      record {
        ahead = omega arith;
        last_left = λ _. ap left e ∙ l;
        last_right = λ _. ap right e ∙ r;
        last_time = λ _. t ∙ sym (ap time e);
        left_held = λ k b c. w.held k b (omega arith);
        right_early = λ k b c. w.early k b (omega arith);
        not_over = λ _. let f = ap time e in omega arith;
      }

  -- .. and where there is none to take, g is not settled
  pub stuck : Waits low high time left right size g p → m ≡ p → SettledYes low high time left right size m g ⊎ SettledNo low high time left right size m g → ⊥
  stuck w e (inl (j, b, (a, v, r, l))) = let n = w.early j a (omega arith) r in let far = v.0 in omega arith
  stuck w e (inr (n, inl (k, a, b, f))) = true_and_false (w.held k a (omega arith)) f
  stuck w e (inr (n, inr (q, a, b, c, (late, ends)))) = let k = w.near q a (omega arith) c in omega arith

  module _ {ll lr lt : ℕ} (u : Until low high time left right g p ll lr lt) (some : g < p) where
    -- a later position to answer
    pub answered_later : (i : ℕ) → g ≤ i → i ≤ p → Until low high time left right i p ll lr lt
    answered_later i from to =
        record {
          ahead = to;
          last_left = λ h. u.last_left some;
          last_right = λ h. u.last_right some;
          last_time = λ h. u.last_time some;
          left_held = λ k a b. u.left_held k (omega arith) b;
          right_early = λ k a b r. let f = falls g i from (omega arith) in let n = u.right_early k (omega arith) b r in omega arith;
          not_over = λ h. let f = falls g i from (omega arith) in let n = u.not_over some in omega arith;
        }

    -- right held at the last position taken, at least low after g
    pub met : eqb lr 1 ≡ true → low ≤ lt - time g → SettledYes low high time left right size m g
    met r h =
        let t = u.last_time some in
        let n = u.not_over some in
        (p - 1, omega arith, (omega arith, (omega arith, inl n), u.last_right some ∙ r, λ k a b. u.left_held k a (omega arith)))

    module _ (unmet : eqb lr 1 ≡ true → lt - time g < low) where
      early : (k : ℕ) → g ≤ k → k < p → right k ≡ true → time k - time g < low
      early k a b r =
          ⊎_elim
          (λ c. u.right_early k a (omega arith) r)
          (λ c.
          let e : p - 1 ≡ k = omega arith in
          let s = ap time e in
          let t = u.last_time some in
          let n = unmet (sym (u.last_right some) ∙ (ap right e ∙ r)) in
          omega arith)
          (le_or_lt (k + 2) p)

      -- left failed there, or position p lies more than high after g
      pub over : (eqb ll 1 ≡ false) ⊎ ((p < size) × Above high (time p - time g)) → SettledNo low high time left right size m g
      over d = (none d, ended d)
        where
          ended : (eqb ll 1 ≡ false) ⊎ ((p < size) × Above high (time p - time g)) → Ended low high time left right size m g
          ended (inl f) = inl (p - 1, omega arith, omega arith, u.last_left some ∙ f)
          ended (inr (h, v)) = inr (p, omega arith, behind, h, v)

          none : (eqb ll 1 ≡ false) ⊎ ((p < size) × Above high (time p - time g)) → SettledYes low high time left right size m g → ⊥
          none d (j, b, (a, v, r, l)) =
              ⊎_elim
              (λ c.
              ⊎_elim
              (λ f. true_and_false (l (p - 1) (omega arith) (omega arith)) (u.last_left some ∙ f))
              (λ o. let f = falls p j c (omega arith) in let h = o.1.0 in ⊎_elim (λ near. omega arith) o.1.1 v.1)
              d)
              (λ c. let n = early j a c r in let far = v.0 in omega arith)
              (le_or_lt p j)

      -- neither: g waits
      pub waits : eqb ll 1 ≡ true → (p < size → time p - time g ≤ high) → Waits low high time left right size g p
      waits l near =
          record {
            ahead = omega arith;
            held = λ k a b. ⊎_elim (λ c. u.left_held k a (omega arith)) (λ c. let e : k ≡ p - 1 = omega arith in ap left e ∙ (u.last_left some ∙ l)) (le_or_lt (k + 2) p);
            early = early;
            near = λ q a b c.
                ⊎_elim
                (λ h. let f = falls q (p - 1) (omega arith) (omega arith) in let n = u.not_over some in omega arith)
                (λ h. let f = falls q p b h in let n = near h in omega arith)
                (le_or_lt size p);
          }
