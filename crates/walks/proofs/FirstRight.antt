-- until with low 0 by whole words: a position is settled by the first behind it at which right holds or left fails.
use Prim.Native.Nat.{ℕ, zero, suc, ◌+◌, ◌-◌, ◌≤◌, ◌<◌}
use native.Mathlib.Nat.{eq-or-lt_of_le}
use native.Mathlib.Omega.{arith}
use mathlib.Core.Bool.{Bool, true, false, ◌&&◌, ◌||◌, true≢false}
use mathlib.Core.Logic.{⊎_elim}
use mathlib.Core.Path.{◌≡◌, refl, sym, ◌∙◌, ap}
use Rattle.mtl.proofs.Bounded.{true_and_false}
use Rattle.bits.specs.Packed.{bit, FilledDown, Prolonged}
use Rattle.walks.proofs.Words.{Known, Verdict, Unsettled, Settles}

module _ {left right n known : ℕ} (k : Known left right n known) (own : ℕ) (filled : FilledDown left right own) where
  -- the first event from i on, which is what the filled word has at i
  pub record Event (i e : ℕ) : Type 0 where
    pub from : i ≤ e
    pub below : e < known
    pub held : (j : ℕ) → i ≤ j → j < e → bit left j ≡ true
    pub early : (j : ℕ) → i ≤ j → j < e → bit right j ≡ false
    pub same : bit own i ≡ bit right e
    pub ends : bit right e ≡ false → bit left e ≡ false

  -- at i itself, or the first from the next on
  stop : (i : ℕ) → i < known → (r l : Bool) → bit right i ≡ r → bit left i ≡ l → r || (l && bit own (suc i)) ≡ r → (r ≡ false → l ≡ false) → Event i i
  stop i below r l er el same ends =
      let m = k.most in
      let f = k.few in
      record {
        from = omega arith;
        below = below;
        held = λ j a b. absurd (omega arith);
        early = λ j a b. absurd (omega arith);
        same = filled i (omega arith) ∙ rw (er, el) same;
        ends = λ h. el ∙ ends (sym er ∙ h);
      }

  go : (i e : ℕ) → bit right i ≡ false → bit left i ≡ true → Event (suc i) e → Event i e
  go i e er el next =
      let m = k.most in
      let f = k.few in
      let from = next.from in
      let below = next.below in
      record {
        from = omega arith;
        below = below;
        held = λ j a b. ⊎_elim (λ q. ap (bit left) (sym q) ∙ el) (λ l. next.held j l b) (eq-or-lt_of_le {n = i} {m = j} a);
        early = λ j a b. ⊎_elim (λ q. ap (bit right) (sym q) ∙ er) (λ l. next.early j l b) (eq-or-lt_of_le {n = i} {m = j} a);
        same = filled i (omega arith) ∙ rw (er, el) next.same;
        ends = next.ends;
      }

  choose : (i : ℕ) → i < known → (r l : Bool) → bit right i ≡ r → bit left i ≡ l → (r ≡ false → l ≡ true → (e : ℕ) × Event (suc i) e) → (e : ℕ) × Event i e
  choose i below true l er el more = (i, stop i below true l er el refl (λ h. absurd (true≢false h)))
  choose i below false false er el more = (i, stop i below false false er el refl (λ h. refl))
  choose i below false true er el more = let (e, next) = more refl refl in (e, go i e er el next)

  event : (d i : ℕ) → i + d + 1 ≡ known → (e : ℕ) × Event i e
  event zero i h =
      choose i (omega arith) (bit right i) (bit left i) refl refl
      (λ er el. let s : known - 1 ≡ i = omega arith in let z = k.last (omega arith) in absurd (true≢false (rw (s, er, el) at z)))
  event (suc d) i h = choose i (omega arith) (bit right i) (bit left i) refl refl (λ er el. event d (suc i) (omega arith))

  pub event_from : (i : ℕ) → i < known → (e : ℕ) × Event i e
  event_from i h = event (known - i - 1) i (omega arith)

-- the event's right is the verdict, whenever the position begins
module _ {left right n known : ℕ} (time : ℕ → ℕ) (k : Known left right n known) where
  by_event : (own : ℕ) (filled : FilledDown left right own) (i s e : ℕ) → Event k own filled i e → (v : Bool) → bit right e ≡ v → Verdict 0 time left right n i s v
  by_event own filled i s e h true r =
      let below = h.below in
      let most = k.most in
      (e, record { from = h.from; below = omega arith; holds = r; far = omega arith; held = h.held })
  by_event own filled i s e h false r =
      let below = h.below in
      let most = k.most in (
        e,
        record {
          from = h.from;
          below = omega arith;
          fails = h.ends r;
          early = λ j a b rj.
              absurd (⊎_elim (λ q. true_and_false rj (ap (bit right) q ∙ r)) (λ l. true_and_false rj (h.early j a l)) (eq-or-lt_of_le {n = j} {m = e} b));
        },
      )

  verdict : (own : ℕ) → FilledDown left right own → (i s : ℕ) → i < known → Verdict 0 time left right n i s (bit own i)
  verdict own filled i s h = let (e, v) = event_from k own filled i h in rw v.same (by_event own filled i s e v (bit right e) refl)

  quiet : (i s : ℕ) → known ≤ i → Unsettled 0 time left right n i s
  quiet i s h j a b = let q = k.behind j (omega arith) b in (q.0, λ r. absurd (true_and_false r q.1))

  module _ (start : ℕ → ℕ) (lead : ℕ) where
    -- no event: all wait
    pub soon_none : known ≡ 0 → Settles 0 start time lead n left right 0 0
    soon_none e = record {
      waiting = λ i l h. absurd (omega arith);
      own = λ i l h few. absurd (omega arith);
      next_waits = λ h. quiet 0 (start 0) (omega arith);
      next_own = λ h. quiet (0 - lead) (time (0 - lead)) (omega arith);
    }

    -- those that wait are told by the first event, like the first of those to take
    pub soon_some : 0 < known → {own front bits : ℕ} → FilledDown left right own → ((i : ℕ) → i < lead → bit front i ≡ bit own 0) → Prolonged own front lead bits →
        Settles 0 start time lead n left right bits (lead + known)
    soon_some some {own} filled like long = record {
      waiting = λ i l h. rw (long.front_bits i l ∙ like i l) (verdict own filled 0 (start i) some);
      own = λ i l h few. rw (long.own i l few) (verdict own filled (i - lead) (time (i - lead)) (omega arith));
      next_waits = λ h. absurd (omega arith);
      next_own = λ h. quiet (lead + known - lead) (time (lead + known - lead)) (omega arith);
    }
