-- The witnesses of a since: what one position's turn makes of their times. Nothing here knows of words.
use Prim.Native.Nat.{ℕ, zero, suc, ◌+◌, ◌-◌, ◌≤◌, ◌<◌}
use mathlib.Core.Bool.{Bool, true, false, cond, ◌&&◌}
use mathlib.Core.Bool.{not as negate}
use mathlib.Core.Logic.{inl, inr, ⊎_elim}
use mathlib.Core.Path.{◌≡◌, refl, ◌∙◌, ap}
use mathlib.Core.List.{List, [], ◌∷◌, ◌++◌}
use native.Mathlib.Omega.{arith}
use native.Mathlib.Nat.{eq-or-lt_of_le}
use lib.Dec.{leb, ltb, eqb}
use lib.ListN.{length, get_or, drop, length-append, length-drop, get_or-append}
use lib.Seq.{get_or-drop, get_or-append_seam}
use borrow.Author.Tests.{leb-true, ltb-true, ltb-false, le-leb, lt-ltb, eqb-true, eq-eqb}
use Rattle.mtl.specs.Satisfaction.{since_at}
use Rattle.mtl.specs.Formula.{unbounded}
use Rattle.mtl.proofs.Bounded.{true_and_false, same_test, and_iff, at_most_small, since_at_iff}
use Rattle.rule.specs.Words.{ring_words}
use Rattle.blocks.specs.Ring.{Witness, Serves, Witnesses, unexpired, kept, newest_is, turned, reaches}

-- dropped: the first k, each more than high before `at`; the next one is not
record Drops (high at : ℕ) (qs : List ℕ) (k : ℕ) : Type 0 where
  inside : k ≤ length qs
  is : unexpired high at qs ≡ drop k qs
  old : (i : ℕ) → i < k → high < at - get_or qs i 0
  next : k < length qs → at - get_or qs k 0 ≤ high

drops : (high at : ℕ) (qs : List ℕ) → (k : ℕ) × Drops high at qs k
unfolding unexpired
drops high at [] = (0, record { inside = omega arith; is = refl; old = λ i h. absurd (omega arith); next = λ h. absurd (omega arith) })
drops high at (q ∷ qs) = step (drops high at qs) (ltb high (at - q)) refl
  where
    step : (k : ℕ) × Drops high at qs k → (b : Bool) → ltb high (at - q) ≡ b → (k : ℕ) × Drops high at (q ∷ qs) k
    step (k, d) true e = (
      suc k,
      record {
        inside = let h = d.inside in omega arith;
        is = rw e d.is;
        old = elim [ zero ↦ λ h. ltb-true high (at - q) e | suc i ↦ λ h. d.old i (omega arith) ];
        next = λ h. d.next (omega arith);
      },
    )
    step (k, d) false e = (
      0,
      record {
        inside = omega arith;
        is = rw e refl;
        old = λ i h. absurd (omega arith);
        next = λ h. ltb-false high (at - q) e;
      },
    )

-- one position more
module _ (left right : ℕ → Bool) (g j : ℕ) where
  pub longer : left g ≡ true → Witness left right g j → Witness left right (g + 1) j
  longer l w =
      record {
        before = let h = w.before in omega arith;
        held = w.held;
        since = λ k h h'. ⊎_elim (λ e. ap left e ∙ l) (λ b. w.since k h b) (eq-or-lt_of_le {n = k} {m = g} (omega arith));
      }

  pub shorter : j < g → Witness left right (g + 1) j → Witness left right g j
  shorter h w = record { before = h; held = w.held; since = λ k a b. w.since k a (omega arith) }

-- times that rise from place to place
abbrev Rising : List ℕ → Type 0
Rising times = (i j : ℕ) → i < j → j < length times → get_or times i 0 < get_or times j 0

pub no_later : (times : List ℕ) → Rising times → (i j : ℕ) → i ≤ j → j < length times → get_or times i 0 ≤ get_or times j 0
no_later times rising i j l h =
    ⊎_elim (λ e. rw e (omega arith)) (λ b. let r = rising i j b h in omega arith) (eq-or-lt_of_le {n = i} {m = j} l)

module _ (low high : ℕ) (time : ℕ → ℕ) where
  -- a time that serves for position j stands among the times
  abbrev Stands : List ℕ → ℕ → Type 0
  Stands times j = (i : ℕ) × (i < length times) × Serves low high (get_or times i 0) (time j)

  -- they are as far apart as their places
  apart : (times : List ℕ) → Rising times → (i : ℕ) → i < length times → get_or times 0 0 + i ≤ get_or times i 0
  apart times rising zero h = omega arith
  apart times rising (suc i) h =
      let r = rising i (suc i) (omega arith) h in let p = apart times rising i (omega arith) in omega arith

  module _ (left right : ℕ → Bool) (g : ℕ) (falls : (i j : ℕ) → i ≤ j → j ≤ g → time i ≤ time j) (small : time g ≤ unbounded) where
    -- as Witnesses at g + 1, but for the witness g itself
    record Earlier (times : List ℕ) : Type 0 where
      rising : Rising times
      sound : (i : ℕ) → i < length times →
          (j : ℕ) × (j < g) × Witness left right (g + 1) j × (time j ≡ get_or times i 0) × (time g - get_or times i 0 ≤ high)
      complete : (j : ℕ) → j < g → Witness left right (g + 1) j → time g - time j ≤ high → Stands times j

    -- what is left of them at g, where left holds there
    earlier : (times : List ℕ) (l : Bool) → left g ≡ l → Witnesses low high time left right g times → Earlier (kept l (unexpired high (time g) times))
    earlier times false e w =
        record {
          rising = λ i j h h'. absurd (omega arith);
          sound = λ i h. absurd (omega arith);
          complete = λ j h v d. absurd (true_and_false (v.since g h (omega arith)) e);
        }
    earlier times true e w =
        let (k, d) = drops high (time g) times in
        let n = length-drop k times in
        let at = get_or-drop k times in
        rw d.is
        (record {
          rising = λ i j h h'. rw (at i 0, at j 0) (w.rising (k + i) (k + j) (omega arith) (omega arith));
          sound =
              λ i h.
              let l : k + i < length times = omega arith in
              let (j, v, t, b) = w.sound (k + i) l in
              let near = d.next (omega arith) in
              let m = no_later times w.rising k (k + i) (omega arith) l in
              rw (at i 0) (j, v.before, longer left right g j e v, t, omega arith);
          complete = λ j h v b. found k d n (w.complete j (shorter left right g j h v) (let f = falls (g - 1) g (omega arith) (omega arith) in omega arith)) b;
        })
      where
        found : (k : ℕ) → Drops high (time g) times k → length (drop k times) ≡ length times - k → {j : ℕ} →
            Stands times j → time g - time j ≤ high → Stands (drop k times) j
        found k d n {j} (i, l, s) b =
            let late : i < k → ⊥ = λ h. let o = d.old i h in ⊎_elim (λ q. omega arith) (λ q. ⊎_elim (λ u. let f = u.1 in omega arith) (λ z. let f = z.1 in omega arith) q) s in
            let p : k + (i - k) ≡ i = omega arith in
            (i - k, omega arith, rw (get_or-drop k times (i - k) 0, p) s)

    -- g needs no place of its own
    unchanged : (times : List ℕ) → Earlier times → (right g ≡ true → Stands times g) → Witnesses low high time left right (g + 1) times
    unchanged times w there =
        let last : g + 1 - 1 ≡ g = omega arith in
        record {
          rising = w.rising;
          sound = λ i h. let (j, l, v, t, b) = w.sound i h in (j, v, t, rw last b);
          complete =
              λ j v b.
              ⊎_elim
              (λ e. rw e (there (rw e at v.held)))
              (λ l. w.complete j l v (rw last at b))
              (eq-or-lt_of_le {n = j} {m = g} (let h = v.before in omega arith));
        }

    module _ (times : List ℕ) (w : Earlier times) where
      not_after : (i : ℕ) → i < length times → get_or times i 0 ≤ time g
      not_after i h = let (j, l, v, t, b) = w.sound i h in let f = falls j g (omega arith) (omega arith) in omega arith

      -- where g's time is not the newest already, all are before it
      all_before : newest_is (time g) times ≡ false → (i : ℕ) → i < length times → get_or times i 0 < time g
      all_before e i h =
          let last = length times - 1 in
          let m = no_later times w.rising i last (omega arith) (omega arith) in
          let a = not_after last (omega arith) in
          let other : get_or times last 0 ≡ time g → ⊥ =
          λ p. true_and_false ((and_iff (ltb 0 (length times)) (eqb (get_or times last 0) (time g))).1 (lt-ltb 0 (length times) (omega arith), eq-eqb (get_or times last 0) (time g) p)) e in
          omega arith

      -- and there is room for it, but in a ring of one cell
      room : newest_is (time g) times ≡ false → (b : Bool) → eqb high unbounded ≡ b → cond b 1 (high + 1) ≤ length times → Stands times g
      room e true u full = (0, omega arith, inr (inl (eqb-true high unbounded u, not_after 0 (omega arith))))
      room e false u full =
          let last = length times - 1 in
          let (j, l, v, t, near) = w.sound 0 (omega arith) in
          let p = apart times w.rising last (omega arith) in
          let q = all_before e last (omega arith) in
          absurd (omega arith)

      already : newest_is (time g) times ≡ true → Stands times g
      already e =
          let both = (and_iff (ltb 0 (length times)) (eqb (get_or times (length times - 1) 0) (time g))).0 e in
          let some = ltb-true 0 (length times) both.0 in
          (length times - 1, omega arith, inl (eqb-true (get_or times (length times - 1) 0) (time g) both.1))

      added : newest_is (time g) times ≡ false → right g ≡ true → Witnesses low high time left right (g + 1) (times ++ (time g ∷ []))
      added e r =
          let last : g + 1 - 1 ≡ g = omega arith in
          let n : length (times ++ (time g ∷ [])) ≡ length times + 1 = length-append times (time g ∷ []) in
          let old : (i : ℕ) → i < length times → get_or (times ++ (time g ∷ [])) i 0 ≡ get_or times i 0 = λ i h. get_or-append times (time g ∷ []) 0 i h in
          let new : (i : ℕ) → i ≡ length times → get_or (times ++ (time g ∷ [])) i 0 ≡ time g = λ i q. rw q (get_or-append_seam times (time g) [] 0) in
          record {
            rising =
                λ i j h h'.
                rw (old i (omega arith))
                (⊎_elim
                (λ q. rw (new j q) (all_before e i (omega arith)))
                (λ l. rw (old j l) (w.rising i j h l))
                (eq-or-lt_of_le {n = j} {m = length times} (omega arith)));
            sound =
                λ i h.
                ⊎_elim
                (λ q. rw (new i q, last) (g, record { before = omega arith; held = r; since = λ k a b. absurd (omega arith) }, refl, omega arith))
                (λ l. let (j, a, v, t, b) = w.sound i l in rw (old i l, last) (j, v, t, b))
                (eq-or-lt_of_le {n = i} {m = length times} (omega arith));
            complete =
                λ j v b.
                ⊎_elim
                (λ q. rw q (length times, omega arith, inl (new (length times) refl)))
                (λ l. let (i, h, s) = w.complete j l v (rw last at b) in (i, omega arith, rw (old i h) s))
                (eq-or-lt_of_le {n = j} {m = g} (let h = v.before in omega arith));
          }

      push : (r f n : Bool) → right g ≡ r → ltb (length times) (ring_words high) ≡ f → newest_is (time g) times ≡ n →
          Witnesses low high time left right (g + 1) (cond (r && (f && negate n)) (times ++ (time g ∷ [])) times)
      push false f n er ef en = unchanged times w (λ r. absurd (true_and_false r er))
      push true false true er ef en = unchanged times w (λ r. already en)
      push true false false er ef en =
          unchanged times w (λ r. room en (eqb high unbounded) refl (ltb-false (length times) (ring_words high) ef))
      push true true true er ef en = unchanged times w (λ r. already en)
      push true true false er ef en = added en er

    -- THEOREM: one position's turn keeps the times of the witnesses, and the oldest of them decides since at g.
    pub turn_keeps : (times : List ℕ) → Witnesses low high time left right g times →
        Witnesses low high time left right (g + 1) (turned (ring_words high) high (left g) (right g) (time g) times)
    turn_keeps times w =
        let es = kept (left g) (unexpired high (time g) times) in
        push es (earlier times (left g) refl w) (right g) (ltb (length es) (ring_words high)) (newest_is (time g) es) refl refl refl

    pub oldest_decides : (times : List ℕ) → Witnesses low high time left right (g + 1) times →
        reaches low (time g) times ≡ since_at low high time left right g
    oldest_decides times w =
        let last : g + 1 - 1 ≡ g = omega arith in
        let both = and_iff (ltb 0 (length times)) (leb low (time g - get_or times 0 0)) in
        let some = since_at_iff low high time left right g in
        same_test (reaches low (time g) times) (since_at low high time left right g) (
          λ e.
              let (l, m) = both.0 e in
              let (j, v, t, b) = w.sound 0 (ltb-true 0 (length times) l) in
              let near : time g - get_or times 0 0 ≤ high = rw last at b in
              let far = leb-true low (time g - get_or times 0 0) m in
              let h = v.before in
              some.1 (j, omega arith, ((omega arith, inl (omega arith)), v.held, λ k a c. v.since k a (omega arith))),
          λ e.
              let (j, h, (within, r, held)) = some.0 e in
              let v : Witness left right (g + 1) j = record { before = omega arith; held = r; since = λ k a c. held k a (omega arith) } in
              let (i, l, s) = w.complete j v (rw last (at_most_small high (time j) (time g) small within.1)) in
              let far = within.0 in
              let f = no_later times w.rising 0 i (omega arith) l in
              let back : low ≤ time g - get_or times 0 0 =
              ⊎_elim (λ q. omega arith) (λ q. ⊎_elim (λ u. let n = u.1 in omega arith) (λ z. let n = z.0 in omega arith) q) s in
              both.1 (lt-ltb 0 (length times) (omega arith), le-leb low (time g - get_or times 0 0) back),
        )
