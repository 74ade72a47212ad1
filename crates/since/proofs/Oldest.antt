-- since with low above 0, where no position drops a time: the oldest witness decides. Whole words of positions at once.
use Prim.Native.Nat.{ℕ, zero, suc, ◌+◌, ◌*◌, ◌-◌, ◌/◌, ◌%◌, ◌≤◌, ◌<◌, ◌^◌}
use native.Mathlib.Nat.{add-zero, eq-or-lt_of_le}
use native.Mathlib.Omega.{arith}
use mathlib.Core.Bool.{Bool, true, false, cond, ◌&&◌, ◌||◌, true≢false}
use mathlib.Core.Bool.{not as negate}
use mathlib.Core.List.{List, [], ◌∷◌}
use mathlib.Core.Logic.{◌⊎◌, inl, ⊎_elim}
use mathlib.Core.Path.{◌≡◌, refl, sym, ap, ap₂, ◌∙◌}
use lib.Bits.{bit_and, bit_or}
use lib.Dec.{eqb, leb, ltb}
use lib.ListN.{length, get_or}
use borrow.Author.Tests.{leb-true, le-leb, le-ltb, lt-ltb, ltb-true, ltb-false, ne_eqb}
use Rattle.mtl.specs.Formula.{unbounded}
use Rattle.mtl.specs.Satisfaction.{since_at}
use Rattle.mtl.proofs.Bounded.{true_and_false, true_or_false, le_or_lt, same_test, and_iff, at_most_small, since_at_iff}
use Rattle.bits.specs.Packed.{bit, number, last_zero, Packed, FilledUp}
use Rattle.bits.proofs.Laws.{bit_rest, bit_not, bit_of_or, bit_of_and, bit_mod}
use Rattle.bits.proofs.Zeros.{last_is_zero, one_behind_last, zero_within}
use Rattle.rule.specs.Words.{ring_words}
use Rattle.blocks.specs.Ring.{Ring, Rings, Witness, Serves, Witnesses, unexpired, kept, pushed, oldest_of, newest_at, pushes, word_turned, Rises, Shown, Takes}
use Rattle.since.specs.Old.{old_enough}
use Rattle.since.proofs.Witnesses.{longer, shorter, no_later}
use Rattle.since.proofs.Shown.{next, before_next, was_near, falls_here, time_small, shown_rises}
use Rattle.since.proofs.Turn.{after_turns, keeps, keep}
use Rattle.since.proofs.Newest.{alive_at, alive_is, begin_first, begin_later, not_before}

-- with low above 0 a time in the ring serves for none that is earlier
not_earlier : {low high there time : ℕ} → 0 < low → Serves low high there time → there ≤ time
not_earlier positive s = ⊎_elim (λ q. omega arith) (λ q. ⊎_elim (λ u. u.1) (λ z. let f = z.0 in absurd (omega arith)) q) s

module _ (low high : ℕ) (positive : 0 < low) (time : ℕ → ℕ) (left right : ℕ → Bool) where
  -- behind position p - 1: whether there is a witness, one at time t then, and no earlier one that is still in reach
  record Eldest (p : ℕ) (some : Bool) (t : ℕ) : Type 0 where
    there : some ≡ true → (j : ℕ) × Witness left right p j × (time j ≡ t)
    oldest : some ≡ true → (j : ℕ) → Witness left right p j → time (p - 1) - time j ≤ high → t ≤ time j
    none : some ≡ false → (j : ℕ) → Witness left right p j → time (p - 1) - time j ≤ high → ⊥

  -- what a ring says
  begins : (p other : ℕ) (times : List ℕ) → Witnesses low high time left right p times → Eldest p (ltb 0 (length times)) (oldest_of other times)
  begins p other times w = at (ltb 0 (length times)) refl
    where
      at : (b : Bool) → ltb 0 (length times) ≡ b → Eldest p b (cond b (get_or times 0 0) other)
      at true e =
          let h = ltb-true 0 (length times) e in
          record {
            there = λ z. let (j, v, t, near) = w.sound 0 h in (j, v, t);
            oldest = λ z j v near.
                let (i, l, s) = w.complete j v near in
                let m = no_later times w.rising 0 i (omega arith) l in
                let e = not_earlier positive s in
                omega arith;
            none = λ z. absurd (true≢false z);
          }
      at false e =
          let h = ltb-false 0 (length times) e in
          record {
            there = λ z. absurd (true≢false (sym z));
            oldest = λ z. absurd (true≢false (sym z));
            none = λ z j v near. let (i, l, s) = w.complete j v near in omega arith;
          }

  -- one position more
  module _ (p : ℕ) (falls : (i j : ℕ) → i ≤ j → j ≤ p → time i ≤ time j) where
    here_or_before : (j : ℕ) → Witness left right (p + 1) j → (j ≡ p) ⊎ (j < p)
    here_or_before j w = eq-or-lt_of_le {n = j} {m = p} (let h = w.before in omega arith)

    -- none from before is alive
    fresh : (r : Bool) (t : ℕ) → right p ≡ r → ((j : ℕ) → j < p → Witness left right (p + 1) j → time (p + 1 - 1) - time j ≤ high → ⊥) → Eldest (p + 1) r (time p)
    fresh r t er gone =
        record {
          there = λ z. (p, record { before = omega arith; held = er ∙ z; since = λ k a b. absurd (omega arith) }, refl);
          oldest = λ z j v near. ⊎_elim (λ e. let f = ap time e in omega arith) (λ l. absurd (gone j l v near)) (here_or_before j v);
          none = λ z j v near. ⊎_elim (λ e. true_and_false v.held (ap right e ∙ (er ∙ z))) (λ l. gone j l v near) (here_or_before j v);
        }

    or-false : (r : Bool) → r || false ≡ r
    or-false true = refl
    or-false false = refl

    step : (r l some : Bool) (t : ℕ) → right p ≡ r → left p ≡ l → Eldest p some t → Eldest (p + 1) (r || (l && some)) (cond (l && some) t (time p))
    step r true true t er el s =
        rw (or-true r)
        (record {
          there = λ z. let (j, v, e) = s.there refl in (j, longer left right p j el v, e);
          oldest = λ z j v near.
              ⊎_elim
              (λ e. let (k, u, f) = s.there refl in let b = u.before in let m = falls k p (omega arith) (omega arith) in let q = ap time e in omega arith)
              (λ b. s.oldest refl j (shorter left right p j b v) (was_near high time p falls j near))
              (here_or_before j v);
          none = λ z. absurd (true≢false z);
        })
      where
        or-true : (r : Bool) → r || true ≡ true
        or-true true = refl
        or-true false = refl
    step r true false t er el s =
        rw (or-false r) (fresh r t er (λ j b v near. s.none refl j (shorter left right p j b v) (was_near high time p falls j near)))
    step r false some t er el s =
        rw (or-false r) (fresh r t er (λ j b v near. true_and_false (v.since p b (omega arith)) el))

    -- what since answers there, where the oldest is in reach
    answers_old : time p ≤ unbounded → {some : Bool} {t : ℕ} → Eldest (p + 1) some t → time p - t ≤ high →
        since_at low high time left right p ≡ some && (leb low (time p - t) && leb (time p - t) high)
    answers_old small {some} {t} s inside =
        let both = and_iff some (leb low (time p - t) && leb (time p - t) high) in
        let old = and_iff (leb low (time p - t)) (leb (time p - t) high) in
        let iff = since_at_iff low high time left right p in
        same_test (since_at low high time left right p) (some && (leb low (time p - t) && leb (time p - t) high)) (
          λ e.
              let (j, h, (within, r, held)) = iff.0 e in
              let v : Witness left right (p + 1) j = record { before = omega arith; held = r; since = λ k a c. held k a (omega arith) } in
              let near = at_most_small high (time j) (time p) small within.1 in
              let near' : time (p + 1 - 1) - time j ≤ high = rw (before_next p) near in
              let far = within.0 in
              ⊎_elim
              (λ y. let m = s.oldest y j v near' in both.1 (y, old.1 (le-leb low (time p - t) (omega arith), le-leb (time p - t) high inside)))
              (λ n. absurd (s.none n j v near'))
              (true_or_false some),
          λ e.
              let (y, o) = both.0 e in
              let (j, v, at) = s.there y in
              let (f, n) = old.0 o in
              let far = leb-true low (time p - t) f in
              let h = v.before in
              iff.1 (j, omega arith, ((omega arith, inl (omega arith)), v.held, λ k a c. v.since k a (omega arith))),
        )

-- a bit further up
double_first : (w : ℕ) → bit (w * 2 ^ 1 % 2 ^ 64) 0 ≡ false
double_first w = bit_mod (w * 2 ^ 1) 64 0 (omega arith) ∙ ne_eqb (w * 2 ^ 1 / 2 ^ 0 % 2) 1 (omega arith)

double_later : (w i : ℕ) → suc i < 64 → bit (w * 2 ^ 1 % 2 ^ 64) (suc i) ≡ bit w i
double_later w i h =
    let e : suc i ≡ 1 + i = omega arith in
    let half : w * 2 ^ 1 / 2 ^ 1 ≡ w = omega arith in
    bit_mod (w * 2 ^ 1) 64 (suc i) h ∙ ap (bit (w * 2 ^ 1)) e ∙ sym (bit_rest (w * 2 ^ 1) 1 i) ∙ ap (λ (v : ℕ). bit v i) half

-- the marks: where left fails or none was alive before
module _ (left right : ℕ) (some : Bool) (word : ℕ) (filled : FilledUp left (bit_or right (bit_and left (number some))) word) where
  abbrev pub before_each : ℕ
  before_each = bit_or (word * 2 ^ 1 % 2 ^ 64) (number some)

  abbrev pub marked : ℕ
  marked = 2 ^ 64 - 1 - bit_and left before_each

  alive_before : (i : ℕ) → i < 64 → bit before_each i ≡ alive_at left right some i
  unfolding alive_at
  alive_before zero h = bit_of_or (word * 2 ^ 1 % 2 ^ 64) (number some) 0 ∙ ap₂ (λ (x y : Bool). x || y) (double_first word) (begin_first left right some word filled some)
  alive_before (suc i) h =
      bit_of_or (word * 2 ^ 1 % 2 ^ 64) (number some) (suc i)
      ∙ ap₂ (λ (x y : Bool). x || y) (double_later word i h ∙ alive_is left right some word filled i (omega arith)) (begin_later left right some word filled some i)
      ∙ by (alive_at left right some (suc i))
    where
      by : (x : Bool) → x || false ≡ x
      by true = refl
      by false = refl

  pub mark_is : bit_and left before_each < 2 ^ 64 → (i : ℕ) → i < 64 → bit marked i ≡ negate (bit left i && alive_at left right some i)
  mark_is fits i h =
      bit_not 64 (bit_and left before_each) i fits h
      ∙ ap negate (bit_of_and left before_each i ∙ ap (λ (x : Bool). bit left i && x) (alive_before i h))

-- THEOREM: n positions with low above 0 that all lie within high of the oldest witness, or of the first of them where there is none. The
-- word tells where a witness is alive and old enough, and the ring is turned once.
module _ {low high : ℕ} {at : ℕ → ℕ} {left right n : ℕ} {b : List ℕ} (first alive old marks : ℕ) (some : Bool) {d : List ℕ}
    (positive : 0 < low) (any : 0 < n)
    (begun : (qs : List ℕ) → Ring (ring_words high) b qs → some ≡ ltb 0 (length qs))
    (filled : FilledUp left (bit_or right (bit_and left (number some))) alive)
    (marking : (i : ℕ) → i < 64 → bit marks i ≡ negate (bit left i && alive_at left right some i))
    (few : n ≤ 64)
    (found : Rises at n first → Packed (old_enough low at marks first) 0 n old)
    (inside : at (n - 1) - first ≤ high)
    (rings : Rings (ring_words high) (word_turned (ring_words high) at left right n) b d)
    (begun_at : (qs : List ℕ) → Ring (ring_words high) b qs → first ≡ oldest_of (at 0) qs) where
  module _ {time : ℕ → ℕ} {lefts rights : ℕ → Bool} {g : ℕ} {times : List ℕ} (shown : Shown time lefts rights g n at left right)
      (ring : Ring (ring_words high) b times) (w : Witnesses low high time lefts rights g times) where
    mark_more : (i : ℕ) → i < 64 → newest_at at marks first (suc i) ≡ cond (bit left i && alive_at left right some i) (newest_at at marks first i) (at i)
    unfolding newest_at
    mark_more i h =
        ap (λ (m : Bool). cond m (at i) (newest_at at marks first i)) (marking i h)
        ∙ flip (bit left i && alive_at left right some i)
      where
        flip : (x : Bool) → cond (negate x) (at i) (newest_at at marks first i) ≡ cond x (newest_at at marks first i) (at i)
        flip true = refl
        flip false = refl

    stand : (i : ℕ) → i ≤ n → Eldest low high positive time lefts rights (g + i) (alive_at left right some i) (newest_at at marks first i)
    unfolding alive_at newest_at
    stand zero h = rw (add-zero g, begun times ring, begun_at times ring) (begins low high positive time lefts rights g (at 0) times w)
    stand (suc i) h =
        rw (mark_more i (omega arith), next g i, ← shown.same i h)
        (step low high positive time lefts rights (g + i) (falls_here shown i h) (bit right i) (bit left i) (alive_at left right some i) (newest_at at marks first i)
        (shown.right_word.same i h) (shown.left_word.same i h) (stand i (omega arith)))

    not_later : oldest_of (at 0) times ≤ at 0
    not_later = by (ltb 0 (length times)) refl
      where
        by : (x : Bool) → ltb 0 (length times) ≡ x → cond x (get_or times 0 0) (at 0) ≤ at 0
        by true e =
            let (j, v, t, near) = w.sound 0 (ltb-true 0 (length times) e) in
            let l = v.before in
            let f = shown.falls j (g + 0) (omega arith) (omega arith) in
            omega (arith, shown.same 0 any)
        by false e = omega arith

    rises : Rises at n first
    rises = shown_rises shown (rw (begun_at times ring) not_later)

    in_high : (i t : ℕ) → i < n → first ≤ t → at i - t ≤ high
    in_high i t h l = let f = rises.0 i (n - 1) (omega arith) (omega arith) in omega arith

    answered : (i : ℕ) → i < n → since_at low high time lefts rights (g + i) ≡ bit (bit_and alive old) i
    answered i h =
        let e : 0 + i ≡ i = omega arith in
        let near = in_high i (newest_at at marks first (suc i)) h (not_before marks rises (suc i) h) in
        answers_old low high positive time lefts rights (g + i) (falls_here shown i h) (time_small shown i h) (rw (next g i) at (stand (suc i) h)) (rw (shown.same i h) near)
        ∙ ap₂ (λ (x : Bool) (t : ℕ). x && (leb low (t - newest_at at marks first (suc i)) && leb (t - newest_at at marks first (suc i)) high))
        (sym (alive_is left right some alive filled i (omega arith)))
        (shown.same i h)
        ∙ ap (λ (x : Bool). bit alive i && (old_enough low at marks first i && x)) (le-leb (at i - newest_at at marks first (suc i)) high near)
        ∙ ap (λ (x : Bool). bit alive i && x) (by (old_enough low at marks first i) ∙ rw e at ((found rises).same i h))
        ∙ sym (bit_of_and alive old i)
      where
        by : (x : Bool) → x && true ≡ x
        by true = refl
        by false = refl

    -- no time is dropped
    serves_first : (i j : ℕ) → i < n → Witness lefts rights (g + i) j → time (g + i - 1) - time j ≤ high → at i - time j ≤ high
    serves_first i j h v near =
        ⊎_elim
        (λ late.
        let b = v.before in
        let f = shown.falls g j late (omega arith) in
        let e : g + 0 ≡ g = add-zero g in
        let z = ap time e in
        let l = rises.1 in
        in_high i (time j) h (omega (arith, shown.same 0 any)))
        (λ early.
        let b = v.before in
        let was : Witness lefts rights g j = record { before = early; held = v.held; since = λ k a c. v.since k a (omega arith) } in
        let f = shown.falls (g - 1) (g + i - 1) (omega arith) (omega arith) in
        let (m, l, s) = w.complete j was (omega arith) in
        let o = no_later times w.rising 0 m (omega arith) l in
        let here : first ≡ get_or times 0 0 = begun_at times ring ∙ rw (lt-ltb 0 (length times) (omega arith)) refl in
        let e = not_earlier positive s in
        in_high i (time j) h (omega arith))
        (le_or_lt g j)

    none_dropped : (i : ℕ) → i < n → (qs : List ℕ) → Witnesses low high time lefts rights (g + i) qs → unexpired high (at i) qs ≡ qs
    unfolding unexpired
    none_dropped i h [] v = refl
    none_dropped i h (q ∷ qs) v =
        let (j, is, t, near) = v.sound 0 (omega arith) in
        let m = serves_first i j h is (omega arith) in
        rw (le-ltb high (at i - q) (omega arith)) refl

    after_one : (i : ℕ) → i < n → (qs : List ℕ) → bit left i ≡ true → Witnesses low high time lefts rights (g + i) qs →
        Witnesses low high time lefts rights (g + suc i) (pushed (ring_words high) (bit right i) (at i) qs)
    after_one i h qs l v = rw (l, none_dropped i h qs v) at (keeps low high time lefts rights g n at left right shown times w i h qs v)

    after_fail : (i : ℕ) → i < n → bit left i ≡ false → Witnesses low high time lefts rights (g + suc i) (pushed (ring_words high) (bit right i) (at i) [])
    after_fail i h l =
        rw l at
        (keeps low high time lefts rights g n at left right shown times w i h (after_turns low high time lefts rights g n at left right shown times w i)
        (keep low high time lefts rights g n at left right shown times w i (omega arith)))

    all_pushed : (f k : ℕ) → f + k ≤ n → ((i : ℕ) → f ≤ i → i < n → bit left i ≡ true) → (qs : List ℕ) → Witnesses low high time lefts rights (g + f) qs →
        Witnesses low high time lefts rights (g + (f + k)) (pushes (ring_words high) at right f k qs)
    unfolding pushes
    all_pushed f zero h held qs v = rw (add-zero f) v
    all_pushed f (suc k) h held qs v =
        let e : g + (f + suc k) ≡ g + suc (f + k) = omega arith in
        rw e (after_one (f + k) (omega arith) _ (held (f + k) (omega arith) (omega arith)) (all_pushed f k (omega arith) held qs v))

    pushed_after_fail : (f k : ℕ) → f + suc k ≤ n → bit left f ≡ false → ((i : ℕ) → f < i → i < n → bit left i ≡ true) →
        Witnesses low high time lefts rights (g + (f + suc k)) (pushes (ring_words high) at right f (suc k) [])
    unfolding pushes
    pushed_after_fail f zero h l held =
        let e : g + (f + 1) ≡ g + suc f = omega arith in rw (e, add-zero f) (after_fail f (omega arith) l)
    pushed_after_fail f (suc k) h l held =
        let e : g + (f + suc (suc k)) ≡ g + suc (f + suc k) = omega arith in
        rw e (after_one (f + suc k) (omega arith) _ (held (f + suc k) (omega arith) (omega arith)) (pushed_after_fail f k (omega arith) l held))

    kept_word : (z : ℕ) → last_zero n left ≡ z → z ≤ n →
        Witnesses low high time lefts rights (g + n) (pushes (ring_words high) at right (z - 1) (n - (z - 1)) (kept (eqb z 0) times))
    kept_word zero e l =
        let all : 0 + (n - (0 - 1)) ≡ n = omega arith in
        let whole = all_pushed 0 (n - (0 - 1)) (omega arith) (λ i a h. one_behind_last n left i (omega arith) h) times (rw (add-zero g) w) in
        rw all at whole
    kept_word (suc f) e l =
        let s : suc f - 1 ≡ f = omega arith in
        let m : n - f ≡ suc (n - suc f) = omega arith in
        let all : f + suc (n - suc f) ≡ n = omega arith in
        let fails : bit left f ≡ false = ap (bit left) (sym s) ∙ ap (λ (x : ℕ). bit left (x - 1)) (sym e) ∙ last_is_zero n left (omega arith) in
        let whole = pushed_after_fail f (n - suc f) (omega arith) fails (λ i a h. one_behind_last n left i (omega arith) h) in
        rw (s, m, ne_eqb (suc f) 0 (omega arith)) (rw all at whole)

  pub takes_inside : Takes low high at left right n b (bit_and alive old) d
  takes_inside = record {
    others = rings.others;
    takes = λ time lefts rights g times shown ring w. (
      (word_turned (ring_words high) at left right n times, rings.ring times ring, kept_word shown ring w (last_zero n left) refl (zero_within n left)),
      record { few = few; same = answered shown ring w },
    );
  }
