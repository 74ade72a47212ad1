-- since with low 0: the newest witness decides, and the last right is the newest. Whole words of positions at once.
use Prim.Native.Nat.{ℕ, zero, suc, ◌+◌, ◌-◌, ◌%◌, ◌≤◌, ◌<◌, ◌^◌}
use native.Mathlib.Nat.{add-zero, div-eq_of_lt, eq-or-lt_of_le, lt_of_lt_of_le}
use native.Mathlib.Numerals.{add-one}
use native.Mathlib.Omega.{arith}
use mathlib.Core.Bool.{Bool, true, false, cond, ◌&&◌, ◌||◌, true≢false}
use mathlib.Core.Bool.{not as negate}
use mathlib.Core.List.{List}
use mathlib.Core.Logic.{◌⊎◌, inl, inr, ⊎_elim}
use mathlib.Core.Path.{◌≡◌, refl, sym, ap, ap₂, ◌∙◌}
use lib.Bits.{bit_and, bit_or}
use lib.Dec.{eqb, leb, ltb}
use lib.ListN.{length, get_or}
use lib.Pow.{pow_mono}
use borrow.Author.Tests.{leb-true, le-leb, ltb-true, ltb-false, ne_eqb}
use Rattle.mtl.specs.Formula.{unbounded}
use Rattle.mtl.specs.Satisfaction.{since_at}
use Rattle.mtl.proofs.Bounded.{true_and_false, true_or_false, le_or_lt, same_test, and_iff, at_most_small, since_at_iff}
use Rattle.bits.specs.Packed.{bit, number, last_zero, Packed, FilledUp}
use Rattle.bits.proofs.Laws.{number_lt, bit_not, bit_of_or, bit_of_and}
use Rattle.rule.specs.Words.{ring_words}
use Rattle.blocks.specs.Ring.{Ring, Rings, Witness, Witnesses, newest_of, one, newest_at, in_reach, Rises, Shown, Takes}
use Rattle.since.proofs.Witnesses.{longer, shorter, no_later}
use Rattle.since.proofs.Shown.{next, before_next, was_near, falls_here, time_small, shown_rises}

module _ (high : ℕ) (time : ℕ → ℕ) (left right : ℕ → Bool) where
  -- behind position p - 1: whether there is a witness, one at time t then, and no later one that is still in reach
  pub record Stand (p : ℕ) (some : Bool) (t : ℕ) : Type 0 where
    pub there : some ≡ true → (j : ℕ) × Witness left right p j × (time j ≡ t)
    pub newest : some ≡ true → (j : ℕ) → Witness left right p j → time (p - 1) - time j ≤ high → (time j ≤ t) ⊎ (high ≡ unbounded)
    pub none : some ≡ false → (j : ℕ) → Witness left right p j → time (p - 1) - time j ≤ high → ⊥

  -- none is in reach
  nobody : (p t : ℕ) → ((j : ℕ) → Witness left right p j → time (p - 1) - time j ≤ high → ⊥) → Stand p false t
  nobody p t gone = record { there = λ z. absurd (true≢false (sym z)); newest = λ z. absurd (true≢false (sym z)); none = λ z. gone }

  -- what a ring says
  pub begins : (p other : ℕ) (times : List ℕ) → Witnesses 0 high time left right p times → Stand p (ltb 0 (length times)) (newest_of other times)
  begins p other times w = at (ltb 0 (length times)) refl
    where
      last : 0 < length times → (i : ℕ) → i < length times → get_or times i 0 ≤ get_or times (length times - 1) 0
      last h i l = no_later times w.rising i (length times - 1) (omega arith) (omega arith)

      at : (b : Bool) → ltb 0 (length times) ≡ b → Stand p b (cond b (get_or times (length times - 1) 0) other)
      at true e =
          let h = ltb-true 0 (length times) e in
          record {
            there = λ z. let (j, v, t, near) = w.sound (length times - 1) (omega arith) in (j, v, t);
            newest = λ z j v near.
                let (i, l, s) = w.complete j v near in
                let m = last h i l in
                ⊎_elim (λ q. inl (omega arith)) (λ q. ⊎_elim (λ u. inr u.0) (λ y. let f = y.1 in inl (omega arith)) q) s;
            none = λ z. absurd (true≢false z);
          }
      at false e =
          let h = ltb-false 0 (length times) e in
          nobody p other (λ j v near. let (i, l, s) = w.complete j v near in omega arith)

  -- one position more
  module _ (p : ℕ) (falls : (i j : ℕ) → i ≤ j → j ≤ p → time i ≤ time j) where
    not_here : (j : ℕ) → right p ≡ false → Witness left right (p + 1) j → j < p
    not_here j r w = ⊎_elim (λ e. absurd (true_and_false w.held (ap right e ∙ r))) (λ l. l) (eq-or-lt_of_le {n = j} {m = p} (let h = w.before in omega arith))

    step : (r l some : Bool) (t : ℕ) → right p ≡ r → left p ≡ l → Stand p some t → Stand (p + 1) (r || (l && some)) (cond r (time p) t)
    step true l some t er el s =
        record {
          there = λ z. (p, record { before = omega arith; held = er; since = λ k a b. absurd (omega arith) }, refl);
          newest = λ z j v near. let h = v.before in inl (falls j p (omega arith) (omega arith));
          none = λ z. absurd (true≢false z);
        }
    step false true some t er el s =
        record {
          there = λ z. let (j, v, e) = s.there z in (j, longer left right p j el v, e);
          newest = λ z j v near. s.newest z j (shorter left right p j (not_here j er v) v) (was_near high time p falls j near);
          none = λ z j v near. s.none z j (shorter left right p j (not_here j er v) v) (was_near high time p falls j near);
        }
    step false false some t er el s = nobody (p + 1) t (λ j v near. true_and_false (v.since p (not_here j er v) (omega arith)) el)

    -- what since answers there, and the ring that is enough from there on
    module _ (small : time p ≤ unbounded) {some : Bool} {t : ℕ} (s : Stand (p + 1) some t) where
      answers_since : since_at 0 high time left right p ≡ some && leb (time p - t) high
      answers_since =
          let both = and_iff some (leb (time p - t) high) in
          let iff = since_at_iff 0 high time left right p in
          same_test (since_at 0 high time left right p) (some && leb (time p - t) high) (
            λ e.
                let (j, h, (within, r, held)) = iff.0 e in
                let v : Witness left right (p + 1) j = record { before = omega arith; held = r; since = λ k a c. held k a (omega arith) } in
                let near = at_most_small high (time j) (time p) small within.1 in
                let near' : time (p + 1 - 1) - time j ≤ high = rw (before_next p) near in
                ⊎_elim
                (λ y. both.1 (y, le-leb (time p - t) high (⊎_elim (λ q. omega arith) (λ q. omega arith) (s.newest y j v near'))))
                (λ n. absurd (s.none n j v near'))
                (true_or_false some),
            λ e.
                let (y, n) = both.0 e in
                let (j, v, at) = s.there y in
                let near = leb-true (time p - t) high n in
                let h = v.before in
                iff.1 (j, omega arith, ((omega arith, inl (omega arith)), v.held, λ k a c. v.since k a (omega arith))),
          )

      keeps : (b : Bool) → some && leb (time p - t) high ≡ b → Witnesses 0 high time left right (p + 1) (one b t)
      keeps true e =
          let (y, n) = (and_iff some (leb (time p - t) high)).0 e in
          let (j, v, at) = s.there y in
          let near = leb-true (time p - t) high n in
          record {
            rising = λ i k h l. absurd (omega arith);
            sound = λ i h. let z : i ≡ 0 = omega arith in rw (z, before_next p) (j, v, at, near);
            complete = λ k w near'.
                (0, omega arith, ⊎_elim (λ q. inr (inr (refl, q))) (λ u. ⊎_elim (λ q. inr (inr (refl, q))) (λ q. inr (inl (u, omega arith))) (le_or_lt (time k) t)) (s.newest y k w near'));
          }
      keeps false e =
          record {
            rising = λ i k h l. absurd (omega arith);
            sound = λ i h. absurd (omega arith);
            complete = λ k w near.
                let near' : time p - time k ≤ high = rw (before_next p) at near in
                ⊎_elim
                (λ y.
                absurd (true_and_false
                ((and_iff some (leb (time p - t) high)).1 (y, le-leb (time p - t) high (⊎_elim (λ q. omega arith) (λ q. omega arith) (s.newest y k w near))))
                e))
                (λ n. absurd (s.none n k w near))
                (true_or_false some);
          }

-- whether a witness is alive before the first of some positions, and behind each
unfoldable pub alive_at : (left right : ℕ) (some : Bool) → ℕ → Bool
alive_at left right some zero = some
alive_at left right some (suc i) = bit right i || (bit left i && alive_at left right some i)

-- a word of them, filled upwards
module _ (left right : ℕ) (some : Bool) (word : ℕ) (filled : FilledUp left (bit_or right (bit_and left (number some))) word) where
  pub begin_first : (x : Bool) → bit (number x) 0 ≡ x
  begin_first true = refl
  begin_first false = refl

  pub begin_later : (x : Bool) (i : ℕ) → bit (number x) (suc i) ≡ false
  begin_later x i =
      let one_bit : 1 ≤ suc i = omega arith in
      ap (λ (v : ℕ). eqb (v % 2) 1) (div-eq_of_lt (lt_of_lt_of_le (number_lt x) (pow_mono one_bit)))

  begin : (i : ℕ) → bit (bit_or right (bit_and left (number some))) i ≡ bit right i || (bit left i && bit (number some) i)
  begin i = bit_of_or right (bit_and left (number some)) i ∙ ap (λ (x : Bool). bit right i || x) (bit_of_and left (number some) i)

  pub alive_is : (i : ℕ) → i < 64 → bit word i ≡ alive_at left right some (suc i)
  unfolding alive_at
  alive_is zero h = filled.0 ∙ begin 0 ∙ ap (λ (x : Bool). bit right 0 || (bit left 0 && x)) (begin_first some)
  alive_is (suc i) h =
      filled.1 i h
      ∙ ap₂ (λ (x y : Bool). x || (bit left (suc i) && y))
      (begin (suc i) ∙ ap (λ (x : Bool). bit right (suc i) || (bit left (suc i) && x)) (begin_later some i))
      (alive_is i (omega arith))
      ∙ same (bit right (suc i)) (bit left (suc i)) (alive_at left right some (suc i))
    where
      same : (r l a : Bool) → (r || (l && false)) || (l && a) ≡ r || (l && a)
      same true l a = refl
      same false true a = refl
      same false false a = refl

pub newest_none : (at : ℕ → ℕ) (right first : ℕ) → newest_at at right first 0 ≡ first
unfolding newest_at
newest_none at right first = refl

pub newest_more : (at : ℕ → ℕ) (right first i : ℕ) → newest_at at right first (i + 1) ≡ cond (bit right i) (at i) (newest_at at right first i)
unfolding newest_at
newest_more at right first i = rw (add-one i) refl

-- times that never fall: the newest is not before the first
module _ {at : ℕ → ℕ} {n first : ℕ} (right : ℕ) (rises : Rises at n first) where
  pub not_before : (i : ℕ) → i ≤ n → first ≤ newest_at at right first i
  unfolding newest_at
  not_before zero h = omega arith
  not_before (suc i) h = by (bit right i) (not_before i (omega arith))
    where
      by : (b : Bool) → first ≤ newest_at at right first i → first ≤ cond b (at i) (newest_at at right first i)
      by true before = let f = rises.0 0 i (omega arith) h in let g = rises.1 in omega arith
      by false before = before

  -- where all lie within high of it, all are in reach
  pub all_in_reach : {high : ℕ} (alive : ℕ) → n ≤ 64 → at (n - 1) - first ≤ high → Packed (λ i. bit alive i && in_reach 0 high at right first i) 0 n alive
  all_in_reach {high} alive few near = record {
    few = few;
    same = λ i h.
        let before = not_before (suc i) h in
        let f = rises.0 i (n - 1) (omega arith) (omega arith) in
        let e : 0 + i ≡ i = omega arith in
        rw (e, le-leb 0 (at i - newest_at at right first (suc i)) (omega arith), le-leb (at i - newest_at at right first (suc i)) high (omega arith)) (by (bit alive i));
  }
    where
      by : (x : Bool) → x && true ≡ x
      by true = refl
      by false = refl

-- the newest of n, by the place of the last bit
pub newest_last : (at : ℕ → ℕ) (right first n : ℕ) → right < 2 ^ 64 → n ≤ 64 →
    newest_at at right first n ≡ cond (eqb (last_zero n (2 ^ 64 - 1 - right)) 0) first (at (last_zero n (2 ^ 64 - 1 - right) - 1))
unfolding newest_at last_zero
newest_last at right first zero small few = refl
newest_last at right first (suc n) small few = by (bit right n) (bit (2 ^ 64 - 1 - right) n) (bit_not 64 right n small few) (newest_last at right first n small (omega arith))
  where
    by : (x y : Bool) → y ≡ negate x → (newest_at at right first n ≡ cond (eqb (last_zero n (2 ^ 64 - 1 - right)) 0) first (at (last_zero n (2 ^ 64 - 1 - right) - 1))) →
        cond x (at n) (newest_at at right first n) ≡
        cond (eqb (cond y (last_zero n (2 ^ 64 - 1 - right)) (suc n)) 0) first (at (cond y (last_zero n (2 ^ 64 - 1 - right)) (suc n) - 1))
    by true true e before = absurd (true≢false e)
    by true false e before = let s : n ≡ suc n - 1 = omega arith in rw (ne_eqb (suc n) 0 (omega arith)) (ap at s)
    by false true e before = before
    by false false e before = absurd (true≢false (sym e))

-- THEOREM: n positions with low 0. The word tells where a witness is alive and in reach, and of the witnesses the newest is kept.
module _ {high : ℕ} {at : ℕ → ℕ} {left right n : ℕ} {b : List ℕ} (first alive answers newest : ℕ) (some last : Bool) {d : List ℕ}
    (begun : (qs : List ℕ) → Ring (ring_words high) b qs → some ≡ ltb 0 (length qs))
    (begun_at : (qs : List ℕ) → Ring (ring_words high) b qs → first ≡ newest_of (at 0) qs)
    (filled : FilledUp left (bit_or right (bit_and left (number some))) alive)
    (reached : Rises at n first → Packed (λ i. bit alive i && in_reach 0 high at right first i) 0 n answers)
    (any : 0 < n) (is_last : last ≡ bit answers (n - 1)) (is_newest : newest ≡ newest_at at right first n)
    (rings : Rings (ring_words high) (λ qs. one last newest) b d) where
  module _ {time : ℕ → ℕ} {lefts rights : ℕ → Bool} {g : ℕ} {times : List ℕ} (shown : Shown time lefts rights g n at left right)
      (ring : Ring (ring_words high) b times) (w : Witnesses 0 high time lefts rights g times) where
    stand : (i : ℕ) → i ≤ n → Stand high time lefts rights (g + i) (alive_at left right some i) (newest_at at right first i)
    unfolding alive_at newest_at
    stand zero h = rw (add-zero g, begun times ring, begun_at times ring) (begins high time lefts rights g (at 0) times w)
    stand (suc i) h =
        rw (next g i, ← shown.same i h)
        (step high time lefts rights (g + i) (falls_here shown i h) (bit right i) (bit left i) (alive_at left right some i) (newest_at at right first i)
        (shown.right_word.same i h) (shown.left_word.same i h) (stand i (omega arith)))

    not_later : newest_of (at 0) times ≤ at 0
    not_later = by (ltb 0 (length times)) refl
      where
        by : (x : Bool) → ltb 0 (length times) ≡ x → cond x (get_or times (length times - 1) 0) (at 0) ≤ at 0
        by true e =
            let h = ltb-true 0 (length times) e in
            let (j, v, t, near) = w.sound (length times - 1) (omega arith) in
            let l = v.before in
            let f = shown.falls j (g + 0) (omega arith) (omega arith) in
            omega (arith, shown.same 0 any)
        by false e = omega arith

    rises : Rises at n first
    rises = shown_rises shown (rw (begun_at times ring) not_later)

    word : Packed (λ i. bit alive i && in_reach 0 high at right first i) 0 n answers
    word = reached rises

    answer_is : (i : ℕ) → i < n → bit answers i ≡ alive_at left right some (suc i) && leb (time (g + i) - newest_at at right first (suc i)) high
    answer_is i h =
        let e : 0 + i ≡ i = omega arith in
        let few = word.few in
        sym (rw (e, le-leb 0 (at i - newest_at at right first (suc i)) (omega arith)) at (word.same i h))
        ∙ ap₂ (λ (x : Bool) (t : ℕ). x && leb (t - newest_at at right first (suc i)) high) (alive_is left right some alive filled i (omega arith)) (sym (shown.same i h))

    here : (i : ℕ) → i < n → Stand high time lefts rights (g + i + 1) (alive_at left right some (suc i)) (newest_at at right first (suc i))
    here i h = rw (next g i) at (stand (suc i) h)

    answered : (i : ℕ) → i < n → since_at 0 high time lefts rights (g + i) ≡ bit answers i
    answered i h = answers_since high time lefts rights (g + i) (falls_here shown i h) (time_small shown i h) (here i h) ∙ sym (answer_is i h)

    kept : Witnesses 0 high time lefts rights (g + n) (one last newest)
    kept =
        let e : suc (n - 1) ≡ n = omega arith in
        let s : g + (n - 1) + 1 ≡ g + n = omega arith in
        let t : newest ≡ newest_at at right first (suc (n - 1)) = is_newest ∙ ap (newest_at at right first) (sym e) in
        rw (t, is_last, ← s)
        (keeps high time lefts rights (g + (n - 1)) (falls_here shown (n - 1) (omega arith)) (time_small shown (n - 1) (omega arith)) (here (n - 1) (omega arith)) (bit answers (n - 1))
        (sym (answer_is (n - 1) (omega arith))))

  pub takes_low : Takes 0 high at left right n b answers d
  takes_low = record {
    others = rings.others;
    takes = λ time lefts rights g times shown ring w. (
      (one last newest, rings.ring times ring, kept shown ring w),
      record { few = (word shown ring w).few; same = answered shown ring w },
    );
  }
