-- until with low 0 by whole words, where those to take reach further than high: a position is yes where its first right lies within high.
use Prim.Native.Nat.{ℕ, zero, suc, ◌+◌, ◌-◌, ◌≤◌, ◌<◌, ◌^◌, min, max}
use native.Mathlib.Nat.{zero-add, lt_of_lt_of_le}
use native.Mathlib.Omega.{arith}
use mathlib.Core.Bool.{Bool, true, false, cond, ◌&&◌, ◌||◌}
use mathlib.Core.Bool.{not as negate}
use mathlib.Core.Logic.{◌⊎◌, inl, inr, ⊎_elim}
use mathlib.Core.Path.{◌≡◌, refl, sym, ◌∙◌, ap}
use lib.Bits.{bit_and}
use lib.Dec.{eqb, leb, ltb}
use lib.Pow.{pow_mono}
use borrow.Author.Tests.{leb-true, leb-false, le-leb, lt-leb, ltb-true, lt-ltb, ne_eqb}
use Rattle.mtl.specs.Formula.{Formula, unbounded}
use Rattle.mtl.specs.Formula.Formula.{until}
use Rattle.mtl.specs.Log.{Log, NeverFalls}
use Rattle.mtl.specs.Satisfaction.{sat}
use Rattle.mtl.proofs.Bounded.{and_iff, true_and_false, le_or_lt}
use Rattle.bits.specs.Packed.{bit, Packed, FilledDown, Prolonged}
use Rattle.bits.proofs.Laws.{bit_of_and, bit_not, packed_same}
use Rattle.bits.proofs.Filling.{no_bit}
use Rattle.blocks.specs.Block.{Buffer}
use Rattle.walks.specs.Settle.{take_spec, next_of, Rising, first_right, is_soon, Met, Far, ReadsTimes, Reached, Walk, Outreaches}
use Rattle.walks.specs.declared.Last.{Last}
use Rattle.walks.proofs.Log.{
  Rises,
  OnLog,
  Seen,
  Quiet,
  Told,
  on_log,
  log_rises,
  seen_waiting,
  seen_own,
  waits,
  stands,
  all_from,
  told_yes,
  told_no,
  told_all,
  word_walk,
}
use Rattle.walks.proofs.Words.{Known, still}
use Rattle.walks.proofs.FirstRight.{Event, event_from}

-- the first right, by its definition
module _ (time : ℕ → ℕ) (right : ℕ) where
  pub first_of_none : (i : ℕ) → first_right time right 0 i ≡ 8589934592
  unfolding first_right
  first_of_none i = refl

  pub first_of_more : (n i : ℕ) → first_right time right (suc n) i ≡ cond (bit right i) (time i) (first_right time right n (suc i))
  unfolding first_right
  first_of_more n i = refl

  -- there is none among d positions
  first_none : (d i : ℕ) → ((j : ℕ) → i ≤ j → j < i + d → bit right j ≡ false) → first_right time right d i ≡ 8589934592
  first_none zero i none = first_of_none i
  first_none (suc d) i none =
      first_of_more d i
      ∙ ap (λ (x : Bool). cond x (time i) (first_right time right d (suc i))) (none i (omega arith) (omega arith))
      ∙ first_none d (suc i) (λ j a b. none j (omega arith) (omega arith))

  -- it is k positions on
  first_at : (k d i : ℕ) → k < d → ((j : ℕ) → i ≤ j → j < i + k → bit right j ≡ false) → bit right (i + k) ≡ true → first_right time right d i ≡ time (i + k)
  first_at k zero i h none holds = absurd (omega arith)
  first_at zero (suc d) i h none holds =
      let e : i + 0 ≡ i = omega arith in
      first_of_more d i ∙ ap (λ (x : Bool). cond x (time i) (first_right time right d (suc i))) (ap (bit right) (sym e) ∙ holds) ∙ ap time (sym e)
  first_at (suc k) (suc d) i h none holds =
      let e : suc i + k ≡ i + suc k = omega arith in
      first_of_more d i
      ∙ ap (λ (x : Bool). cond x (time i) (first_right time right d (suc i))) (none i (omega arith) (omega arith))
      ∙ first_at k d (suc i) (omega arith) (λ j a b. none j (omega arith) (omega arith)) (ap (bit right) e ∙ holds)
      ∙ ap time e

-- what the words tell of a position that begins at time s, by those from i on: ..
module _ (high : ℕ) (time : ℕ → ℕ) (left right n i s : ℕ) where
  -- .. right holds at e, at most high after it, and left up to there
  pub record Yes (e : ℕ) : Type 0 where
    pub from : i ≤ e
    pub below : e < n
    pub holds : bit right e ≡ true
    pub soon : time e ≤ s + high
    pub held : (j : ℕ) → i ≤ j → j < e → bit left j ≡ true

  -- .. left fails at e or e lies more than high after it, and right does not hold that soon up to there
  pub record No (e : ℕ) : Type 0 where
    pub from : i ≤ e
    pub below : e < n
    pub ends : (bit left e ≡ false) ⊎ (s + high < time e)
    pub over : (j : ℕ) → i ≤ j → j ≤ e → bit right j ≡ true → s + high < time j

  abbrev pub Verdict : Bool → Type 0
  Verdict true = (e : ℕ) × Yes e
  Verdict false = (e : ℕ) × No e

module _ (high : ℕ) (time : ℕ → ℕ) (own : ℕ) {left right n event far : ℕ} (k : Known left right n event) (filled : FilledDown left right own)
    (f : Far high time n far) (rising : Rising time n) where
  -- by the first event
  by_event : (i s e : ℕ) → Event k own filled i e → (r : Bool) → bit right e ≡ r → s + high < 8589934592 →
      Verdict high time left right n i s (bit own i && leb (first_right time right (n - i) i) (s + high))
  by_event i s e v true holds small =
      let from = v.from in
      let below = v.below in
      let most = k.most in
      let to : i + (e - i) ≡ e = omega arith in
      let is : first_right time right (n - i) i ≡ time e =
      first_at time right (e - i) (n - i) i (omega arith) (λ j a b. v.early j a (omega arith)) (ap (bit right) to ∙ holds) ∙ ap time to in
      rw (v.same ∙ holds, is) (by (leb (time e) (s + high)) refl)
    where
      by : (x : Bool) → leb (time e) (s + high) ≡ x → Verdict high time left right n i s x
      by true q =
          let below = v.below in
          let most = k.most in
          (e, record { from = v.from; below = omega arith; holds = holds; soon = leb-true (time e) (s + high) q; held = v.held })
      by false q =
          let below = v.below in
          let most = k.most in
          let late = leb-false (time e) (s + high) q in (
            e,
            record {
              from = v.from;
              below = omega arith;
              ends = inr late;
              over = λ j a b r.
                  ⊎_elim
                  (λ l. absurd (true_and_false r (v.early j a l)))
                  (λ l. let t : j ≡ e = omega arith in let u = ap time t in omega arith)
                  (le_or_lt (suc j) e);
            },
          )
  by_event i s e v false fails small =
      let below = v.below in
      let most = k.most in
      rw (v.same ∙ fails) (
        e,
        record {
          from = v.from;
          below = omega arith;
          ends = inl (v.ends fails);
          over = λ j a b r.
              absurd
              (⊎_elim
              (λ l. true_and_false r (v.early j a l))
              (λ l. let t : j ≡ e = omega arith in true_and_false r (ap (bit right) t ∙ fails))
              (le_or_lt (suc j) e));
        },
      )

  -- no event, and more than high before the last
  by_reach : (i s : ℕ) → event ≤ i → i < far → s ≤ time i → s + high < 8589934592 →
      Verdict high time left right n i s (bit own i && leb (first_right time right (n - i) i) (s + high))
  by_reach i s h l before small =
      let below = f.below in
      let to : i + (n - i) ≡ n = omega arith in
      let is = first_none time right (n - i) i (λ j a b. (k.behind j (omega arith) (omega arith)).1) in
      let late : leb (first_right time right (n - i) i) (s + high) ≡ false = lt-leb (first_right time right (n - i) i) (s + high) (omega arith) in
      let r = rising i (far - 1) (omega arith) (omega arith) in
      let o = f.over (omega arith) in
      rw (late, off (bit own i)) (
        n - 1,
        record {
          from = omega arith;
          below = omega arith;
          ends = inr (omega arith);
          over = λ j a b r. absurd (true_and_false r (k.behind j (omega arith) (omega arith)).1);
        },
      )
    where
      off : (x : Bool) → x && false ≡ false
      off true = refl
      off false = refl

  pub verdict : (i s : ℕ) → (i < event) ⊎ (i < far) → s ≤ time i → s + high < 8589934592 →
      Verdict high time left right n i s (bit own i && leb (first_right time right (n - i) i) (s + high))
  verdict i s h before small =
      ⊎_elim
      (λ l. by_reach i s l (⊎_elim (λ x. absurd (omega arith)) (λ x. x) h) before small)
      (λ l. let (e, v) = event_from k own filled i l in by_event i s e v (bit right e) refl small)
      (le_or_lt event i)

-- a word of answers: all that wait and the first `known` to take are told, and the others wait
pub record Reaches (high : ℕ) (start time : ℕ → ℕ) (lead n left right bits known : ℕ) : Type 0 where
  pub most : known ≤ n
  pub some : 0 < known
  pub waiting : (i : ℕ) → i < lead → Verdict high time left right n 0 (start i) (bit bits i)
  pub own : (i : ℕ) → lead ≤ i → i < lead + known → i < 64 → Verdict high time left right n (i - lead) (time (i - lead)) (bit bits i)
  pub rest : (j : ℕ) → known ≤ j → j < n → (bit left j ≡ true) × (bit right j ≡ false) × (time (n - 1) ≤ time j + high)

-- times never fall, and have 32 bits
pub record Times (start time : ℕ → ℕ) (lead n : ℕ) : Type 0 where
  pub rises : Rises start time lead n
  pub few_waiting : (i : ℕ) → i < lead → start i < 2 ^ 32
  pub few_own : (i : ℕ) → i < n → time i < 2 ^ 32

-- the words of the code: `soon` has those whose first right lies within high, and `over` of those that wait lie more than high before it
module _ (high : ℕ) (time : ℕ → ℕ) (own : ℕ) {left right n event far soon : ℕ} (small : high < 2 ^ 32) (k : Known left right n event)
    (filled : FilledDown left right own) (f : Far high time n far) (near : Packed (is_soon high time right n) 0 n soon) where
  -- all that wait have the first right of all
  module _ {start : ℕ → ℕ} {lead over : ℕ} (a b : ℕ) (m : Met (high + 1) start (first_right time right n 0) lead over) (t : Times start time lead n)
      (few : lead < 64) (alike : (i : ℕ) → i < lead → bit a i ≡ bit own 0) (fits : b < 2 ^ over) (ones : (i : ℕ) → i < over → bit b i ≡ true) where
    front_is : (i : ℕ) → i < lead → bit (bit_and a (2 ^ 64 - 1 - b)) i ≡ bit own 0 && leb (first_right time right n 0) (start i + high)
    front_is i h =
        let most = m.most in
        let fewer : over ≤ 64 = omega arith in
        let big : b < 2 ^ 64 = lt_of_lt_of_le fits (pow_mono fewer) in
        bit_of_and a (2 ^ 64 - 1 - b) i
        ∙ ap (λ (x : Bool). x && bit (2 ^ 64 - 1 - b) i) (alike i h)
        ∙ ap (λ (x : Bool). bit own 0 && x)
        (bit_not 64 b i big (omega arith)
        ∙ ⊎_elim
        (λ l.
        let r = t.rises.waiting over i l h in
        let e = m.next (omega arith) in
        ap negate (no_bit over b i fits l) ∙ sym (le-leb (first_right time right n 0) (start i + high) (omega arith)))
        (λ l. let e = m.far i l in ap negate (ones i l) ∙ sym (lt-leb (first_right time right n 0) (start i + high) (omega arith)))
        (le_or_lt over i))

    pub far_words : {known bits : ℕ} → ((known ≡ far) × (event ≤ far)) ⊎ ((known ≡ event) × (far ≤ event)) → 0 < known →
        Prolonged (bit_and own soon) (bit_and a (2 ^ 64 - 1 - b)) lead bits → Reaches high start time lead n left right bits known
    far_words {known} {bits} is some long =
        let below = f.below in
        let most = k.most in
        let whole : n - 0 ≡ n = omega arith in
        let which : (i : ℕ) → i < known → (i < event) ⊎ (i < far) = λ i h. ⊎_elim (λ q. inr (omega arith)) (λ q. inl (omega arith)) is in
        let fitted : known ≤ n = ⊎_elim (λ q. omega arith) (λ q. omega arith) is in
        let past : (event ≤ known) × (far ≤ known) = ⊎_elim (λ q. (omega arith, omega arith)) (λ q. (omega arith, omega arith)) is in
        record {
          most = fitted;
          some = some;
          waiting = λ i h.
              let s = t.few_waiting i h in
              rw (long.front_bits i h ∙ front_is i h)
              (rw whole at (verdict high time own k filled f t.rises.own 0 (start i) (which 0 some) (t.rises.later i 0 h (omega arith)) (omega arith)));
          own = λ i l h g.
              let s = t.few_own (i - lead) (omega arith) in
              rw (long.own i l g ∙ bit_of_and own soon (i - lead) ∙ ap (λ (x : Bool). bit own (i - lead) && x) (sym (near.same (i - lead) (omega arith)) ∙ ap (is_soon high time right n) (zero-add (i - lead))))
              (verdict high time own k filled f t.rises.own (i - lead) (time (i - lead)) (which (i - lead) (omega arith)) (omega arith) (omega arith));
          rest = λ j h l. let q = k.behind j (omega arith) l in (q.0, q.1, f.near j (omega arith) l);
        }

-- with another time behind the n positions
module _ (high : ℕ) (time : ℕ → ℕ) (right n after : ℕ) where
  abbrev next : ℕ → ℕ
  next = next_of time n after

  first_next : (d i : ℕ) → i + d ≤ n → first_right next right d i ≡ first_right time right d i
  unfolding first_right
  first_next zero i h = refl
  first_next (suc d) i h = rw (first_next d (suc i) (omega arith), lt-ltb i n (omega arith)) refl

  pub soon_next : {soon : ℕ} → Packed (is_soon high time right n) 0 n soon → Packed (is_soon high next right n) 0 n soon
  soon_next {soon} near =
      packed_same (is_soon high time right n) (is_soon high next right n) 0 0 n soon
      (λ i h. rw (first_next (n - (0 + i)) (0 + i) (omega arith), lt-ltb (0 + i) n (omega arith)) refl)
      near

  pub over_next : {low : ℕ} {start : ℕ → ℕ} {t lead over : ℕ} → t ≡ first_right time right n 0 → Met low start t lead over →
      Met low start (first_right next right n 0) lead over
  over_next e m = rw (e ∙ sym (first_next n 0 (omega arith))) at m

  pub far_next : {far : ℕ} → Far high time n far → Far high next n far
  far_next {far} f =
      let below = f.below in
      record {
        below = f.below;
        over = λ h. rw (lt-ltb (far - 1) n (omega arith), lt-ltb (n - 1) n (omega arith)) (f.over h);
        near = λ i h l. rw (lt-ltb i n l, lt-ltb (n - 1) n (omega arith)) (f.near i h l);
      }

  pub reach_next : {lead : ℕ} {from : Last} → Outreaches high time lead n from → Outreaches high next lead n from
  reach_next r =
      let some = r.some in
      record { some = some; few = r.few; small = r.small; quiet = r.quiet; longer = rw (lt-ltb (n - 1) n (omega arith), lt-ltb 0 n some) r.longer }

-- on a log: the positions from g on wait, and n from `at` on may be taken
module _ {high most : ℕ} {φ ψ : Formula} {L : Log} {g at lead n left right : ℕ} {start next : ℕ → ℕ} {from : Last}
    (clamp : most ≡ min high unbounded) (behind : at ≡ g + lead) (falls : NeverFalls L) (reads : ReadsTimes start next L g at n)
    (lefts : Buffer φ L at n left) (rights : Buffer ψ L at n right) (begun : Reached 0 high φ ψ L g at 0 0 0 from)
    (far : Outreaches most next lead n from) where
  ends_at : most ≡ high
  ends_at = let small = far.small in omega arith

  log : OnLog φ ψ L g at n left right start next
  log = on_log reads lefts rights

  times : Times start next lead n
  times = record {
    rises = log_rises behind falls log far.few;
    few_waiting = λ i h.
        let few = far.few in
        omega (arith, log.waiting_time i (omega arith) (omega arith), reads.bound (g + i) (omega arith) (omega (arith, log.inside)));
    few_own = λ i h. omega (arith, log.own_time i h, reads.bound (at + i) (omega arith) (omega (arith, log.inside)));
  }

  -- what was taken settles none of those that wait
  waits_from : (x : ℕ) → g ≤ x → Quiet 0 φ ψ L x at
  waits_from = waits behind falls log begun (λ h. let q = far.quiet h in (q.0, λ r. absurd (true_and_false r q.1)))

  -- what the words tell of a position
  heard : {i j s : ℕ} → Seen L g at i j s → (v : Bool) → Verdict most next left right n j s v → Told (until 0 high φ ψ) L (g + i) v
  heard {i} {j} {s} seen true (e, y) =
      let reach = seen.reach in
      let begins = seen.begins in
      let from = y.from in
      let below = y.below in
      let soon = y.soon in
      told_yes 0 high φ ψ L falls (g + i) (at + e) (omega arith) (omega (arith, log.operands))
      (all_from (λ k. sat φ L k ≡ true) seen (λ k a b. (waits_from (g + i) (omega arith) k a b).0) e (λ m a b. lefts.packed.same m (omega arith) ∙ y.held m a b))
      (rights.packed.same e below ∙ y.holds)
      (omega arith)
      (omega (arith, ends_at, log.own_time e below))
  heard {i} {j} {s} seen false (e, z) =
      let reach = seen.reach in
      let begins = seen.begins in
      let from = z.from in
      let below = z.below in
      let small = far.small in
      let over =
      all_from (λ k. sat ψ L k ≡ true → L.time (g + i) + most < L.time k) seen (λ k a b r. let t = (waits_from (g + i) (omega arith) k a b).1 r in absurd (omega arith)) (e + 1)
      (λ m a b r.
      let t = z.over m a (omega arith) (sym (rights.packed.same m (omega arith)) ∙ r) in
      omega (arith, log.own_time m (omega arith))) in
      told_no 0 high φ ψ L falls (g + i) (at + e) (omega arith) (omega (arith, log.operands))
      (⊎_elim
      (λ fails. inl (lefts.packed.same e below ∙ fails))
      (λ o. inr (omega (arith, ends_at, log.own_time e below), λ u. omega (arith, ends_at)))
      z.ends)
      (λ k a b r late soon.
      let t = over k a (omega arith) r in
      ⊎_elim (λ l. omega (arith, ends_at)) (λ u. omega (arith, ends_at)) soon)

  module _ {bits known : ℕ} (words : Reaches most start next lead n left right bits known) where
    answer : (i : ℕ) → i < lead + known → i < 64 → Told (until 0 high φ ψ) L (g + i) (bit bits i)
    answer i h few =
        let fits = words.most in
        ⊎_elim
        (λ l. heard (seen_own behind log i l (omega arith)) (bit bits i) (words.own i l h few))
        (λ l. heard (seen_waiting behind log i l few) (bit bits i) (words.waiting i l))
        (le_or_lt lead i)

    answers : (count : ℕ) → count ≤ lead + known → count ≤ 64 → Buffer (until 0 high φ ψ) L g count bits
    answers count fits few =
        told_all count begun.answers few (λ i h. answer i (omega arith) (omega arith))

    -- those that are not told
    rest : Quiet 0 φ ψ L (g + (lead + known)) (at + n)
    rest k a b =
        let q = words.rest (k - at) (omega arith) (omega arith) in
        (log.left_at k (omega arith) b ∙ q.0, λ r. absurd (true_and_false (sym (log.right_at k (omega arith) b) ∙ r) q.1))

    near : g + (lead + known) < at + n → L.time (at + n - 1) - L.time (g + (lead + known)) ≤ high
    near h =
        let t = (words.rest known (omega arith) (omega arith)).2 in
        let e : at + n - 1 ≡ at + (n - 1) = omega arith in
        let f : at + known ≡ g + (lead + known) = omega arith in
        let a = log.own_time known (omega arith) ∙ ap L.time f in
        let b = log.own_time (n - 1) (omega arith) ∙ ap L.time (sym e) in
        omega (arith, ends_at)

    reached_all : lead + known ≤ 64 → Reached 0 high φ ψ L g at bits (lead + known) n (take_spec next (n - 1) left right)
    reached_all h =
        let fits = words.most in
        record {
          heads = stands log (lead + known) n far.some (omega arith) (omega arith) (λ k a b. rest k a (omega arith)) near;
          answers = answers (lead + known) (omega arith) h;
        }

    reached_full : 64 < lead + known → Reached 0 high φ ψ L g at bits 64 (64 - lead) (take_spec next (64 - lead - 1) left right)
    reached_full h =
        let few = far.few in
        let fits = words.most in
        record {
          heads = stands log 64 (64 - lead) (omega arith) (omega arith) (omega arith) (λ k a b. absurd (omega arith)) (λ l. absurd (omega arith));
          answers = answers 64 (omega arith) (omega arith);
        }

-- the walk that the code makes of it
pub far_walk : {high lead n left right bits known : ℕ} {start next : ℕ → ℕ} {from : Last} → Outreaches high next lead n from → 0 < known → known ≤ n →
    (Times start next lead n → Reaches high start next lead n left right bits known) → (count took : ℕ) → count ≡ min (lead + known) 64 →
    (lead + known ≤ 64 → took ≡ n) × (64 < lead + known → took ≡ 64 - lead) → (last : Last) → last ≡ take_spec next (took - 1) left right → last.time < 2 ^ 32 →
    Walk 0 high start next lead n left right from (record { bits = bits; count = count; took = took; last = last })
far_walk {lead = lead} {known = known} far some most words count took e t last is bound =
    word_walk (lead + known) count took far.some far.few (omega arith) e t last is bound
    (λ h high φ ψ L g at clamp behind falls reads a b begun.
    reached_all clamp behind falls reads a b begun far (words (times clamp behind falls reads a b begun far)) h)
    (λ h high φ ψ L g at clamp behind falls reads a b begun.
    reached_full clamp behind falls reads a b begun far (words (times clamp behind falls reads a b begun far)) h)

-- how many are told
pub which_known : (event far known : ℕ) → known ≡ max event far → ((known ≡ far) × (event ≤ far)) ⊎ ((known ≡ event) × (far ≤ event))
which_known event far known e = ⊎_elim (λ l. inl (omega arith, l)) (λ l. inr (omega arith, omega arith)) (le_or_lt event far)

-- the tests of `outreaches`
pub reaches : (high lead n gap : ℕ) (from : Last) (time : ℕ → ℕ) → (0 < n) × (lead < 64) → gap ≡ time (n - 1) - time 0 → time (n - 1) < 4294967296 →
    (eqb lead 0 || (from.left && negate from.right)) && ltb high gap ≡ true → Outreaches high time lead n from
reaches high lead n gap from time (some, few) is small e =
    let (q, c) = (and_iff (eqb lead 0 || (from.left && negate from.right)) (ltb high gap)).0 e in
    let longer = ltb-true high gap c in
    record {
      some = some;
      few = few;
      small = omega arith;
      quiet = λ h. still from.left from.right (rw (ne_eqb lead 0 (omega arith)) at q);
      longer = omega arith;
    }
