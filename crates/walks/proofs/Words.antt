-- until by whole words, where no position to take lies more than high after the first that waits: what the words tell of a position is what
-- it is on the log.
use Prim.Native.Nat.{ℕ, ◌+◌, ◌-◌, ◌≤◌, ◌<◌, ◌^◌, min}
use native.Mathlib.Nat.{add-zero}
use native.Mathlib.Omega.{arith}
use mathlib.Core.Bool.{Bool, true, false, ◌&&◌, ◌||◌, true≢false}
use mathlib.Core.Bool.{not as negate}
use mathlib.Core.Logic.{inl, ⊎_elim}
use mathlib.Core.Path.{◌≡◌, refl, sym, ◌∙◌, ap}
use lib.Bits.{bit_and}
use lib.Dec.{eqb, leb, ltb}
use borrow.Author.Tests.{lt-ltb, leb-true, leb-false, ltb-false, eq-eqb, ne_eqb}
use Rattle.mtl.specs.Formula.{Formula, unbounded}
use Rattle.mtl.specs.Formula.Formula.{until}
use Rattle.mtl.specs.Log.{Log, NeverFalls}
use Rattle.mtl.specs.Satisfaction.{sat}
use Rattle.mtl.proofs.Bounded.{and_iff, true_and_false, le_or_lt}
use Rattle.bits.specs.Packed.{bit, last_zero}
use Rattle.bits.proofs.Laws.{bit_of_and, bit_not}
use Rattle.bits.proofs.Zeros.{last_is_zero, one_behind_last}
use Rattle.blocks.specs.Block.{Buffer}
use Rattle.walks.specs.Settle.{take_spec, next_of, ReadsTimes, Reached, Walk, ByWords}
use Rattle.walks.specs.declared.Last.{Last}
use Rattle.walks.proofs.Logic.{neither}
use Rattle.walks.proofs.Log.{
  Rises,
  OnLog,
  Seen,
  Quiet,
  Told,
  on_log,
  log_rises,
  seen_waiting,
  seen_own,
  waits,
  stands,
  all_from,
  told_yes,
  told_no,
  told_all,
  word_walk,
}

-- left holds and right does not
pub still : (l r : Bool) → l && negate r ≡ true → (l ≡ true) × (r ≡ false)
still true false e = (refl, refl)
still true true e = absurd (true≢false (sym e))
still false r e = absurd (true≢false (sym e))

-- bit by bit, a word without another's bits
pub and_not : (left found i : ℕ) → found < 2 ^ 64 → i < 64 → bit (bit_and left (2 ^ 64 - 1 - found)) i ≡ bit left i && negate (bit found i)
and_not left found i small h =
    bit_of_and left (2 ^ 64 - 1 - found) i ∙ ap (λ (x : Bool). bit left i && x) (bit_not 64 found i small h)

-- the place behind the last event of a word: a yes is found at `known` - 1 or left fails there, and behind it left holds and none is found
module _ (left found n known : ℕ) where
  pub record Known : Type 0 where
    pub most : known ≤ n
    pub few : n ≤ 64
    pub last : 0 < known → bit left (known - 1) && negate (bit found (known - 1)) ≡ false
    pub behind : (i : ℕ) → known ≤ i → i < n → (bit left i ≡ true) × (bit found i ≡ false)

-- the place behind the last event, as the code finds it
pub known_is : (left found n : ℕ) → n ≤ 64 → found < 2 ^ 64 → {known : ℕ} → (known ≡ last_zero n (bit_and left (2 ^ 64 - 1 - found))) × (known ≤ n) →
    Known left found n known
known_is left found n few small {known} (e, most) =
    let w = bit_and left (2 ^ 64 - 1 - found) in
    record {
      most = most;
      few = few;
      last = λ h. sym (and_not left found (known - 1) small (omega arith)) ∙ ap (λ (k : ℕ). bit w (k - 1)) e ∙ last_is_zero n w (omega arith);
      behind = λ i h l. still (bit left i) (bit found i) (sym (and_not left found i small (omega arith)) ∙ one_behind_last n w i (omega arith) l);
    }

-- what the words tell of a position that begins at time s, by those from i on: ..
module _ (low : ℕ) (time : ℕ → ℕ) (left right n i s : ℕ) where
  -- .. right holds at e, at least low after it, and left up to there
  pub record Yes (e : ℕ) : Type 0 where
    pub from : i ≤ e
    pub below : e < n
    pub holds : bit right e ≡ true
    pub far : low ≤ time e - s
    pub held : (j : ℕ) → i ≤ j → j < e → bit left j ≡ true

  -- .. left fails at e, and right does not hold that late up to there
  pub record No (e : ℕ) : Type 0 where
    pub from : i ≤ e
    pub below : e < n
    pub fails : bit left e ≡ false
    pub early : (j : ℕ) → i ≤ j → j ≤ e → bit right j ≡ true → time j - s < low

  abbrev pub Verdict : Bool → Type 0
  Verdict true = (e : ℕ) × Yes e
  Verdict false = (e : ℕ) × No e

  -- .. nothing yet
  abbrev pub Unsettled : Type 0
  Unsettled = (j : ℕ) → i ≤ j → j < n → (bit left j ≡ true) × (bit right j ≡ true → time j - s < low)

-- a word of answers: the first `settled` positions are told, and the next is not settled; `lead` of them wait, the others are to be taken
pub record Settles (low : ℕ) (start time : ℕ → ℕ) (lead n left right bits settled : ℕ) : Type 0 where
  pub waiting : (i : ℕ) → i < lead → i < settled → Verdict low time left right n 0 (start i) (bit bits i)
  pub own : (i : ℕ) → lead ≤ i → i < settled → i < 64 → Verdict low time left right n (i - lead) (time (i - lead)) (bit bits i)
  pub next_waits : settled < lead → Unsettled low time left right n 0 (start settled)
  pub next_own : lead ≤ settled → Unsettled low time left right n (settled - lead) (time (settled - lead))

-- on a log: the positions from g on wait, n from `at` on may be taken, and all of them lie within high
module _ {low high most : ℕ} {φ ψ : Formula} {L : Log} {g at lead n left right : ℕ} {start next : ℕ → ℕ} {from : Last}
    (clamp : most ≡ min high unbounded) (behind : at ≡ g + lead) (falls : NeverFalls L) (reads : ReadsTimes start next L g at n)
    (lefts : Buffer φ L at n left) (rights : Buffer ψ L at n right) (begun : Reached low high φ ψ L g at 0 0 0 from)
    (by : ByWords low most start next lead n from) where
  log : OnLog φ ψ L g at n left right start next
  log = on_log reads lefts rights

  first_time : start 0 ≡ L.time g
  first_time = let some = by.some in reads.waiting 0 (omega arith) (omega arith) ∙ ap L.time (add-zero g)

  rises : Rises start next lead n
  rises = log_rises behind falls log by.few

  near : (x q : ℕ) → g ≤ x → x ≤ q → q < at + n → L.time q - L.time x ≤ high
  near x q a b c =
      let s = first_time in
      let t = log.own_time (n - 1) (omega arith) in
      let f = falls q (at + (n - 1)) (omega arith) (omega (arith, log.inside)) in
      let e = falls g x a (omega (arith, log.inside)) in
      let i = by.inside in
      omega arith

  -- what was taken settles none of those that wait
  waits_from : (x : ℕ) → g ≤ x → Quiet low φ ψ L x at
  waits_from =
      waits behind falls log begun
      (λ h.
      let q = by.quiet h in
      (q.0, λ r. let early = rw r at q.1 in omega (arith, leb-false low (from.time - start 0) early, first_time)))

  -- what the words tell of a position
  heard : {i j s : ℕ} → Seen L g at i j s → (v : Bool) → Verdict low next left right n j s v → Told (until low high φ ψ) L (g + i) v
  heard {i} {j} {s} seen true (e, y) =
      let reach = seen.reach in
      let begins = seen.begins in
      let from = y.from in
      let below = y.below in
      let far = y.far in
      told_yes low high φ ψ L falls (g + i) (at + e) (omega arith) (omega (arith, log.operands))
      (all_from (λ k. sat φ L k ≡ true) seen (λ k a b. (waits_from (g + i) (omega arith) k a b).0) e
      (λ m a b. lefts.packed.same m (omega arith) ∙ y.held m a b))
      (rights.packed.same e below ∙ y.holds)
      (omega (arith, log.own_time e below))
      (near (g + i) (at + e) (omega arith) (omega arith) (omega arith))
  heard {i} {j} {s} seen false (e, z) =
      let reach = seen.reach in
      let begins = seen.begins in
      let from = z.from in
      let below = z.below in
      let early =
      all_from (λ k. sat ψ L k ≡ true → L.time k - L.time (g + i) < low) seen (λ k a b. (waits_from (g + i) (omega arith) k a b).1) (e + 1)
      (λ m a b r.
      let t = z.early m a (omega arith) (sym (rights.packed.same m (omega arith)) ∙ r) in
      omega (arith, log.own_time m (omega arith))) in
      told_no low high φ ψ L falls (g + i) (at + e) (omega arith) (omega (arith, log.operands))
      (inl (lefts.packed.same e below ∙ z.fails))
      (λ k a b r far soon. let t = early k a (omega arith) r in omega arith)

  module _ {bits settled : ℕ} (all : settled ≤ lead + n) (words : Settles low start next lead n left right bits settled) where
    answer : (i : ℕ) → i < settled → i < 64 → Told (until low high φ ψ) L (g + i) (bit bits i)
    answer i h few =
        ⊎_elim
        (λ l. heard (seen_own behind log i l (omega arith)) (bit bits i) (words.own i l h few))
        (λ l. heard (seen_waiting behind log i l few) (bit bits i) (words.waiting i l h))
        (le_or_lt lead i)

    answers : (count : ℕ) → count ≤ settled → count ≤ 64 → Buffer (until low high φ ψ) L g count bits
    answers count most few =
        told_all count begun.answers few (λ i h. answer i (omega arith) (omega arith))

    -- behind those that are told
    rest : Quiet low φ ψ L (g + settled) (at + n)
    rest k a b =
        ⊎_elim
        (λ l.
        let t = log.time_at k l b in
        ⊎_elim
        (λ m.
        let w = words.next_own m (k - at) (omega arith) (omega arith) in
        let e : at + (settled - lead) ≡ g + settled = omega arith in
        let s = log.own_time (settled - lead) (omega arith) ∙ ap L.time e in
        (log.left_at k l b ∙ w.0, λ r. let x = w.1 (sym (log.right_at k l b) ∙ r) in omega arith))
        (λ m.
        let w = words.next_waits m (k - at) (omega arith) (omega arith) in
        let few = by.few in
        let s = log.waiting_time settled (omega arith) (omega arith) in
        (log.left_at k l b ∙ w.0, λ r. let x = w.1 (sym (log.right_at k l b) ∙ r) in omega arith))
        (le_or_lt lead settled))
        (λ l. waits_from (g + settled) (omega arith) k a l)
        (le_or_lt at k)

    reached_all : settled ≤ 64 → Reached low high φ ψ L g at bits settled n (take_spec next (n - 1) left right)
    reached_all h =
        record {
          heads = stands log settled n by.some (omega arith) (omega arith) (λ k a b. rest k a (omega arith)) (λ l. near (g + settled) (at + n - 1) (omega arith) (omega arith) (omega arith));
          answers = answers settled (omega arith) h;
        }

    reached_full : 64 < settled → Reached low high φ ψ L g at bits 64 (64 - lead) (take_spec next (64 - lead - 1) left right)
    reached_full h =
        let few = by.few in
        record {
          heads = stands log 64 (64 - lead) (omega arith) (omega arith) (omega arith) (λ k a b. absurd (omega arith)) (λ l. absurd (omega arith));
          answers = answers 64 (omega arith) (omega arith);
        }

-- the walk that the code makes of it
pub settled_walk : {low high lead n left right bits settled : ℕ} {start next : ℕ → ℕ} {from : Last} → ByWords low high start next lead n from →
    settled ≤ lead + n → (Rises start next lead n → Settles low start next lead n left right bits settled) → (count took : ℕ) → count ≡ min settled 64 →
    (settled ≤ 64 → took ≡ n) × (64 < settled → took ≡ 64 - lead) → (last : Last) → last ≡ take_spec next (took - 1) left right → last.time < 2 ^ 32 →
    Walk low high start next lead n left right from (record { bits = bits; count = count; took = took; last = last })
settled_walk {settled = settled} by all words count took e t last is bound =
    word_walk settled count took by.some by.few all e t last is bound
    (λ h high φ ψ L g at clamp behind falls reads a b begun.
    reached_all clamp behind falls reads a b begun by all (words (rises clamp behind falls reads a b begun by)) h)
    (λ h high φ ψ L g at clamp behind falls reads a b begun.
    reached_full clamp behind falls reads a b begun by all (words (rises clamp behind falls reads a b begun by)) h)

-- the tests of `by_words` and of `outreaches`
pub not_none : (n : ℕ) → eqb n 0 ≡ false → 0 < n
not_none n e = ⊎_elim (λ z. absurd (true_and_false (eq-eqb n 0 (omega arith)) e)) (λ z. z) (le_or_lt n 0)

pub some_few : (n lead : ℕ) → eqb n 0 || leb 64 lead ≡ false → (0 < n) × (lead < 64)
some_few n lead e =
    let (a, b) = neither (eqb n 0) (leb 64 lead) e in
    (not_none n a, leb-false 64 lead b)

pub may_go : (n lead low : ℕ) → (eqb n 0 || leb 64 lead) || ltb 4294967295 low ≡ false → (0 < n) × (lead < 64) × (low < 2 ^ 32)
may_go n lead low e =
    let (ab, c) = neither (eqb n 0 || leb 64 lead) (ltb 4294967295 low) e in
    let (some, few) = some_few n lead ab in
    (some, few, omega (arith, ltb-false 4294967295 low c))

pub goes : (low high lead n since gap : ℕ) (from : Last) (start time : ℕ → ℕ) → (0 < n) × (lead < 64) × (low < 2 ^ 32) → since ≡ from.time - start 0 →
    gap ≡ time (n - 1) - start 0 → (eqb lead 0 || (from.left && negate (from.right && leb low since))) && leb gap high ≡ true →
    ByWords low high start time lead n from
goes low high lead n since gap from start time (some, few, small) s f e =
    let (q, c) = (and_iff (eqb lead 0 || (from.left && negate (from.right && leb low since))) (leb gap high)).0 e in
    record {
      some = some;
      few = few;
      small = small;
      quiet = λ h. rw s at (still from.left (from.right && leb low since) (rw (ne_eqb lead 0 (omega arith)) at q));
      inside = omega (arith, leb-true gap high c);
    }

-- the times of those that are taken, with another behind them
pub by_next : {low high lead n : ℕ} {from : Last} {start time : ℕ → ℕ} (after : ℕ) → ByWords low high start time lead n from →
    ByWords low high start (next_of time n after) lead n from
by_next {n = n} after by =
    let some = by.some in
    record { some = by.some; few = by.few; small = by.small; quiet = by.quiet; inside = rw (lt-ltb (n - 1) n (omega arith)) by.inside }

pub taken_at : (time : ℕ → ℕ) (n after i left right : ℕ) → i < n → take_spec time i left right ≡ take_spec (next_of time n after) i left right
taken_at time n after i left right h = rw (lt-ltb i n h) refl
