-- until where the last position taken settles none of those that wait, however many they are: nothing before position e settles one, and
-- those that lie more than high before it are no.
use Prim.Native.Nat.{ℕ, ◌+◌, ◌-◌, ◌≤◌, ◌<◌, ◌^◌, min}
use native.Mathlib.Nat.{eq-or-lt_of_le}
use native.Mathlib.Omega.{arith}
use mathlib.Core.Bool.{true, false, ◌&&◌, ◌||◌}
use mathlib.Core.Bool.{not as negate}
use mathlib.Core.Logic.{inr, ⊎_elim}
use mathlib.Core.Path.{◌≡◌, sym, ◌∙◌, ap}
use lib.Bits.{bit_and}
use lib.Dec.{eqb, leb, ltb}
use borrow.Author.Tests.{lt-ltb, ltb-true, ltb-false, leb-true, eqb-true}
use Rattle.mtl.specs.Formula.{Formula, unbounded}
use Rattle.mtl.specs.Formula.Formula.{until}
use Rattle.mtl.specs.Log.{Log, NeverFalls}
use Rattle.mtl.proofs.Bounded.{Above, above_small, and_iff, true_and_false, le_or_lt}
use Rattle.bits.specs.Packed.{bit, FirstZero}
use Rattle.bits.proofs.Filling.{zero_bit}
use Rattle.blocks.specs.Block.{Buffer}
use Rattle.walks.specs.Settle.{take_spec, next_of, Met, Calm, ReadsTimes, Reached, Walk}
use Rattle.walks.specs.declared.Last.{Last}
use Rattle.walks.proofs.Logic.{neither}
use Rattle.walks.proofs.Log.{OnLog, Quiet, Told, on_log, waiting_rise, waits, stands, told_no, told_all, untaken}
use Rattle.walks.proofs.Words.{still, and_not, not_none, taken_at}

-- what the code finds: nothing before position e settles one that waits, the first `count` of these lie more than high before e, and the
-- next to answer, or one before it, does not lie more than high before the last one taken
pub record Over (high : ℕ) (start time : ℕ → ℕ) (lead n left right count took e : ℕ) : Type 0 where
  pub few : count ≤ 64
  pub waiting : count ≤ lead
  pub below : e < n
  pub still : (i : ℕ) → i < e → (bit left i ≡ true) × (bit right i ≡ false)
  pub over : 0 < count → start (count - 1) + high < time e
  pub taken : took ≤ e + 1
  pub near : 0 < took → (i : ℕ) × (i ≤ count) × (i < lead) × (i < 64) × (time (took - 1) ≤ start i + high)

-- on a log: the positions from g on wait, and n from `at` on may be taken
module _ {low high most : ℕ} {φ ψ : Formula} {L : Log} {g at lead n left right count took e : ℕ} {start next : ℕ → ℕ} {from : Last}
    (clamp : most ≡ min high unbounded) (behind : at ≡ g + lead) (falls : NeverFalls L) (reads : ReadsTimes start next L g at n)
    (lefts : Buffer φ L at n left) (rights : Buffer ψ L at n right) (begun : Reached low high φ ψ L g at 0 0 0 from)
    (quiet : (from.left ≡ true) × (from.right ≡ false)) (o : Over most start next lead n left right count took e) where
  log : OnLog φ ψ L g at n left right start next
  log = on_log reads lefts rights

  -- nothing before e settles those that wait
  still_to : (x : ℕ) → g ≤ x → Quiet low φ ψ L x (at + e)
  still_to x a k b c =
      let below = o.below in
      ⊎_elim
      (λ l.
      let q = o.still (k - at) (omega arith) in
      (log.left_at k l (omega arith) ∙ q.0, λ r. absurd (true_and_false (sym (log.right_at k l (omega arith)) ∙ r) q.1)))
      (λ l. waits behind falls log begun (λ h. (quiet.0, λ r. absurd (true_and_false r quiet.1))) x a k b l)
      (le_or_lt at k)

  -- the first `count` lie more than high before it
  far : (i : ℕ) → i < count → Above high (L.time (at + e) - L.time (g + i))
  far i h =
      let few = o.few in
      let waiting = o.waiting in
      let below = o.below in
      let over = o.over (omega arith) in
      let rise = waiting_rise behind falls log i (count - 1) (omega arith) (omega arith) (omega arith) in
      let small = reads.bound (at + e) (omega arith) (omega (arith, log.inside)) in
      above_small high (L.time (g + i)) (L.time (at + e)) (omega arith)
      (omega (arith, log.own_time e below, log.waiting_time i (omega arith) (omega arith)))

  told : (i : ℕ) → i < count → Told (until low high φ ψ) L (g + i) (bit 0 i)
  told i h =
      let waiting = o.waiting in
      let below = o.below in
      let x = far i h in
      rw (zero_bit i)
      (told_no low high φ ψ L falls (g + i) (at + e) (omega arith) (omega (arith, log.operands)) (inr x)
      (λ k a b r late soon.
      ⊎_elim
      (λ s. let t = ap L.time s in let y = x.0 in ⊎_elim (λ near. omega arith) x.1 soon)
      (λ l. let q = (still_to (g + i) (omega arith) k a l).1 r in omega arith)
      (eq-or-lt_of_le {n = k} {m = at + e} b)))

  reached_none : 0 < lead → Reached low high φ ψ L g at 0 count 0 from
  reached_none some = let waiting = o.waiting in untaken falls (omega (arith, log.operands)) begun count (omega arith) (omega arith) o.few told

  reached_some : 0 < took → Reached low high φ ψ L g at 0 count took (take_spec next (took - 1) left right)
  reached_some some =
      let waiting = o.waiting in
      let below = o.below in
      let taken = o.taken in
      let (i, before, waits, early, near) = o.near some in
      let s : at + took - 1 ≡ at + (took - 1) = omega arith in
      let t = ap L.time s in
      record {
        heads =
            stands log count took some (omega arith) (omega arith) (λ k a b. still_to (g + count) (omega arith) k a (omega arith))
            (λ l.
            let f = falls (g + i) (g + count) (omega arith) (omega (arith, log.inside)) in
            omega (arith, log.own_time (took - 1) (omega arith), log.waiting_time i early (omega arith)));
        answers = told_all count begun.answers o.few told;
      }

-- with another time behind the n positions
over_next : {high lead n left right count took e : ℕ} {start time : ℕ → ℕ} (after : ℕ) → Over high start time lead n left right count took e →
    Over high start (next_of time n after) lead n left right count took e
over_next {n = n} {took = took} {e = e} after o =
    let below = o.below in
    let taken = o.taken in
    record {
      few = o.few;
      waiting = o.waiting;
      below = below;
      still = o.still;
      over = rw (lt-ltb e n below) o.over;
      taken = taken;
      near = λ h. rw (lt-ltb (took - 1) n (omega arith)) (o.near h);
    }

-- the walk that the code makes of it
pub over_walk : {low high lead n left right count took e : ℕ} {start time : ℕ → ℕ} {from : Last} (after : ℕ) → 0 < lead →
    (from.left ≡ true) × (from.right ≡ false) → Over high start time lead n left right count took e → 0 < count + took → (last : Last) →
    (took ≡ 0 → last ≡ from) → (0 < took → (last ≡ take_spec time (took - 1) left right) × (last.time < 2 ^ 32)) →
    Walk low high start (next_of time n after) lead n left right from (record { bits = 0; count = count; took = took; last = last })
over_walk {n = n} {left = left} {right = right} {count = count} {took = took} {time = time} after some quiet o goes last none taken-last =
    let waiting = o.waiting in
    let below = o.below in
    let taken = o.taken in
    let o = over_next after o in
    record {
      limits =
          record {
            few = o.few;
            most = omega arith;
            behind = omega arith;
            bound = λ h. ⊎_elim (λ z. rw (none (omega arith)) h) (λ t. (taken-last t).1) (le_or_lt took 0);
          };
      waiting = λ z t. absurd (omega arith);
      walks = λ high φ ψ L g at clamp behind falls reads lefts rights begun.
          ⊎_elim
          (λ z. let t : took ≡ 0 = omega arith in rw (none t, t) (reached_none clamp behind falls reads lefts rights begun quiet o some))
          (λ t.
          rw ((taken-last t).0 ∙ taken_at time n after (took - 1) left right (omega arith))
          (reached_some clamp behind falls reads lefts rights begun quiet o t))
          (le_or_lt took 0);
    }

-- all n are taken, and none is answered
pub calm_over : {high lead n left right : ℕ} {start time : ℕ → ℕ} {from : Last} → Calm high start time lead n left right from →
    Over high start time lead n left right 0 n (n - 1)
calm_over c =
    let some = c.some in
    let inside = c.inside in
    record {
      few = omega arith;
      waiting = omega arith;
      below = omega arith;
      still = λ i h. c.still i (omega arith);
      over = λ h. absurd (omega arith);
      taken = omega arith;
      near = λ h. (0, omega arith, c.waiting, omega arith, omega arith);
    }

-- before the first event, as the code finds it, left holds and right does not
pub still_before : (left right n : ℕ) {event : ℕ} → n ≤ 64 → right < 2 ^ 64 → FirstZero (bit_and left (2 ^ 64 - 1 - right)) n event → (i : ℕ) → i < event →
    (bit left i ≡ true) × (bit right i ≡ false)
still_before left right n few small z i h =
    let most = z.most in
    still (bit left i) (bit right i) (sym (and_not left right i small (omega arith)) ∙ z.ones i h)

-- the tests of `is_calm`
pub many_some : (lead n : ℕ) → ltb lead 64 || eqb n 0 ≡ false → (64 ≤ lead) × (0 < n)
many_some lead n e =
    let (a, b) = neither (ltb lead 64) (eqb n 0) e in
    (ltb-false lead 64 a, not_none n b)

pub calms : (high lead n left right event gap : ℕ) (from : Last) (start time : ℕ → ℕ) → (64 ≤ lead) × (0 < n) → n ≤ 64 → right < 2 ^ 64 →
    FirstZero (bit_and left (2 ^ 64 - 1 - right)) n event → gap ≡ time (n - 1) - start 0 →
    ((from.left && negate from.right) && eqb event n) && leb gap high ≡ true → Calm high start time lead n left right from
calms high lead n left right event gap from start time (many, some) few small z is e =
    let (qa, c) = (and_iff ((from.left && negate from.right) && eqb event n) (leb gap high)).0 e in
    let (q, a) = (and_iff (from.left && negate from.right) (eqb event n)).0 qa in
    let all = eqb-true event n a in
    record {
      waiting = omega arith;
      some = some;
      quiet = still from.left from.right q;
      still = λ i h. still_before left right n few small z i (omega arith);
      inside = omega (arith, leb-true gap high c);
    }

-- the test of `walk_words` for `walk_over`
pub may_take : (high lead n : ℕ) → (ltb 0 lead && ltb 0 n) && leb high 4294967295 ≡ true → (high < 2 ^ 32) × (0 < lead) × (0 < n)
may_take high lead n e =
    let (ab, c) = (and_iff (ltb 0 lead && ltb 0 n) (leb high 4294967295)).0 e in
    let (a, b) = (and_iff (ltb 0 lead) (ltb 0 n)).0 ab in
    (omega (arith, leb-true high 4294967295 c), ltb-true 0 lead a, ltb-true 0 n b)

-- what `walk_over` takes: of the positions up to the first event, those that lie at most high after the last of the `most` that it may answer
pub record Ahead (high : ℕ) (start time : ℕ → ℕ) (lead n left right most event took : ℕ) : Type 0 where
  pub waiting : 0 < lead
  pub may : most ≡ min lead 64
  pub before : (i : ℕ) → i < event → (bit left i ≡ true) × (bit right i ≡ false)
  pub taken : Met 0 time (start (most - 1) + high) (min (event + 1) n) took

module _ {high lead n left right most event took : ℕ} {start time : ℕ → ℕ} (ahead : Ahead high start time lead n left right most event took) where
  -- the next one lies more than high after all of them
  pub passed : took ≤ event → took < n → Over high start time lead n left right most took took
  passed h l =
      let some = ahead.waiting in
      let past = ahead.taken.next (omega arith) in
      record {
        few = omega arith;
        waiting = omega arith;
        below = l;
        still = λ i b. ahead.before i (omega arith);
        over = λ p. omega arith;
        taken = omega arith;
        near = λ p. let f = ahead.taken.far (took - 1) (omega arith) in (most - 1, omega arith, omega arith, omega arith, omega arith);
      }

  -- the last one taken lies more than high after the first `count` of them
  pub stopped : 0 < took → {count : ℕ} → Met (high + 1) start (time (took - 1)) most count → Over high start time lead n left right count took (took - 1)
  stopped some {count} over =
      let all = ahead.taken.most in
      let fits = over.most in
      let near = ahead.taken.far (took - 1) (omega arith) in
      let fewer : count < most = ⊎_elim (λ l. let f = over.far (most - 1) (omega arith) in absurd (omega arith)) (λ l. l) (le_or_lt most count) in
      let next = over.next fewer in
      record {
        few = omega arith;
        waiting = omega arith;
        below = omega arith;
        still = λ i b. ahead.before i (omega arith);
        over = λ p. let f = over.far (count - 1) (omega arith) in omega arith;
        taken = omega arith;
        near = λ p. (count, omega arith, omega arith, omega arith, omega arith);
      }
