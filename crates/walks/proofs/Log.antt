-- until on a log by whole words: what the times and the words of a walk say of the log's positions, and the walk
-- that they make.
use Prim.Native.Nat.{ℕ, ◌+◌, ◌-◌, ◌≤◌, ◌<◌, ◌^◌, min}
use native.Mathlib.Nat.{add-zero}
use native.Mathlib.Omega.{arith}
use mathlib.Core.Bool.{Bool, true, false}
use mathlib.Core.Logic.{◌⊎◌, inl, inr, ⊎_elim}
use mathlib.Core.Path.{◌≡◌, sym, ◌∙◌, ap}
use Rattle.mtl.specs.Formula.{Formula}
use Rattle.mtl.specs.Formula.Formula.{until}
use Rattle.mtl.specs.Log.{Log, NeverFalls}
use Rattle.mtl.specs.Satisfaction.{sat}
use Rattle.mtl.specs.Reading.{AtMost}
use Rattle.mtl.specs.Progress.{settled_to}
use Rattle.mtl.proofs.Bounded.{Above, true_and_false, le_or_lt}
use Rattle.mtl.proofs.Closing.{both_settled, both_fit, MetBelow, UnmetBelow, until_settles, until_met, until_unmet}
use Rattle.bits.specs.Packed.{bit, number}
use Rattle.blocks.specs.Block.{Until, Buffer}
use Rattle.walks.specs.Settle.{take_spec, ReadsTimes, Reached, Walks, Walk}
use Rattle.walks.specs.declared.Last.{Last}
use Rattle.walks.proofs.Logic as logic
use Rattle.walks.proofs.Single.{is_number}

-- times never fall
pub record Rises (start time : ℕ → ℕ) (lead n : ℕ) : Type 0 where
  pub waiting : (i j : ℕ) → i ≤ j → j < lead → start i ≤ start j
  pub later : (i j : ℕ) → i < lead → j < n → start i ≤ time j
  pub own : (i j : ℕ) → i ≤ j → j < n → time i ≤ time j

-- the positions from g on wait, n from `at` on may be taken, and the log has both operands' answers at these
pub record OnLog (φ ψ : Formula) (L : Log) (g at n left right : ℕ) (start next : ℕ → ℕ) : Type 0 where
  pub operands : at + n ≤ both_settled φ ψ L
  pub inside : at + n ≤ L.size
  pub waiting_time : (i : ℕ) → i < 64 → g + i < at + n → start i ≡ L.time (g + i)
  pub own_time : (i : ℕ) → i < n → next i ≡ L.time (at + i)
  -- position k as one of those to take
  pub left_at : (k : ℕ) → at ≤ k → k < at + n → sat φ L k ≡ bit left (k - at)
  pub right_at : (k : ℕ) → at ≤ k → k < at + n → sat ψ L k ≡ bit right (k - at)
  pub time_at : (k : ℕ) → at ≤ k → k < at + n → next (k - at) ≡ L.time k

-- position g + i begins at time s and its words at j: before those to take, it has only such as wait
pub record Seen (L : Log) (g at i j s : ℕ) : Type 0 where
  pub reach : g + i ≤ at + j
  pub begins : s ≡ L.time (g + i)
  pub front : (k : ℕ) → g + i ≤ k → k < at + j → k < at

-- left holds from x on, and right not low after x
abbrev pub Quiet : (low : ℕ) (φ ψ : Formula) (L : Log) (x to : ℕ) → Type 0
Quiet low φ ψ L x to = (k : ℕ) → x ≤ k → k < to → (sat φ L k ≡ true) × (sat ψ L k ≡ true → L.time k - L.time x < low)

pub on_log : {φ ψ : Formula} {L : Log} {g at n left right : ℕ} {start next : ℕ → ℕ} → ReadsTimes start next L g at n → Buffer φ L at n left →
    Buffer ψ L at n right → OnLog φ ψ L g at n left right start next
on_log {φ} {ψ} {L} {at = at} {n = n} reads lefts rights =
    let x = lefts.within in
    let y = rights.within in
    let operands : at + n ≤ both_settled φ ψ L = omega arith in
    let inside : at + n ≤ L.size = omega (arith, both_fit φ ψ L) in
    let same : (k : ℕ) → at ≤ k → at + (k - at) ≡ k = λ k a. omega arith in
    record {
      operands = operands;
      inside = inside;
      waiting_time = reads.waiting;
      own_time = λ i h. reads.ahead i (omega arith) (omega arith);
      left_at = λ k a b. ap (sat φ L) (sym (same k a)) ∙ lefts.packed.same (k - at) (omega arith);
      right_at = λ k a b. ap (sat ψ L) (sym (same k a)) ∙ rights.packed.same (k - at) (omega arith);
      time_at = λ k a b. reads.ahead (k - at) (omega arith) (omega arith) ∙ ap L.time (same k a);
    }

module _ {φ ψ : Formula} {L : Log} {g at lead n left right : ℕ} {start next : ℕ → ℕ} (behind : at ≡ g + lead) where
  -- the times of those that wait never fall, up to the 64th
  pub waiting_rise : NeverFalls L → OnLog φ ψ L g at n left right start next → (i j : ℕ) → i ≤ j → j < lead → j < 64 → start i ≤ start j
  waiting_rise falls log i j h l few =
      let f = falls (g + i) (g + j) (omega arith) (omega (arith, log.inside)) in
      omega (arith, log.waiting_time i (omega arith) (omega arith), log.waiting_time j few (omega arith))

  pub log_rises : NeverFalls L → OnLog φ ψ L g at n left right start next → lead < 64 → Rises start next lead n
  log_rises falls log few =
      let inside = log.inside in
      record {
        waiting = λ i j h l. waiting_rise falls log i j h l (omega arith);
        later = λ i j h l.
            let f = falls (g + i) (at + j) (omega arith) (omega arith) in
            omega (arith, log.waiting_time i (omega arith) (omega arith), log.own_time j l);
        own = λ i j h l. let f = falls (at + i) (at + j) (omega arith) (omega arith) in omega (arith, log.own_time i (omega arith), log.own_time j l);
      }

  pub seen_waiting : OnLog φ ψ L g at n left right start next → (i : ℕ) → i < lead → i < 64 → Seen L g at i 0 (start i)
  seen_waiting log i h few = record { reach = omega arith; begins = log.waiting_time i few (omega arith); front = λ k a b. omega arith }

  pub seen_own : OnLog φ ψ L g at n left right start next → (i : ℕ) → lead ≤ i → i < lead + n → Seen L g at i (i - lead) (next (i - lead))
  seen_own log i l h =
      let e : at + (i - lead) ≡ g + i = omega arith in
      record { reach = omega arith; begins = log.own_time (i - lead) (omega arith) ∙ ap L.time e; front = λ k a b. absurd (omega arith) }

  -- left holds at those that wait, and right not low after any of them
  pub waits : {low high : ℕ} {from : Last} → NeverFalls L → OnLog φ ψ L g at n left right start next → Reached low high φ ψ L g at 0 0 0 from →
      (0 < lead → (from.left ≡ true) × (from.right ≡ true → from.time - L.time g < low)) → (x : ℕ) → g ≤ x → Quiet low φ ψ L x at
  waits {low} {high} {from} falls log begun quiet x a k b c =
      let begins : Until low high L.time (sat φ L) (sat ψ L) g at (number from.left) (number from.right) from.time =
      rw (add-zero g, add-zero at) at begun.heads in
      let q = quiet (omega arith) in
      let f = falls g x a (omega (arith, log.inside)) in
      ⊎_elim
      (λ l. (begins.left_held k (omega arith) (omega arith), λ r. let t = begins.right_early k (omega arith) (omega arith) r in omega arith))
      (λ l.
      let e : k ≡ at - 1 = omega arith in (
        ap (sat φ L) e ∙ begins.last_left (omega arith) ∙ is_number from.left ∙ q.0,
        λ r.
            let early = q.1 (sym (is_number from.right) ∙ sym (begins.last_right (omega arith)) ∙ ap (sat ψ L) (sym e) ∙ r) in
            let t = begins.last_time (omega arith) in
            let u = ap L.time e in
            omega arith,
      ))
      (le_or_lt (k + 2) at)

-- what holds where positions wait, and at those to take from j on, holds from g + i on
pub all_from : (P : ℕ → Type 0) {L : Log} {g at i j s : ℕ} → Seen L g at i j s → ((k : ℕ) → g + i ≤ k → k < at → P k) → (e : ℕ) →
    ((m : ℕ) → j ≤ m → m < e → P (at + m)) → (k : ℕ) → g + i ≤ k → k < at + e → P k
all_from P {at = at} {j = j} seen waiting e own k a b =
    ⊎_elim
    (λ l. let t : at + (k - at) ≡ k = omega arith in rw t at (own (k - at) (omega arith) (omega arith)))
    (λ l. waiting k a (seen.front k a l))
    (le_or_lt (at + j) k)

-- nothing taken before the last one settles the positions from g + count on
pub stands : {low high : ℕ} {φ ψ : Formula} {L : Log} {g at n left right : ℕ} {start next : ℕ → ℕ} → OnLog φ ψ L g at n left right start next →
    (count took : ℕ) → 0 < took → took ≤ n → g + count ≤ at + took → Quiet low φ ψ L (g + count) (at + took - 1) → (g + count < at + took → L.time (at + took - 1) - L.time (g + count) ≤ high) →
    Until low high L.time (sat φ L) (sat ψ L) (g + count) (at + took) (number (bit left (took - 1))) (number (bit right (took - 1))) (next (took - 1))
stands {at = at} {left = left} {right = right} {next = next} log count took some few ahead quiet near =
    let e : at + took - 1 - at ≡ took - 1 = omega arith in
    record {
      ahead = ahead;
      last_left = λ h. log.left_at (at + took - 1) (omega arith) (omega arith) ∙ ap (bit left) e ∙ sym (is_number _);
      last_right = λ h. log.right_at (at + took - 1) (omega arith) (omega arith) ∙ ap (bit right) e ∙ sym (is_number _);
      last_time = λ h. ap next (sym e) ∙ log.time_at (at + took - 1) (omega arith) (omega arith);
      left_held = λ k a b. (quiet k a (omega arith)).0;
      right_early = λ k a b r. (quiet k a (omega arith)).1 r;
      not_over = near;
    }

-- the answer at x is settled, and is v
abbrev pub Told : Formula → Log → ℕ → Bool → Type 0
Told χ L x v = (x < settled_to χ L) × (sat χ L x ≡ v)

-- the words of a position x settle it at e
module _ (low high : ℕ) (φ ψ : Formula) (L : Log) (falls : NeverFalls L) (x e : ℕ) (from : x ≤ e) (below : e < both_settled φ ψ L) where
  pub told_yes : ((k : ℕ) → x ≤ k → k < e → sat φ L k ≡ true) → sat ψ L e ≡ true → low ≤ L.time e - L.time x → L.time e - L.time x ≤ high →
      Told (until low high φ ψ) L x true
  told_yes held holds far near =
      let met : MetBelow low high φ ψ L falls x = (e, below, (from, (far, inl near), holds, held)) in
      (until_settles low high φ ψ L falls x (omega arith) (inl met), until_met low high φ ψ L falls x (omega arith) met)

  pub told_no : (sat φ L e ≡ false) ⊎ Above high (L.time e - L.time x) →
      ((k : ℕ) → x ≤ k → k ≤ e → sat ψ L k ≡ true → low ≤ L.time k - L.time x → AtMost high (L.time k - L.time x) → ⊥) → Told (until low high φ ψ) L x false
  told_no ends missed =
      let none : MetBelow low high φ ψ L falls x → ⊥ =
      λ y.
      let (j, l, (m, v, holds, held)) = y in
      ⊎_elim
      (λ le. missed j m le holds v.0 v.1)
      (λ lt.
      ⊎_elim
      (λ fails. true_and_false (held e from lt) fails)
      (λ o. let f = falls e j (omega arith) (omega (arith, both_fit φ ψ L)) in let late = o.0 in ⊎_elim (λ near. omega arith) o.1 v.1)
      ends)
      (le_or_lt j e) in
      let unmet : UnmetBelow low high φ ψ L falls x =
      (none, ⊎_elim (λ fails. inl (e, from, below, fails)) (λ o. inr (e, from, omega arith, omega (arith, both_fit φ ψ L), o)) ends) in
      (until_settles low high φ ψ L falls x (omega arith) (inr unmet), until_unmet low high φ ψ L falls x (omega arith) unmet)

-- all bits of a word are answers
pub told_all : {χ : Formula} {L : Log} {g bits : ℕ} (count : ℕ) → Buffer χ L g 0 0 → count ≤ 64 → ((i : ℕ) → i < count → Told χ L (g + i) (bit bits i)) →
    Buffer χ L g count bits
told_all {g = g} count begun few told =
    record {
      within = ⊎_elim (λ z. let w = begun.within in omega arith) (λ s. let t = (told (count - 1) (omega arith)).0 in omega arith) (le_or_lt count 0);
      packed = record { few = few; same = λ i h. (told i h).1 };
    }

-- none is taken, and the first `count` of those that wait are told
pub untaken : {low high : ℕ} {φ ψ : Formula} {L : Log} {g at bits : ℕ} {from : Last} → NeverFalls L → at ≤ both_settled φ ψ L →
    Reached low high φ ψ L g at 0 0 0 from → (count : ℕ) → g < at → g + count ≤ at → count ≤ 64 →
    ((i : ℕ) → i < count → Told (until low high φ ψ) L (g + i) (bit bits i)) → Reached low high φ ψ L g at bits count 0 from
untaken {φ = φ} {ψ = ψ} {L = L} {g = g} falls operands begun count some waiting few told =
    record {
      heads = logic.answered_later (both_fit φ ψ L) falls (omega arith) begun.heads (omega arith) (g + count) (omega arith) (omega arith);
      answers = told_all count begun.answers few told;
    }

-- the walk that the code makes where words tell `settled` positions: it takes all n, or those before the 65th position
pub word_walk : {low high lead n left right bits : ℕ} {start next : ℕ → ℕ} {from : Last} (settled count took : ℕ) → 0 < n → lead < 64 → settled ≤ lead + n →
    count ≡ min settled 64 → (settled ≤ 64 → took ≡ n) × (64 < settled → took ≡ 64 - lead) → (last : Last) → last ≡ take_spec next (took - 1) left right →
    last.time < 2 ^ 32 → (settled ≤ 64 → Walks low high start next lead n left right from bits settled n (take_spec next (n - 1) left right)) →
    (64 < settled → Walks low high start next lead n left right from bits 64 (64 - lead) (take_spec next (64 - lead - 1) left right)) →
    Walk low high start next lead n left right from (record { bits = bits; count = count; took = took; last = last })
word_walk {lead = lead} {n = n} settled count took some few all e t last is bound reached_all reached_full =
    ⊎_elim
    (λ full.
    let c : count ≡ 64 = omega arith in
    let u = t.1 full in
    record {
      limits = record { few = omega arith; most = omega arith; behind = omega arith; bound = λ h. bound };
      waiting = λ z t. absurd (omega arith);
      walks = rw (is, c, u) (reached_full full);
    })
    (λ less.
    let c : count ≡ settled = omega arith in
    let u = t.0 (omega arith) in
    record {
      limits = record { few = omega arith; most = omega arith; behind = omega arith; bound = λ h. bound };
      waiting = λ z t. absurd (omega arith);
      walks = rw (is, c, u) (reached_all (omega arith));
    })
    (le_or_lt 65 settled)

-- how many are taken, where `known` of them are told
pub takes_few : (lead known n took : ℕ) → lead < 64 → 0 < n → known ≤ n → (lead + known ≤ 64 → took ≡ n) × (64 < lead + known → took ≡ 64 - lead) →
    (1 ≤ took) × (took ≤ n)
takes_few lead known n took few some most t =
    ⊎_elim (λ full. let u = t.1 full in (omega arith, omega arith)) (λ all. let u = t.0 (omega arith) in (omega arith, omega arith)) (le_or_lt 65 (lead + known))
