-- An answer never changes when the log is lengthened, and logs of the same records have the same answers.
use Prim.Native.Nat.{ℕ, zero, suc, ◌+◌, ◌-◌, ◌≤◌, ◌<◌, min}
use mathlib.Core.Bool.{Bool}
use mathlib.Core.Bool.{not as negate}
use mathlib.Core.Logic.{inl, inr, ⊎_elim}
use mathlib.Core.Path.{◌≡◌, refl, sym, ◌∙◌, ap, ap₂}
use native.Mathlib.Nat.{le_of_eq}
use native.Mathlib.Omega.{arith}
use lib.Dec.{ltb}
use borrow.Author.Tests.{ltb-true}
use Rattle.mtl.specs.Formula.{Formula}
use Rattle.mtl.specs.Formula.Formula.{letter, not, or, previous, next, since, until}
use Rattle.mtl.specs.Log.{Log, Stream, NeverFalls, StreamNeverFalls, Agree, Continues, Begins}
use Rattle.mtl.specs.Satisfaction.{held_after, held_from, since_by, until_by, previous_at, next_at, since_at, until_at, sat}
use Rattle.mtl.specs.Progress.{settled, run, until_progress, progress}
use Rattle.mtl.proofs.Bounded.{true_or_false, same_test, any_congr, all_congr, run_le, run_holds, run_least, run_congr}
use Rattle.mtl.proofs.Until.{answered_operands, answered_fits, SettledYes, Ended, Settled, settled_iff, ended_settled, until_settled}
use Rattle.mtl.proofs.Streams.{stream_iff}

-- the stream that goes on from a log at its last time
abbrev steady : Log → Stream
steady L = record { time = λ i. L.time (min i (L.size - 1)); letters = L.letters }

steady_begins : (L : Log) → Begins (steady L) L
steady_begins L = record { time = λ i h. ap L.time (omega arith); letters = λ i h k. refl }

steady_falls : (L : Log) → NeverFalls L → StreamNeverFalls (steady L)
steady_falls L falls i j g = by L.size refl
  where
    by : (n : ℕ) → L.size ≡ n → L.time (min i (L.size - 1)) ≤ L.time (min j (L.size - 1))
    by zero e = le_of_eq (ap L.time (omega arith))
    by (suc n) e = falls (min i (L.size - 1)) (min j (L.size - 1)) (omega arith) (omega arith)

begins_shorter : (σ : Stream) (K L : Log) → Continues K L → Begins σ L → Begins σ K
begins_shorter σ K L longer begins =
    record {
      time = λ i h. begins.time i (le_longer i h) ∙ sym (longer.same i (omega arith) h).time;
      letters = λ i h k. begins.letters i (le_longer i h) k ∙ sym ((longer.same i (omega arith) h).letters k);
    }
  where
    le_longer : (i : ℕ) → i < K.size → i < L.size
    le_longer i h = let l = longer.longer in omega arith

-- both logs' verdicts are the stream's, where both answer
both_answer : (φ : Formula) (K L : Log) → Continues K L → NeverFalls L →
    (i : ℕ) → i < progress φ K → i < progress φ L → sat φ K i ≡ sat φ L i
both_answer φ K L longer falls i h l =
    let stream_falls = steady_falls L falls in
    let short = stream_iff φ (steady L) K stream_falls (begins_shorter (steady L) K L longer (steady_begins L)) i h in
    let long = stream_iff φ (steady L) L stream_falls (steady_begins L) i l in
    same_test (sat φ K i) (sat φ L i) (λ v. long.1 (short.0 v), λ v. short.1 (long.0 v))

-- what is settled stays settled
module _ (low high : ℕ) (time time' : ℕ → ℕ) (left right left' right' : ℕ → Bool) (size size' m m' : ℕ)
    (sizes : size ≤ size') (counts : m ≤ m') (fits : m ≤ size)
    (times : (k : ℕ) → k < size → time k ≡ time' k)
    (lefts : (k : ℕ) → k < m → left k ≡ left' k)
    (rights : (k : ℕ) → k < m → right k ≡ right' k) where
  met_longer : (i : ℕ) → SettledYes low high time left right size m i → SettledYes low high time' left' right' size' m' i
  met_longer i (j, b, (g, w, r, l)) =
      let gap = rw (times i (omega arith), times j (omega arith)) at w in
      (j, omega arith, (g, gap, sym (rights j b) ∙ r, λ k c d. sym (lefts k (omega arith)) ∙ l k c d))

  ended_longer : (i : ℕ) → i < m → Ended low high time left right size m i → Ended low high time' left' right' size' m' i
  ended_longer i h (inl (k, a, b, f)) = inl (k, a, omega arith, sym (lefts k b) ∙ f)
  ended_longer i h (inr (q, a, b, c, (late, ends))) =
      let e = times q c in
      let e' = times i (omega arith) in
      inr (q, a, omega arith, omega arith, (omega arith, ends))

  settled_longer : (i : ℕ) → i < m → Settled low high time left right size m i → Settled low high time' left' right' size' m' i
  settled_longer i h s =
      ⊎_elim
      (λ y. (settled_iff low high time' left' right' size' m' i).1 (inl (met_longer i y)))
      (λ n. ended_settled low high time' left' right' size' m' i (ended_longer i h n.1))
      ((settled_iff low high time left right size m i).0 s)

-- Each operator's test depends only on the operands and times at the positions that it looks at.

module _ (low high : ℕ) (time time' : ℕ → ℕ) where
  pub previous_at_congr : (operand operand' : ℕ → Bool) (i : ℕ) →
      ((k : ℕ) → k ≤ i → time k ≡ time' k) → ((k : ℕ) → k ≤ i → operand k ≡ operand' k) →
      previous_at low high time operand i ≡ previous_at low high time' operand' i
  previous_at_congr operand operand' i times operands = rw (times (i - 1) (omega arith), times i (omega arith), operands (i - 1) (omega arith))

  pub next_at_congr : (operand operand' : ℕ → Bool) (size i : ℕ) →
      ((k : ℕ) → k < size → time k ≡ time' k) → ((k : ℕ) → k < size → operand k ≡ operand' k) →
      next_at low high time operand size i ≡ next_at low high time' operand' size i
  next_at_congr operand operand' size i times operands =
      ⊎_elim
      (λ e. let h = ltb-true (i + 1) size e in rw (times i (omega arith), times (i + 1) h, operands (i + 1) h))
      (λ e. rw e)
      (true_or_false (ltb (i + 1) size))

  pub since_at_congr : (left right left' right' : ℕ → Bool) (i : ℕ) →
      ((k : ℕ) → k ≤ i → time k ≡ time' k) → ((k : ℕ) → k ≤ i → left k ≡ left' k) → ((k : ℕ) → k ≤ i → right k ≡ right' k) →
      since_at low high time left right i ≡ since_at low high time' left' right' i
  since_at_congr left right left' right' i times lefts rights =
      any_congr (suc i) (since_by low high time left right i) (since_by low high time' left' right' i)
      (λ j h.
      let held = all_congr (suc i) (held_after left j) (held_after left' j) (λ k g. rw (lefts k (omega arith))) in
      rw (times j (omega arith), times i (omega arith), rights j (omega arith), held))

  pub until_at_congr : (left right left' right' : ℕ → Bool) (size i : ℕ) → i < size →
      ((k : ℕ) → k < size → time k ≡ time' k) → ((k : ℕ) → k < size → left k ≡ left' k) → ((k : ℕ) → k < size → right k ≡ right' k) →
      until_at low high time left right size i ≡ until_at low high time' left' right' size i
  until_at_congr left right left' right' size i b times lefts rights =
      any_congr size (until_by low high time left right i) (until_by low high time' left' right' i)
      (λ j h.
      let held = all_congr j (held_from left i) (held_from left' i) (λ k g. rw (lefts k (omega arith))) in
      rw (times i b, times j h, rights j h, held))

  pub until_progress_congr : (left right left' right' : ℕ → Bool) (size m : ℕ) → m ≤ size →
      ((k : ℕ) → k < size → time k ≡ time' k) → ((k : ℕ) → k < m → left k ≡ left' k) → ((k : ℕ) → k < m → right k ≡ right' k) →
      until_progress low high time left right size m ≡ until_progress low high time' left' right' size m
  until_progress_congr left right left' right' size m fits times lefts rights =
      run_congr m (settled low high time left right size m) (settled low high time' left' right' size m)
      (λ i h. same_test _ _ (
        settled_longer low high time time' left right left' right' size size m m (omega arith) (omega arith) fits times lefts rights i h,
        settled_longer low high time' time left' right' left right size size m m (omega arith) (omega arith) fits
            (λ k g. sym (times k g)) (λ k g. sym (lefts k g)) (λ k g. sym (rights k g)) i h,
      ))

-- THEOREMS, of logs whose times never fall.

pub progress_grows : (φ : Formula) (K L : Log) → Continues K L → NeverFalls L → progress φ K ≤ progress φ L
unfolding progress
progress_grows (letter k) K L longer falls = longer.longer
progress_grows (not φ) K L longer falls = progress_grows φ K L longer falls
progress_grows (or φ ψ) K L longer falls =
    let a = progress_grows φ K L longer falls in
    let b = progress_grows ψ K L longer falls in
    omega arith
progress_grows (previous low high φ) K L longer falls =
    let a = progress_grows φ K L longer falls in
    let b = longer.longer in
    omega arith
progress_grows (next low high φ) K L longer falls = let a = progress_grows φ K L longer falls in omega arith
progress_grows (since low high φ ψ) K L longer falls =
    let a = progress_grows φ K L longer falls in
    let b = progress_grows ψ K L longer falls in
    omega arith
progress_grows (until low high φ ψ) K L longer falls =
    let a = progress_grows φ K L longer falls in
    let b = progress_grows ψ K L longer falls in
    let m = answered_operands φ ψ K in
    let m' = answered_operands φ ψ L in
    let short = until_settled low high φ ψ K in
    let r = run_le m short in
    run_least m' (until_settled low high φ ψ L) (run m short) (omega arith)
    (λ i h.
    settled_longer low high K.time L.time (sat φ K) (sat ψ K) (sat φ L) (sat ψ L) K.size L.size m m'
    longer.longer (omega arith) (answered_fits φ ψ K)
    (λ k g. (longer.same k (omega arith) g).time)
    (λ k g. both_answer φ K L longer falls k (omega arith) (omega arith))
    (λ k g. both_answer ψ K L longer falls k (omega arith) (omega arith))
    i (omega arith) (run_holds m short i h))

-- "of logs whose times never fall: an answer never changes when the log is lengthened"
pub answers_stay : (φ : Formula) (K L : Log) → Continues K L → NeverFalls L → (i : ℕ) → i < progress φ K → sat φ K i ≡ sat φ L i
answers_stay φ K L longer falls i h =
    let g = progress_grows φ K L longer falls in both_answer φ K L longer falls i h (omega arith)

-- THEOREMS, of all logs: the same records have the same answers.

pub same_sat : (φ : Formula) (K L : Log) → K.size ≡ L.size → Agree K L 0 K.size → (i : ℕ) → i < K.size → sat φ K i ≡ sat φ L i
unfolding sat
same_sat (letter k) K L sizes same i h = (same i (omega arith) h).letters k
same_sat (not φ) K L sizes same i h = ap negate (same_sat φ K L sizes same i h)
same_sat (or φ ψ) K L sizes same i h = rw (same_sat φ K L sizes same i h, same_sat ψ K L sizes same i h)
same_sat (previous low high φ) K L sizes same i h =
    previous_at_congr low high K.time L.time (sat φ K) (sat φ L) i
    (λ k g. (same k (omega arith) (omega arith)).time)
    (λ k g. same_sat φ K L sizes same k (omega arith))
same_sat (next low high φ) K L sizes same i h =
    next_at_congr low high K.time L.time (sat φ K) (sat φ L) K.size i
    (λ k g. (same k (omega arith) g).time)
    (λ k g. same_sat φ K L sizes same k g) ∙
    ap (λ n. next_at low high L.time (sat φ L) n i) sizes
same_sat (since low high φ ψ) K L sizes same i h =
    since_at_congr low high K.time L.time (sat φ K) (sat ψ K) (sat φ L) (sat ψ L) i
    (λ k g. (same k (omega arith) (omega arith)).time)
    (λ k g. same_sat φ K L sizes same k (omega arith))
    (λ k g. same_sat ψ K L sizes same k (omega arith))
same_sat (until low high φ ψ) K L sizes same i h =
    until_at_congr low high K.time L.time (sat φ K) (sat ψ K) (sat φ L) (sat ψ L) K.size i h
    (λ k g. (same k (omega arith) g).time)
    (λ k g. same_sat φ K L sizes same k g)
    (λ k g. same_sat ψ K L sizes same k g) ∙
    ap (λ n. until_at low high L.time (sat φ L) (sat ψ L) n i) sizes

pub same_progress : (φ : Formula) (K L : Log) → K.size ≡ L.size → Agree K L 0 K.size → progress φ K ≡ progress φ L
unfolding progress
same_progress (letter k) K L sizes same = sizes
same_progress (not φ) K L sizes same = same_progress φ K L sizes same
same_progress (or φ ψ) K L sizes same = ap₂ min (same_progress φ K L sizes same) (same_progress ψ K L sizes same)
same_progress (previous low high φ) K L sizes same = ap₂ min sizes (ap suc (same_progress φ K L sizes same))
same_progress (next low high φ) K L sizes same = ap (λ n. n - 1) (same_progress φ K L sizes same)
same_progress (since low high φ ψ) K L sizes same = ap₂ min (same_progress φ K L sizes same) (same_progress ψ K L sizes same)
same_progress (until low high φ ψ) K L sizes same =
    let fits = answered_fits φ ψ K in
    until_progress_congr low high K.time L.time (sat φ K) (sat ψ K) (sat φ L) (sat ψ L) K.size (answered_operands φ ψ K) fits
    (λ k g. (same k (omega arith) g).time)
    (λ k g. same_sat φ K L sizes same k (omega arith))
    (λ k g. same_sat ψ K L sizes same k (omega arith)) ∙
    ap₂ (until_progress low high L.time (sat φ L) (sat ψ L)) sizes
    (ap₂ min (same_progress φ K L sizes same) (same_progress ψ K L sizes same))
