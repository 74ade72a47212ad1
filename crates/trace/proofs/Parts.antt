-- PARTS: a part of a log's records, and its positions among the log's. Assumes nothing.
use Prim.Native.Nat.{ℕ, zero, suc, ◌+◌, ◌-◌, ◌*◌, ◌≤◌, ◌<◌}
use native.Mathlib.Omega.{arith}
use native.Mathlib.Nat.{add-zero}
use mathlib.Core.Bool.{Bool, true, false, cond}
use mathlib.Core.List.{List}
use mathlib.Core.Path.{◌≡◌, refl, sym, ap, ◌∙◌}
use lib.ListN.{get_or, take, length-take, length-drop}
use lib.Seq.{get_or-take, get_or-drop}
use Rattle.trace.specs.Format.{record_count, time_at, has_letter, from_record, SameRecord}
use Rattle.trace.specs.Positions.{is_service, passing, seek, spot, place, moved, positions, before}
use Rattle.trace.proofs.Laws.{Keeps, same_time, same_letter}
use Rattle.trace.proofs.Counting.{head_counts, head_finds, spot_seek}

-- PARTS OF A LOG'S RECORDS

-- the records s stand in u from record `first` on
pub record Part (u s : List ℕ) (first : ℕ) : Type 0 where
  pub inside : first + record_count s ≤ record_count u
  pub same : (i : ℕ) → i < record_count s → SameRecord s i u (first + i)

-- and are all from there on
pub record Cut (u s : List ℕ) (first : ℕ) : Type 0 where
  pub part : Part u s first
  pub whole : first + record_count s ≡ record_count u

-- a log's first bytes
pub prefix_part : (u : List ℕ) (n : ℕ) → Part u (take n u) 0
prefix_part u n =
    let short = length-take n u in
    record {
      inside = omega arith;
      same = λ i h b few. get_or-take n u (i * 8 + b) 0 (omega arith) ∙ ap (λ (k : ℕ). get_or u k 0) (omega arith);
    }

-- bytes that are the log's from record `first` on; those before it may be any
pub cut_from : (u r : List ℕ) (first : ℕ) → record_count r ≡ record_count u → first ≤ record_count u →
    ((k : ℕ) → first * 8 ≤ k → k < record_count u * 8 → get_or r k 0 ≡ get_or u k 0) → Cut u (from_record first r) first
cut_from u r first size fits bytes =
    let rest = length-drop (first * 8) r in
    record {
      part = record {
        inside = omega arith;
        same = λ i h b few.
            get_or-drop (first * 8) r (i * 8 + b) 0 ∙ bytes (first * 8 + (i * 8 + b)) (omega arith) (omega arith) ∙
            ap (λ (k : ℕ). get_or u k 0) (omega arith);
      };
      whole = omega arith;
    }

module _ (u s : List ℕ) (first : ℕ) (part : Part u s first) where
  pub time_part : (i : ℕ) → i < record_count s → time_at s i ≡ time_at u (first + i)
  time_part i h = same_time s u i (first + i) (part.same i h)

  pub letter_part : (k i : ℕ) → i < record_count s → has_letter s k i ≡ has_letter u k (first + i)
  letter_part k i h = same_letter s u k i (first + i) (part.same i h)

  pub keeps_part : Keeps u → Keeps s
  keeps_part keeps i j le h =
      let fits = part.inside in
      let kept = keeps (first + i) (first + j) (omega arith) (omega arith) in
      omega (arith, time_part i (omega arith), time_part j h)

  -- the positions of a part are counted behind those before it
  pub positions_part : (n : ℕ) → n ≤ record_count s → positions u (first + n) ≡ positions u first + positions s n
  unfolding positions
  positions_part zero h = ap (positions u) (add-zero first) ∙ sym (add-zero (positions u first))
  positions_part (suc n) h =
      let next : first + suc n ≡ suc (first + n) = omega arith in
      let here = letter_part 31 n h in
      let below = positions_part n (omega arith) in
      rw (next, here) (by (is_service u (first + n)) below)
    where
      by : (b : Bool) → positions u (first + n) ≡ positions u first + positions s n →
          cond b (positions u (first + n)) (suc (positions u (first + n))) ≡ positions u first + cond b (positions s n) (suc (positions s n))
      by true e = e
      by false e = omega arith

  pub before_part : (skips : Bool) (n : ℕ) → n ≤ record_count s → before skips u (first + n) ≡ before skips u first + before skips s n
  before_part true n h = positions_part n h
  before_part false n h = refl

-- THE REST OF A LOG'S RECORDS

module _ (u s : List ℕ) (first : ℕ) (cut : Cut u s first) where
  pub before_cut : (skips : Bool) → before skips u (record_count u) ≡ before skips u first + before skips s (record_count s)
  before_cut skips = ap (before skips u) (sym cut.whole) ∙ before_part u s first cut.part skips (record_count s) (omega arith)

  passing_cut : (n r : ℕ) → r + n ≤ record_count s → first + passing s n r ≡ passing u n (first + r)
  unfolding passing
  passing_cut zero r h = refl
  passing_cut (suc n) r h = by (passing_cut n (suc r) (omega arith)) (is_service u (first + r)) refl
    where
      by : first + passing s n (suc r) ≡ passing u n (first + suc r) → (b : Bool) → is_service u (first + r) ≡ b →
          first + cond (is_service s r) (passing s n (suc r)) r ≡ cond (is_service u (first + r)) (passing u n (suc (first + r))) (first + r)
      by rest true e =
          let here : first + suc r ≡ suc (first + r) = omega arith in
          rw (letter_part u s first cut.part 31 r (omega arith), e) (rest ∙ ap (passing u n) here)
      by rest false e = rw (letter_part u s first cut.part 31 r (omega arith), e) refl

  seek_cut : (r : ℕ) → r ≤ record_count s → first + seek s r ≡ seek u (first + r)
  seek_cut r h =
      let whole = cut.whole in
      passing_cut (record_count s - r) r (omega arith) ∙ ap (λ (n : ℕ). passing u n (first + r)) (omega arith)

  -- a head of the slice that has n of its positions before it finds the log's
  pub finds_cut : (n r : ℕ) → r ≤ record_count s → positions s r ≡ n → n ≤ positions s (record_count s) → first + seek s r ≡ spot u 0 (positions u first + n)
  finds_cut n r h e few =
      let whole = cut.whole in
      let all = before_cut true in
      seek_cut r h ∙
      head_finds u (positions u first + n) (first + r) (omega arith) (positions_part u s first cut.part r h ∙ ap (λ (k : ℕ). positions u first + k) e) (omega arith)

  -- the slice's n-th position is the log's, those before it counted
  pub place_cut : (skips : Bool) (n : ℕ) → n ≤ before skips s (record_count s) →
      place skips u 0 (before skips u first + n) ≡ first + place skips s 0 n
  place_cut true n h =
      let counts = head_counts s n h in
      sym (ap (λ (p : ℕ). first + p) (spot_seek s 0 n) ∙ finds_cut n (moved true s 0 n) counts.0 counts.1 h)
  place_cut false n h = omega arith
