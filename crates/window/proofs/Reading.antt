-- READING ON: where the slice shows positions of a log, a window opened from the head of the first of them has their records, and the
-- head behind it is the log's. Assumes nothing.
use Prim.Native.Nat.{ℕ, zero, suc, ◌+◌, ◌≤◌, ◌<◌}
use native.Mathlib.Omega.{arith}
use native.Mathlib.Nat.{add-zero}
use mathlib.Core.Bool.{Bool, true, false}
use mathlib.Core.List.{List}
use mathlib.Core.Logic.{⊎_elim}
use mathlib.Core.Path.{◌≡◌, refl, sym, ap, ◌∙◌}
use lib.ListN.{get_or}
use borrow.Author.Tests.{lt-ltb, le-ltb}
use Rattle.mtl.specs.Log.{Log, head_of}
use Rattle.mtl.specs.Wanted.{wanted_record}
use Rattle.mtl.proofs.Bounded.{le_or_lt}
use Rattle.trace.specs.Format.{record_count, time_at, has_letter}
use Rattle.trace.specs.Positions.{spot, place, moved, before, Inside}
use Rattle.window.specs.View.{in_slice, Shows}
use Rattle.window.specs.Window.{window_of, letter_at, Opened}
use Rattle.window.specs.declared.KeptCopy.{KeptCopy}
use Rattle.window.specs.declared.Window.{Window}
use Rattle.trace.proofs.Laws.{time_bound, same_time}
use Rattle.trace.proofs.Positions.{place_last}

-- a position that is shown has a record's time
pub shown_time_bound : {skips : Bool} {s : List ℕ} {first : ℕ} {L : Log} {i : ℕ} → ((k : ℕ) → get_or s k 0 < 256) → Shows skips s first L i → L.time i < 4294967296
shown_time_bound {skips} {s} {first} {L} {i} byte shows = rw (← shows.time) (time_bound s byte (place skips s (in_slice first (head_of L i)) 0))

-- the next position stands behind the one before
place_after : (skips : Bool) (s : List ℕ) (r i : ℕ) → place skips s r (suc i) ≡ place skips s (suc (place skips s r i)) 0
unfolding spot
place_after true s r i = refl
place_after false s r i = omega arith

-- n positions from position g on, all of them shown
module _ (skips : Bool) (s : List ℕ) (first : ℕ) (L : Log) (g n : ℕ) (shows : (i : ℕ) → g ≤ i → i < g + n → Shows skips s first L i) where
  abbrev from : ℕ
  from = in_slice first (head_of L g)

  abbrev at : ℕ → ℕ
  at i = place skips s (in_slice first (head_of L (g + i))) 0

  shown : (i : ℕ) → i < n → Shows skips s first L (g + i)
  shown i h = shows (g + i) (omega arith) (omega arith)

  next_head : (i : ℕ) → i < n → head_of L (g + suc i) ≡ first + suc (at i)
  unfolding head_of
  next_head i h =
      let next : g + suc i ≡ suc (g + i) = omega arith in
      let here = (shown i h).place in
      rw next (omega arith)

  -- the i-th of them is found where its own head finds it
  read_on : (i : ℕ) → i < n → place skips s from i ≡ at i
  read_on zero h = ap (λ (q : ℕ). place skips s (in_slice first (head_of L q)) 0) (sym (add-zero g))
  read_on (suc i) h =
      let next = next_head i (omega arith) in
      let behind : in_slice first (head_of L (g + suc i)) ≡ suc (at i) = omega arith in
      place_after skips s from i ∙ ap (λ (q : ℕ). place skips s (suc q) 0) (read_on i (omega arith)) ∙
      ap (λ (q : ℕ). place skips s q 0) (sym behind)

  pub shown_inside : Inside skips s from n
  shown_inside i h = rw (read_on i h) (shown i h).inside

  -- the head behind some of them
  pub head_behind : (m : ℕ) → 0 < m → m ≤ n → first + moved skips s from m ≡ head_of L (g + m)
  unfolding moved
  head_behind zero some h = absurd (omega arith)
  head_behind (suc m) some h = let here = read_on m h in let next = next_head m h in omega arith

  -- its time is the log's
  pub shown_time : (i : ℕ) → i < n → time_at s (place skips s from i) ≡ L.time (g + i)
  shown_time i h = ap (time_at s) (read_on i h) ∙ (shown i h).time

  -- and so is its letter
  pub shown_letter : (k i : ℕ) → i < n → letter_at skips s k from i ≡ L.letters (g + i) k
  shown_letter k i h = ap (has_letter s k) (read_on i h) ∙ (shown i h).letters k

  -- record i of the window is position g + i
  module _ (w : Window) (copy : KeptCopy) (opened : Opened skips s from n w copy) where
    pub window_time : (i : ℕ) → i < n → time_at (window_of w s copy) i ≡ L.time (g + i)
    window_time i h =
        same_time (window_of w s copy) s i (place skips s from i) (opened.shows shown_inside i h) ∙ shown_time i h

-- all that is left of the log is shown: where n more of its positions are passed, the first record wanted is the slice's
pub wanted_shown : (skips : Bool) (s : List ℕ) (first : ℕ) (L : Log) (q : ℕ) → head_of L q ≤ first → q + before skips s (record_count s) ≡ L.size →
    ((i : ℕ) → q ≤ i → i < L.size → Shows skips s first L i) →
    (n : ℕ) → q + n ≤ L.size → wanted_record L (first + record_count s) (q + n) ≡ first + place skips s 0 n
wanted_shown skips s first L q starts size shows n h =
    ⊎_elim
    (λ l.
    let all : before skips s (record_count s) ≡ n = omega arith in
    rw (le-ltb (q + n) L.size l) (ap (λ (p : ℕ). first + p) (sym (rw all at (place_last skips s)))))
    (λ l.
    let from : in_slice first (head_of L q) ≡ 0 = omega arith in
    let here = read_on skips s first L q (suc n) (λ i low high. shows i low (omega arith)) n (omega arith) in
    let low : q ≤ q + n = omega arith in
    let stands = (shows (q + n) low l).place in
    rw (lt-ltb (q + n) L.size l) (stands ∙ ap (λ (p : ℕ). first + p) (sym (rw from at here))))
    (le_or_lt L.size (q + n))
