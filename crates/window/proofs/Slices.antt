-- SLICES: what is handed over of a log's records shows every position from the first wanted on. Assumes nothing.
use Prim.Native.Nat.{ℕ, zero, suc, ◌+◌, ◌-◌, ◌≤◌, ◌<◌}
use native.Mathlib.Omega.{arith}
use native.Mathlib.Nat.{add-zero}
use mathlib.Core.Bool.{Bool, true, false}
use mathlib.Core.List.{List}
use mathlib.Core.Logic.{◌⊎◌, inl, inr, ⊎_elim}
use mathlib.Core.Path.{◌≡◌, refl, sym, ap, ◌∙◌}
use lib.Dec.{eqb}
use borrow.Author.Tests.{le-ltb, ltb-false}
use Rattle.mtl.specs.Log.{Log, head_of, closing}
use Rattle.mtl.proofs.Bounded.{le_or_lt, true_or_false}
use Rattle.bits.specs.Packed.{number}
use Rattle.trace.specs.Format.{record_count, time_at, has_letter}
use Rattle.trace.specs.Positions.{is_service, seek, spot, place, moved, positions, before}
use Rattle.trace.specs.Log.{log_of}
use Rattle.window.specs.View.{in_slice, served, Shows}
use Rattle.trace.proofs.Parts.{Cut, time_part, letter_part, positions_part, before_cut, finds_cut}
use Rattle.trace.proofs.Counting.{count_few, count_most, count_grows, count_service, seek_high, seek_same, head_counts, spot_last}
use Rattle.trace.proofs.Positions.{seek_past, seek_position, spot_plain, head_moved, head_closing}

-- where a head of position i stands in the slice, i being wanted
module _ (u s : List ℕ) (first : ℕ) (cut : Cut u s first) (i : ℕ) (from : positions u first ≤ i) (below : i < positions u (record_count u)) where
  abbrev r : ℕ
  r = in_slice first (moved true u 0 i)

  stands : (r ≤ record_count s) × (positions s r ≡ i - positions u first)
  stands =
      let h = moved true u 0 i in
      let counts = head_counts u i (omega arith) in
      let whole = cut.whole in
      let inside : r ≤ record_count s = omega (arith, counts.0) in
      let sum = positions_part u s first cut.part r inside in
      ⊎_elim
      (λ l. let e : first + r ≡ h = omega arith in (inside, omega (arith, counts.1, ap (positions u) e)))
      (λ l. let e : first + r ≡ first = omega arith in (inside, omega (arith, counts.1, ap (positions u) e, count_grows u h first (omega arith))))
      (le_or_lt first h)

  found : (first + seek s r ≡ spot u 0 i) × (seek s r < record_count s)
  found =
      let all = before_cut u s first cut true in
      let here = finds_cut u s first cut (i - positions u first) r stands.0 stands.1 (omega arith) in
      let number : positions u first + (i - positions u first) ≡ i = omega arith in
      (here ∙ ap (spot u 0) number, inside_last)
    where
      inside_last : seek s r < record_count s
      inside_last =
          let all = before_cut u s first cut true in
          ⊎_elim
          (λ l. let e : seek s r ≡ record_count s = omega (arith, seek_high s r stands.0) in
          absurd (omega (arith, seek_same s r stands.0, stands.1, ap (positions s) e)))
          (λ l. l)
          (le_or_lt (record_count s) (seek s r))

  shown : Shows true s first (log_of true u) i
  unfolding spot
  shown =
      let at = found.0 in
      let head = head_moved true u i in
      record {
        inside = rw head found.1;
        time = rw head (time_part u s first cut.part (seek s r) found.1 ∙ ap (time_at u) at);
        letters = λ k. rw head (letter_part u s first cut.part k (seek s r) found.1 ∙ ap (has_letter u k) at);
        place = rw head (sym at);
      }

-- the head of a position where every record is one
plain_head : (u : List ℕ) (i : ℕ) → head_of (log_of false u) i ≡ i
unfolding head_of
plain_head u zero = refl
plain_head u (suc i) = omega arith

-- THEOREM: every position that stands behind those before the slice
pub slice_shows : (skips : Bool) (u s : List ℕ) (first : ℕ) → Cut u s first →
    (i : ℕ) → before skips u first ≤ i → i < before skips u (record_count u) → Shows skips s first (log_of skips u) i
slice_shows true u s first cut i from below = shown u s first cut i from below
slice_shows false u s first cut i from below =
    let head = plain_head u i in
    let whole = cut.whole in
    let r = in_slice first (head_of (log_of false u) i) + 0 in
    let at : first + r ≡ i = omega arith in
    let inside : r < record_count s = omega arith in
    record {
      inside = inside;
      time = time_part u s first cut.part r inside ∙ ap (time_at u) (omega arith);
      letters = λ k. letter_part u s first cut.part k r inside ∙ ap (has_letter u k) (omega arith);
      place = omega arith;
    }

-- closed or open, it is shown alike
pub closing_shows : (closed skips : Bool) (s : List ℕ) (first : ℕ) (L : Log) (i : ℕ) → Shows skips s first L i → Shows skips s first (closing closed L) i
closing_shows closed skips s first L i shows =
    let head = head_closing closed L i in
    record { inside = rw head shows.inside; time = rw head shows.time; letters = λ k. rw head (shows.letters k); place = rw head shows.place }

-- SLICES IN WHICH NO SERVICE RECORD LIES

-- all records are positions
all_plain : (s : List ℕ) → record_count s ≤ positions s (record_count s) → (i : ℕ) → i < record_count s → is_service s i ≡ false
all_plain s all i h =
    ⊎_elim
    (λ service. absurd (omega (arith, count_service s i service, count_few s i, count_most s (suc i) (record_count s) h)))
    (λ plain. plain)
    (true_or_false (is_service s i))

-- they are read as the log's version has them, or there are none
served_cases : (skips : Bool) (s : List ℕ) → (served skips s ≡ skips) ⊎ ((skips ≡ true) × (served skips s ≡ false) × (record_count s ≤ positions s (record_count s)))
served_cases true s =
    ⊎_elim inl (λ none. inr (refl, none, ltb-false (positions s (record_count s)) (record_count s) none)) (true_or_false (served true s))
served_cases false s = inl (le-ltb (record_count s) (record_count s) (omega arith))

module _ (skips : Bool) (s : List ℕ) where
  pub served_before : before (served skips s) s (record_count s) ≡ before skips s (record_count s)
  served_before =
      ⊎_elim
      (λ same. ap (λ (b : Bool). before b s (record_count s)) same)
      (λ (kind, none, all). rw (none, kind) (omega (arith, count_few s (record_count s))))
      (served_cases skips s)

  pub served_skips : served skips s ≡ true → skips ≡ true
  served_skips lie = ⊎_elim (λ same. sym same ∙ lie) (λ (kind, none, all). kind) (served_cases skips s)

  pub served_place : (n : ℕ) → n ≤ before skips s (record_count s) → place (served skips s) s 0 n ≡ place skips s 0 n
  served_place n h =
      ⊎_elim
      (λ same. ap (λ (b : Bool). place b s 0 n) same)
      (λ (kind, none, all). rw (none, kind) (plain (rw kind at h) all))
      (served_cases skips s)
    where
      plain : n ≤ positions s (record_count s) → record_count s ≤ positions s (record_count s) → 0 + n ≡ spot s 0 n
      plain few all =
          let most = count_few s (record_count s) in
          ⊎_elim
          (λ l. let e : positions s (record_count s) ≡ n = omega arith in omega (arith, rw e at (spot_last s)))
          (λ l. sym (spot_plain s 0 (record_count s) (omega arith) (λ i k. all_plain s all (0 + i) (omega arith)) n l))
          (le_or_lt (record_count s) n)

  pub served_shows : (first : ℕ) (L : Log) (i : ℕ) → Shows skips s first L i → Shows (served skips s) s first L i
  unfolding spot
  served_shows first L i shows =
      ⊎_elim
      (λ same. rw same shows)
      (λ (kind, none, all). rw none (plain (rw kind at shows) all))
      (served_cases skips s)
    where
      plain : Shows true s first L i → record_count s ≤ positions s (record_count s) → Shows false s first L i
      plain shows all =
          let r = in_slice first (head_of L i) in
          let inside : r < record_count s =
          ⊎_elim (λ l. absurd (omega (arith, shows.inside, seek_past s r l))) (λ l. l) (le_or_lt (record_count s) r) in
          let here : r + 0 ≡ seek s r = add-zero r ∙ sym (seek_position s r inside (all_plain s all r inside)) in
          record { inside = rw here shows.inside; time = rw here shows.time; letters = λ k. rw here (shows.letters k); place = rw here shows.place }

-- a view's flag says what was put there
pub flag_told : (b : Bool) → eqb (number b) 1 ≡ b
flag_told true = refl
flag_told false = refl
