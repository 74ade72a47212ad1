-- Positions among records: how a head goes on, and what a log of either kind is made of. Assumes nothing.
use Prim.Native.Nat.{ℕ, zero, suc, ◌+◌, ◌-◌, ◌≤◌, ◌<◌}
use native.Mathlib.Omega.{arith}
use native.Mathlib.Nat.{add-zero}
use mathlib.Core.Bool.{Bool, true, false}
use mathlib.Core.List.{List}
use mathlib.Core.Logic.{⊎_elim}
use mathlib.Core.Path.{◌≡◌, refl, sym, ap, ◌∙◌}
use borrow.Author.Tests.{lt-ltb, le-ltb}
use Rattle.mtl.specs.Log.{Log, head_of, closing, Placed, NeverFalls}
use Rattle.mtl.specs.Wanted.{wanted_record}
use Rattle.mtl.proofs.Bounded.{le_or_lt}
use Rattle.trace.specs.Format.{record_count}
use Rattle.trace.specs.Positions.{is_service, passing, seek, spot, place, moved, before}
use Rattle.trace.specs.Log.{log_of}
use Rattle.trace.proofs.Laws.{Keeps}
use Rattle.trace.proofs.Counting.{count_few, spot_holds, spot_rises, spot_last, spot_counts}

-- HEADS

module _ (s : List ℕ) (r : ℕ) where
  -- behind the records nothing is found
  pub seek_past : record_count s ≤ r → seek s r ≡ r
  unfolding passing
  seek_past h = let none : record_count s - r ≡ 0 = omega arith in rw none

  module _ (inside : r < record_count s) where
    more : record_count s - r ≡ suc (record_count s - suc r)
    more = omega arith

    pub seek_service : is_service s r ≡ true → seek s r ≡ seek s (suc r)
    unfolding passing
    seek_service e = rw (more, e)

    pub seek_position : is_service s r ≡ false → seek s r ≡ r
    unfolding passing
    seek_position e = rw (more, e)

    -- a service record is passed over
    pub spot_service : is_service s r ≡ true → (i : ℕ) → spot s r i ≡ spot s (suc r) i
    unfolding spot
    spot_service e zero = seek_service e
    spot_service e (suc i) = rw (spot_service e i)

    -- a position is the first of those from there on
    pub spot_position : is_service s r ≡ false → (i : ℕ) → spot s r (suc i) ≡ spot s (suc r) i
    unfolding spot
    spot_position e zero = rw (seek_position e)
    spot_position e (suc i) = rw (spot_position e i)

-- behind the records none is found
pub spot_past : (s : List ℕ) (r : ℕ) → record_count s ≤ r → (i : ℕ) → record_count s ≤ spot s r i
unfolding spot
spot_past s r h zero = rw (seek_past s r h) h
spot_past s r h (suc i) = let l : record_count s ≤ suc (spot s r i) = omega (arith, spot_past s r h i) in rw (seek_past s (suc (spot s r i)) l) l

-- n records from r on that are all positions
module _ (s : List ℕ) (r n : ℕ) (fits : r + n ≤ record_count s) (plain : (i : ℕ) → i < n → is_service s (r + i) ≡ false) where
  pub spot_plain : (i : ℕ) → i < n → spot s r i ≡ r + i
  unfolding spot
  spot_plain zero h =
      let here : is_service s r ≡ false = ap (is_service s) (sym (add-zero r)) ∙ plain 0 h in
      seek_position s r (omega arith) here ∙ sym (add-zero r)
  spot_plain (suc i) h =
      let next : suc (r + i) ≡ r + suc i = omega arith in
      rw (spot_plain i (omega arith), next) (seek_position s (r + suc i) (omega arith) (plain (suc i) h))

-- LOGS OF EITHER KIND

-- the reading heads of a log
pub head_moved : (skips : Bool) (s : List ℕ) (n : ℕ) → head_of (log_of skips s) n ≡ moved skips s 0 n
unfolding head_of moved
head_moved skips s zero = refl
head_moved skips s (suc n) = refl

pub head_closing : (closed : Bool) (L : Log) (n : ℕ) → head_of (closing closed L) n ≡ head_of L n
unfolding head_of
head_closing closed L zero = refl
head_closing closed L (suc n) = refl

pub before_few : (skips : Bool) (s : List ℕ) (n : ℕ) → before skips s n ≤ n
before_few true s n = count_few s n
before_few false s n = omega arith

-- the positions stand in the records
pub log_placed : (skips : Bool) (s : List ℕ) → Placed (log_of skips s) (record_count s)
log_placed true s = record { rising = spot_rises s; below = λ i h. (spot_holds s i h).inside }
log_placed false s = record { rising = λ i j h l. omega arith; below = λ i h. omega arith }

-- so their times do not fall where those of all records do not
pub positions_keep : (skips : Bool) (s : List ℕ) → Keeps s → NeverFalls (log_of skips s)
positions_keep skips s keeps i j le h = keeps (place skips s 0 i) (place skips s 0 j) behind ((log_placed skips s).below j h)
  where
    same : j ≤ i → place skips s 0 i ≤ place skips s 0 j
    same l = let e : i ≡ j = omega arith in rw e (omega arith)

    behind : place skips s 0 i ≤ place skips s 0 j
    behind = ⊎_elim same (λ (l : i < j). omega (arith, (log_placed skips s).rising i j l h)) (le_or_lt j i)

-- behind the last position the records end
pub place_last : (skips : Bool) (s : List ℕ) → place skips s 0 (before skips s (record_count s)) ≡ record_count s
place_last true s = spot_last s
place_last false s = omega arith

-- the first record still wanted, where q positions are passed: it has q positions before it
pub wanted_place : (skips : Bool) (s : List ℕ) (q : ℕ) → q ≤ before skips s (record_count s) →
    wanted_record (log_of skips s) (record_count s) q ≡ place skips s 0 q
wanted_place skips s q h =
    ⊎_elim
    (λ l. rw (le-ltb q (before skips s (record_count s)) l) (let e : before skips s (record_count s) ≡ q = omega arith in sym (rw e at (place_last skips s))))
    (λ l. rw (lt-ltb q (before skips s (record_count s)) l) refl)
    (le_or_lt (before skips s (record_count s)) q)

pub wanted_counts : (skips : Bool) (s : List ℕ) (q : ℕ) → q ≤ before skips s (record_count s) →
    (place skips s 0 q ≤ record_count s) × (before skips s (place skips s 0 q) ≡ q)
wanted_counts true s q h = spot_counts s q h
wanted_counts false s q h = (omega arith, omega arith)
