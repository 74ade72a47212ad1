-- The records and the times of positions, of a log that is shown whole.
use Rattle.std.specs.Prelude.{ℕ, ◌≤◌, ◌<◌, ◌≡◌, List, leb}
use Rattle.mtl.specs.Log.{Log}
use Rattle.trace.specs.Format.{record_count, time_at, has_letter}
use Rattle.trace.specs.Positions.{place, before}
use Rattle.window.specs.View.{total, skips}
use Rattle.window.specs.declared.view.View.{View}
use Rattle.reasons.specs.Search.{first_where}

-- the view v and the records s are the whole log L
pub record WholeLog (v : View) (s : List ℕ) (L : Log) : Type 0 where
  -- the view counts the positions, and so do the records
  pub size : total v ≡ L.size
  pub all : before (skips v) s (record_count s) ≡ L.size
  -- which record each position is, its time and its letters
  pub place : (i : ℕ) → i < L.size → place (skips v) s 0 i ≡ L.place i
  pub inside : (i : ℕ) → i < L.size → L.place i < record_count s
  pub time : (i : ℕ) → i < L.size → time_at s (L.place i) ≡ L.time i
  pub letters : (i k : ℕ) → i < L.size → has_letter s k (L.place i) ≡ L.letters i k
  -- a position stands before record r exactly where it is one of those counted before it
  pub counted : (r i : ℕ) → r ≤ record_count s → i < before (skips v) s r → (i < L.size) × (L.place i < r)
  pub beyond : (r i : ℕ) → r ≤ record_count s → before (skips v) s r ≤ i → i < L.size → r ≤ L.place i
  -- no record's time falls
  pub keeps : (i j : ℕ) → i ≤ j → j < record_count s → time_at s i ≤ time_at s j

-- the first record whose time is not below a bound
abbrev pub first_record : List ℕ → (bound : ℕ) → ℕ
first_record s bound = first_where (record_count s) (λ (r : ℕ). leb bound (time_at s r))

-- the first position whose time is not below a bound; the number of positions where there is none
abbrev pub first_time : Log → (bound : ℕ) → ℕ
first_time L bound = first_where L.size (λ (q : ℕ). leb bound (L.time q))
