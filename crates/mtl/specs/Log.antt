-- Logs and streams: times and letters by position, counted from 0. Which records are positions is the log format's to say.
use Rattle.std.specs.Prelude.{ℕ, zero, suc, ◌≤◌, ◌<◌, Bool, true, ◌≡◌}

-- a finite log: how many positions, the time of each, whether letter k stands at position i, and which record holds it, counted from 0:
-- no reading looks at that; it is closed where "no record will follow" (document 02, paper 9)
pub record Log : Type 0 where
  pub size : ℕ
  pub time : ℕ → ℕ
  pub letters : (i k : ℕ) → Bool
  pub place : ℕ → ℕ
  pub closed : Bool

-- where a reading head stands that has passed n positions: behind the record of the last of them
unfoldable pub head_of : Log → (n : ℕ) → ℕ
head_of L zero = 0
head_of L (suc n) = suc (L.place n)

-- the positions stand in the first n records, each behind the one before
pub record Placed (L : Log) (n : ℕ) : Type 0 where
  pub rising : (i j : ℕ) → i < j → j < L.size → L.place i < L.place j
  pub below : (i : ℕ) → i < L.size → L.place i < n

-- the log of the same records, closed or open
abbrev pub closing : Bool → Log → Log
closing closed L = record { size = L.size; time = L.time; letters = L.letters; place = L.place; closed = closed }

-- document 002's stream, an infinite sequence of events
pub record Stream : Type 0 where
  pub time : ℕ → ℕ
  pub letters : (i k : ℕ) → Bool

-- no position's time lies below that of a position before it
abbrev pub NeverFalls : Log → Type 0
NeverFalls L = (i j : ℕ) → i ≤ j → j < L.size → L.time i ≤ L.time j

-- the same of a stream
abbrev pub StreamNeverFalls : Stream → Type 0
StreamNeverFalls σ = (i j : ℕ) → i ≤ j → σ.time i ≤ σ.time j

-- two logs have the same record at a position; that it is the same by its number, too, asks nothing of a log that is only read: no reading
-- looks at `place`
pub record SameAt (K L : Log) (i : ℕ) : Type 0 where
  pub time : K.time i ≡ L.time i
  pub letters : (k : ℕ) → K.letters i k ≡ L.letters i k
  pub place : K.place i ≡ L.place i

-- from position a up to, and without, position b two logs have the same records
abbrev pub Agree : Log → Log → ℕ → ℕ → Type 0
Agree K L a b = (i : ℕ) → a ≤ i → i < b → SameAt K L i

-- L is K, lengthened by any number of positions; a closed log is lengthened by none, and stays closed
pub record Continues (K L : Log) : Type 0 where
  pub longer : K.size ≤ L.size
  pub same : Agree K L 0 K.size
  pub ended : K.closed ≡ true → (L.closed ≡ true) × (L.size ≡ K.size)

-- the stream begins with the log's positions
pub record Begins (σ : Stream) (L : Log) : Type 0 where
  pub time : (i : ℕ) → i < L.size → σ.time i ≡ L.time i
  pub letters : (i : ℕ) → i < L.size → (k : ℕ) → σ.letters i k ≡ L.letters i k
