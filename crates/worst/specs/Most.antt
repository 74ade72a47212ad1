-- What is proved of the log that an accepted call writes (proofs/Theorem).
use Rattle.std.specs.Prelude.{ℕ, ◌+◌, ◌≤◌, ◌<◌, min, false, ◌≡◌, eqb}
use Rattle.mtl.specs.Log.{Log, NeverFalls}
use Rattle.trace.specs.Format.{records_of, malformed}
use Rattle.trace.specs.Order.{disordered}
use Rattle.worst.specs.Waiting.{waiting, open_times}
use Rattle.worst.specs.Written.{worst, worst_bytes}

-- "That most is the smaller of n and high + 1"
abbrev pub most : (high n : ℕ) → ℕ
most high n = min n (high + 1)

pub record MostWaiting (low high n : ℕ) : Type 0 where
  -- "a log of exactly n records": "record i has letter 0 alone and as its time the smaller of i and high"
  pub size : (worst high n).size ≡ n
  pub time : (i : ℕ) → i < n → (worst high n).time i ≡ min i high
  pub letters : (i k : ℕ) → i < n → (worst high n).letters i k ≡ eqb k 0
  -- it has the most
  pub reached : open_times (waiting low high) (worst high n) ≡ most high n
  -- "no log of n records whose times never fall has more": of so many records no more are positions
  pub no_more : (L : Log) → L.size ≤ n → NeverFalls L → open_times (waiting low high) L ≤ most high n
  -- with a fresh checkpoint it meets neither 12 nor 14
  pub well_formed : malformed (worst_bytes high n) ≡ false
  pub ordered : disordered (records_of (worst_bytes high n)) 0 0 ≡ false
