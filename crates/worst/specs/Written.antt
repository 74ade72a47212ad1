-- The log: "The log is version 1, and record i has letter 0 alone and as its time the smaller of i and high."
use Rattle.std.specs.Prelude.{ℕ, min, ◌^◌, List}
use Rattle.mtl.specs.Log.{Log}
use Rattle.trace.specs.Format.{records_of, skips_of}
use Rattle.trace.specs.Log.{log_of}
use Rattle.trace.specs.Making.{log_bytes}

-- "as its time the smaller of i and high"
abbrev pub worst_time : (high i : ℕ) → ℕ
worst_time high i = min i high

-- "letter 0 alone"; "letter k is the bit worth 2 to the k"
abbrev pub worst_events : (i : ℕ) → ℕ
worst_events i = 2 ^ 0

-- the log's bytes
abbrev pub worst_bytes : (high n : ℕ) → List ℕ
worst_bytes high n = log_bytes (worst_time high) worst_events n

-- the log of the logic that they are
abbrev pub worst : (high n : ℕ) → Log
worst high n = log_of (skips_of (worst_bytes high n)) (records_of (worst_bytes high n))
