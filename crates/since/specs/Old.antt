-- Which positions lie at least low after the last that is marked. `at` tells their times.
use Rattle.std.specs.Prelude.{ℕ, suc, ◌-◌, ◌≤◌, ◌<◌, Bool, leb}
use Rattle.blocks.specs.Ring.{newest_at}

-- position i does; where none is marked, it lies at least low after `first`
abbrev pub old_enough : (low : ℕ) (at : ℕ → ℕ) (marks first : ℕ) → ℕ → Bool
old_enough low at marks first i = leb low (at i - newest_at at marks first (suc i))

-- r is the first position from `from` to `end` that lies at least low after `last`, and `end` where none does
pub record FirstOld (low last : ℕ) (at : ℕ → ℕ) (from end r : ℕ) : Type 0 where
  pub behind : from ≤ r
  pub within : r ≤ end
  pub before : (i : ℕ) → from ≤ i → i < r → at i - last < low
  pub there : r < end → low ≤ at r - last
