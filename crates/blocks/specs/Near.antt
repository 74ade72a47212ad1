-- Neighbouring positions, whose times are `at`, and the gaps between them.
use Rattle.std.specs.Prelude.{ℕ, ◌+◌, ◌-◌, Bool, leb}
use Rattle.mtl.specs.Satisfaction.{within}

-- the position behind i lies no farther than `far` after it
abbrev pub close_after : (far : ℕ) (at : ℕ → ℕ) (i : ℕ) → Bool
close_after far at i = leb (at (i + 1) - at i) far

-- the position behind i lies in the interval after it
abbrev pub near_after : (low high : ℕ) (at : ℕ → ℕ) (i : ℕ) → Bool
near_after low high at i = within low high (at i) (at (i + 1))
