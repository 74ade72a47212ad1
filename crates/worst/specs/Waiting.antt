-- How many seconds a log keeps waiting: the distinct times among its open positions.
use Rattle.std.specs.Prelude.{ℕ, zero, suc, ◌+◌, Bool, ◌&&◌, not, leb, eqb}
use Rattle.mtl.specs.Formula.{Formula}
use Rattle.mtl.specs.Formula.Formula.{letter, until}
use Rattle.mtl.specs.Log.{Log}
use Rattle.mtl.specs.Satisfaction.{any}
use Rattle.mtl.specs.Progress.{progress}
use Rattle.bits.specs.Packed.{number}

-- "letter 0 until low to high of letter 1"
abbrev pub waiting : (low high : ℕ) → Formula
waiting low high = until low high (letter 0) (letter 1)

-- a position of the log is open: it is not among those answered, which run from 0 up
abbrev pub is_open : Formula → Log → ℕ → Bool
is_open φ L i = leb (progress φ L) i

-- how many numbers below n have p
unfoldable pub count_where : ℕ → (ℕ → Bool) → ℕ
count_where zero p = 0
count_where (suc n) p = count_where n p + number (p n)

-- j has p, and i's value
abbrev pub same_value : (ℕ → Bool) → (ℕ → ℕ) → (i j : ℕ) → Bool
same_value p value i j = p j && eqb (value j) (value i)

-- i has p, and a value that no number before it with p has
abbrev pub new_value : (ℕ → Bool) → (ℕ → ℕ) → ℕ → Bool
new_value p value i = p i && not (any i (same_value p value i))

-- how many distinct values the numbers below n with p have
abbrev pub distinct : ℕ → (ℕ → Bool) → (ℕ → ℕ) → ℕ
distinct n p value = count_where n (new_value p value)

-- "distinct times among its open positions"
abbrev pub open_times : Formula → Log → ℕ
open_times φ L = distinct L.size (is_open φ L) L.time
