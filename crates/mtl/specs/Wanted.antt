-- The first position still wanted, document 02, paper 2: "d less k (0 when d is below k), k being the largest number of previous
-- entries on a path from the last entry to a letter"; and the first record still wanted: those before it may hold any bytes.
use Rattle.std.specs.Prelude.{ℕ, suc, ◌-◌, max, cond, List, ltb}
use Rattle.mtl.specs.Formula.{Formula, largest}
use Rattle.mtl.specs.Formula.Formula.{letter, not, or, previous, next, since, until}
use Rattle.mtl.specs.Log.{Log}

-- the paper's k: the most previous operators on a path from the formula's last operator to a letter
unfoldable pub depth : Formula → ℕ
depth (letter k) = 0
depth (not φ) = depth φ
depth (or φ ψ) = max (depth φ) (depth ψ)
depth (previous low high φ) = suc (depth φ)
depth (next low high φ) = depth φ
depth (since low high φ ψ) = max (depth φ) (depth ψ)
depth (until low high φ ψ) = max (depth φ) (depth ψ)

-- of a rule's formulas the largest, "paper 2's k, are the largest over the formulas" (paper 8); of none 0
abbrev pub deepest : List Formula → ℕ
deepest fs = largest depth fs

-- "d less k (0 when d is below k)"
abbrev pub wanted : List Formula → (given : ℕ) → ℕ
wanted fs given = given - deepest fs

-- document 02, paper 10: "The first record wanted is the one that holds the first position still wanted, or the record after all seen
-- where no seen record holds it": of n records seen, which are the log, and position q
abbrev pub wanted_record : Log → (n q : ℕ) → ℕ
wanted_record L n q = cond (ltb q L.size) (L.place q) n
