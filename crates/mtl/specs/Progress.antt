-- Progress: document 01's answered number. "Each entry answers a run of positions from 0 up."; N is
-- the number of positions (document 02, paper 10)
use Rattle.std.specs.Prelude.{ℕ, zero, suc, ◌-◌, min, Bool, cond, ◌&&◌, ◌||◌, not as negate, List, [], ◌∷◌, leb, eqb}
use Rattle.mtl.specs.Formula.{Formula}
use Rattle.mtl.specs.Formula.Formula.{letter, not, or, previous, next, since, until}
use Rattle.mtl.specs.Log.{Log}
use Rattle.mtl.specs.Satisfaction.{any, at_most, until_by, sat}

-- left is answered no at k, with i ≤ k
abbrev pub fails_from : (ℕ → Bool) → ℕ → ℕ → Bool
fails_from left i k = leb i k && negate (left k)

-- position q, with i ≤ q, lies more than high after i
abbrev pub over : (high : ℕ) (time : ℕ → ℕ) (i q : ℕ) → Bool
over high time i q = leb i q && negate (at_most high (time q - time i))

module _ (low high : ℕ) (time : ℕ → ℕ) (left right : ℕ → Bool) (size m : ℕ) where
  -- "Position i < m is settled yes if the until's condition is met by some j < m."
  abbrev pub settled_yes : ℕ → Bool
  settled_yes i = any m (until_by low high time left right i)

  -- "It is settled no if no such j exists and either left is answered no at some k with i ≤ k < m, or some position
  -- of the log from i up to and including m lies more than high after i."
  abbrev pub settled_no : ℕ → Bool
  settled_no i = negate (settled_yes i) && (any m (fails_from left i) || any (min (suc m) size) (over high time i))

  -- settled, yes or no
  abbrev pub settled : ℕ → Bool
  settled i = settled_yes i || settled_no i

-- the longest run from 0, of at most m positions, in which p holds everywhere
unfoldable pub run : ℕ → (ℕ → Bool) → ℕ
run zero p = zero
run (suc m) p = cond (eqb (run m p) m && p m) (suc m) (run m p)

-- "The answered run is the longest from 0 in which all are settled": until's progress, m being the smaller of the operands'
abbrev pub until_progress : (low high : ℕ) (time : ℕ → ℕ) (left right : ℕ → Bool) (size m : ℕ) → ℕ
until_progress low high time left right size m = run m (settled low high time left right size m)

-- "Letter: all N. Not .. : as many as the operand. Or and since: the smaller of the two operands' numbers. Next: one fewer
-- than the operand, never below 0." Document 02, paper 2: "Previous now answers one position more than its operand, never more than N."
unfoldable pub progress : Formula → Log → ℕ
progress (letter k) L = L.size
progress (not φ) L = progress φ L
progress (or φ ψ) L = min (progress φ L) (progress ψ L)
progress (previous low high φ) L = min L.size (suc (progress φ L))
progress (next low high φ) L = progress φ L - 1
progress (since low high φ ψ) L = min (progress φ L) (progress ψ L)
progress (until low high φ ψ) L = until_progress low high L.time (sat φ L) (sat ψ L) L.size (min (progress φ L) (progress ψ L))

-- "A closing call says that no record will follow: every remaining position gets the plain reading's value on the log as it
-- ends. A is then N." (document 02, paper 9)
unfoldable pub settled_to : Formula → Log → ℕ
settled_to φ L = cond L.closed L.size (progress φ L)

-- "The rule's answered number A is that of its last entry." A rule with no entry has no formula, and "A equals N". Of several
-- formulas, "Position i has a verdict when every formula has answered it" (document 02, paper 8).
unfoldable pub joint_progress : List Formula → Log → ℕ
joint_progress [] L = L.size
joint_progress (φ ∷ fs) L = min (settled_to φ L) (joint_progress fs L)
