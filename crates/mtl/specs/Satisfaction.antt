-- Satisfaction: document 01's plain reading of a formula at a position of a finite log, as a test that computes.
-- `left` and `right` are an operator's operands: whether each holds, by position.
use Rattle.std.specs.Prelude.{ℕ, zero, suc, ◌+◌, ◌-◌, Bool, true, false, ◌&&◌, ◌||◌, not as negate, leb, ltb, eqb}
use Rattle.mtl.specs.Formula.{Formula, unbounded}
use Rattle.mtl.specs.Formula.Formula.{letter, not, or, previous, next, since, until}
use Rattle.mtl.specs.Log.{Log}

-- p holds at some position below n
unfoldable pub any : ℕ → (ℕ → Bool) → Bool
any zero p = false
any (suc n) p = any n p || p n

-- p holds at every position below n
unfoldable pub all : ℕ → (ℕ → Bool) → Bool
all zero p = true
all (suc n) p = all n p && p n

-- gap ≤ high, or there is no upper end
abbrev pub at_most : (high gap : ℕ) → Bool
at_most high gap = leb gap high || eqb high unbounded

-- "A gap is a later time minus an earlier one; 'within' means low ≤ gap ≤ high."
abbrev pub within : (low high earlier later : ℕ) → Bool
within low high earlier later = leb low (later - earlier) && at_most high (later - earlier)

-- left holds at k, if j < k
abbrev pub held_after : (ℕ → Bool) → ℕ → ℕ → Bool
held_after left j k = leb k j || left k

-- left holds at k, if i ≤ k
abbrev pub held_from : (ℕ → Bool) → ℕ → ℕ → Bool
held_from left i k = ltb k i || left k

-- of since at i, for one j ≤ i: "gap from j to i within, right holds at j, left holds at every k with j < k ≤ i"
abbrev pub since_by : (low high : ℕ) (time : ℕ → ℕ) (left right : ℕ → Bool) (i j : ℕ) → Bool
since_by low high time left right i j = within low high (time j) (time i) && (right j && all (suc i) (held_after left j))

-- of until at i, for one j: "j ≥ i, gap from i to j within, right holds at j, left holds at every k with i ≤ k < j"
abbrev pub until_by : (low high : ℕ) (time : ℕ → ℕ) (left right : ℕ → Bool) (i j : ℕ) → Bool
until_by low high time left right i j = leb i j && (within low high (time i) (time j) && (right j && all j (held_from left i)))

-- "Previous at i: i > 0, the gap from i-1 to i is within, and the operand holds at i-1."
abbrev pub previous_at : (low high : ℕ) (time : ℕ → ℕ) (operand : ℕ → Bool) (i : ℕ) → Bool
previous_at low high time operand i = ltb 0 i && (within low high (time (i - 1)) (time i) && operand (i - 1))

-- "Next at i: position i+1 exists, the gap to it is within, and the operand holds there."
abbrev pub next_at : (low high : ℕ) (time : ℕ → ℕ) (operand : ℕ → Bool) (size i : ℕ) → Bool
next_at low high time operand size i = ltb (i + 1) size && (within low high (time i) (time (i + 1)) && operand (i + 1))

-- "Since at i: some j ≤ i" as above
abbrev pub since_at : (low high : ℕ) (time : ℕ → ℕ) (left right : ℕ → Bool) (i : ℕ) → Bool
since_at low high time left right i = any (suc i) (since_by low high time left right i)

-- "Until at i: some j ≥ i in the log" as above
abbrev pub until_at : (low high : ℕ) (time : ℕ → ℕ) (left right : ℕ → Bool) (size i : ℕ) → Bool
until_at low high time left right size i = any size (until_by low high time left right i)

-- "Letter, not, or: at the position itself."
unfoldable pub sat : Formula → Log → ℕ → Bool
sat (letter k) L i = L.letters i k
sat (not φ) L i = negate (sat φ L i)
sat (or φ ψ) L i = sat φ L i || sat ψ L i
sat (previous low high φ) L i = previous_at low high L.time (sat φ L) i
sat (next low high φ) L i = next_at low high L.time (sat φ L) L.size i
sat (since low high φ ψ) L i = since_at low high L.time (sat φ L) (sat ψ L) i
sat (until low high φ ψ) L i = until_at low high L.time (sat φ L) (sat ψ L) L.size i
