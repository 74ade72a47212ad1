-- The same logic as documents 000 (section 3) and 002 (figure 1) print it: for some j .., for all k ...
-- One definition serves streams, where every number is a position, and finite logs, where those below the size are.
use Rattle.std.specs.Prelude.{ℕ, ◌+◌, ◌-◌, ◌≤◌, ◌<◌, Bool, true, ◌≡◌, ◌⊎◌}
use Rattle.mtl.specs.Formula.{Formula, unbounded}
use Rattle.mtl.specs.Formula.Formula.{letter, not, or, previous, next, since, until}
use Rattle.mtl.specs.Log.{Log, Stream}

-- a gap does not lie above high, which no gap does where there is no upper end
abbrev pub AtMost : (high gap : ℕ) → Type 0
AtMost high gap = (gap ≤ high) ⊎ (high ≡ unbounded)

-- document 002's "later - earlier ∈ [low, high]"; with no upper end [low, ∞)
abbrev pub Within : (low high earlier later : ℕ) → Type 0
Within low high earlier later = (low ≤ later - earlier) × AtMost high (later - earlier)

module _ (Position : ℕ → Type 0) (time : ℕ → ℕ) (letters : (i k : ℕ) → Bool) where
  unfoldable pub Holds : Formula → ℕ → Type 0
  Holds (letter k) i = letters i k ≡ true
  Holds (not φ) i = Holds φ i → ⊥
  Holds (or φ ψ) i = Holds φ i ⊎ Holds ψ i
  Holds (previous low high φ) i = (0 < i) × Within low high (time (i - 1)) (time i) × Holds φ (i - 1)
  Holds (next low high φ) i = Position (i + 1) × Within low high (time i) (time (i + 1)) × Holds φ (i + 1)
  Holds (since low high φ ψ) i =
      (j : ℕ) × (j ≤ i) × Within low high (time j) (time i) × Holds ψ j × ((k : ℕ) → j < k → k ≤ i → Holds φ k)
  Holds (until low high φ ψ) i =
      (j : ℕ) × (i ≤ j) × Position j × Within low high (time i) (time j) × Holds ψ j × ((k : ℕ) → i ≤ k → k < j → Holds φ k)

-- figure 1 of document 002: the formula holds at position i of the stream
abbrev pub HoldsOn : Stream → Formula → ℕ → Type 0
HoldsOn σ φ i = Holds (λ (j : ℕ). Unit {0}) σ.time σ.letters φ i

-- the plain reading on a finite log
abbrev pub HoldsIn : Log → Formula → ℕ → Type 0
HoldsIn L φ i = Holds (λ (j : ℕ). j < L.size) L.time L.letters φ i
