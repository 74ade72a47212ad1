-- The formulas of document 002, section 2, with an interval as its two ends, low and high, in seconds.
use Rattle.std.specs.Prelude.{ℕ, ◌+◌, max, Bool, true, false, ◌&&◌, ◌||◌, not as negate, List, [], ◌∷◌, eqb}

-- "High 4,294,967,295 means no upper end"
abbrev pub unbounded : ℕ
unbounded = 4294967295

pub data Formula : Type 0 where
  letter : ℕ → Formula
  not : Formula → Formula
  or : (left right : Formula) → Formula
  previous next : (low high : ℕ) → Formula → Formula
  since until : (low high : ℕ) (left right : Formula) → Formula

-- whether a next stands anywhere in the formula
unfoldable pub has_next : Formula → Bool
has_next (letter k) = false
has_next (not φ) = has_next φ
has_next (or φ ψ) = has_next φ || has_next ψ
has_next (previous low high φ) = has_next φ
has_next (next low high φ) = true
has_next (since low high φ ψ) = has_next φ || has_next ψ
has_next (until low high φ ψ) = has_next φ || has_next ψ

-- whether every until in the formula has an upper end, as refusal 6 asks of a rule
unfoldable pub untils_end : Formula → Bool
untils_end (letter k) = true
untils_end (not φ) = untils_end φ
untils_end (or φ ψ) = untils_end φ && untils_end ψ
untils_end (previous low high φ) = untils_end φ
untils_end (next low high φ) = untils_end φ
untils_end (since low high φ ψ) = untils_end φ && untils_end ψ
untils_end (until low high φ ψ) = negate (eqb high unbounded) && (untils_end φ && untils_end ψ)

-- "Reach: letter 0; not and previous as the operand; or and since the larger; until high plus the larger."
-- A formula with next has none; what stands here for next is used by nothing (see `has_next`).
unfoldable pub reach : Formula → ℕ
reach (letter k) = 0
reach (not φ) = reach φ
reach (or φ ψ) = max (reach φ) (reach ψ)
reach (previous low high φ) = reach φ
reach (next low high φ) = reach φ
reach (since low high φ ψ) = max (reach φ) (reach ψ)
reach (until low high φ ψ) = high + max (reach φ) (reach ψ)

-- the largest over a rule's formulas, and 0 where there is none
unfoldable pub largest : (Formula → ℕ) → List Formula → ℕ
largest f [] = 0
largest f (φ ∷ fs) = max (f φ) (largest f fs)
