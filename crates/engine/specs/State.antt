-- The state of a whole subformula: its part of the checkpoint is its operands' words, left then right, and its own block.
use Rattle.std.specs.Prelude.{ℕ, zero, suc, ◌+◌, ◌*◌, Bool, true, false, List, take, drop}
use Rattle.mtl.specs.Formula.{Formula}
use Rattle.mtl.specs.Formula.Formula.{letter, not, or, previous, next, since, until}
use Rattle.mtl.specs.Log.{Log}
use Rattle.rule.specs.Words.{ring_words}
use Rattle.rule.specs.Postfix.{formula}
use Rattle.blocks.specs.Block.{taken, left_count, right_count, Onward, Ready}
use Rattle.blocks.specs.Step.{has_left, has_right, left_of, right_of}

-- "16 for each entry, and for since with a finite high (high + 1), for since without upper end 1, for until 2 × (high + 1)"
unfoldable pub needed_words : Formula → ℕ
needed_words (letter k) = 16
needed_words (not φ) = needed_words φ + 16
needed_words (or φ ψ) = needed_words φ + needed_words ψ + 16
needed_words (previous low high φ) = needed_words φ + 16
needed_words (next low high φ) = needed_words φ + 16
needed_words (since low high φ ψ) = needed_words φ + needed_words ψ + (16 + ring_words high)
needed_words (until low high φ ψ) = needed_words φ + needed_words ψ + (16 + 2 * (high + 1))

-- the words of the left operand, and of the right or only one
abbrev pub left_words : Formula → ℕ
left_words (letter k) = 0
left_words (not φ) = 0
left_words (or φ ψ) = needed_words φ
left_words (previous low high φ) = 0
left_words (next low high φ) = 0
left_words (since low high φ ψ) = needed_words φ
left_words (until low high φ ψ) = needed_words φ

abbrev pub right_words : Formula → ℕ
right_words (letter k) = 0
right_words (not φ) = needed_words φ
right_words (or φ ψ) = needed_words ψ
right_words (previous low high φ) = needed_words φ
right_words (next low high φ) = needed_words φ
right_words (since low high φ ψ) = needed_words ψ
right_words (until low high φ ψ) = needed_words ψ

-- where the operator's own block stands: behind its operands' words
abbrev pub own_at : Formula → ℕ
own_at φ = left_words φ + right_words φ

-- the words before those of formula k of a rule: its formulas stand one after the other
unfoldable pub words_before : List Formula → ℕ → ℕ
words_before fs zero = 0
words_before fs (suc k) = words_before fs k + needed_words (formula fs k)

-- the words of formula k, out of those of all
abbrev pub formula_words : List Formula → ℕ → List ℕ → List ℕ
formula_words fs k ws = take (needed_words (formula fs k)) (drop (words_before fs k) ws)

-- a part of a words for the left operand and one of c words for the right, then the operator's own block; each operand
-- itself stands where its buffer ends
pub record Parts (Own : List ℕ → Type 0) (Left Right : ℕ → List ℕ → Type 0) (a c : ℕ) (ws : List ℕ) : Type 0 where
  pub own : Own (drop (a + c) ws)
  pub left : Left (taken (drop (a + c) ws) + left_count (drop (a + c) ws)) (take a ws)
  pub right : Right (taken (drop (a + c) ws) + right_count (drop (a + c) ws)) (take c (drop a ws))

-- where there is no operand nothing is asked of its words
abbrev pub Absent : ℕ → List ℕ → Type 0
Absent p ws = Unit {0}

-- the words stand for the subformula at position g of the log: the next that it answers
unfoldable pub State : Formula → Log → ℕ → List ℕ → Type 0
State (letter k) L g = Parts (Ready (letter k) L g) Absent Absent 0 0
State (not φ) L g = Parts (Ready (not φ) L g) Absent (State φ L) 0 (needed_words φ)
State (or φ ψ) L g = Parts (Ready (or φ ψ) L g) (State φ L) (State ψ L) (needed_words φ) (needed_words ψ)
State (previous low high φ) L g = Parts (Ready (previous low high φ) L g) Absent (State φ L) 0 (needed_words φ)
State (next low high φ) L g = Parts (Ready (next low high φ) L g) Absent (State φ L) 0 (needed_words φ)
State (since low high φ ψ) L g = Parts (Ready (since low high φ ψ) L g) (State φ L) (State ψ L) (needed_words φ) (needed_words ψ)
State (until low high φ ψ) L g = Parts (Ready (until low high φ ψ) L g) (State φ L) (State ψ L) (needed_words φ) (needed_words ψ)

-- such parts before and after: what is done to the operator's own block, and to its operands' parts
pub record OnwardParts (first : ℕ) (Left Right : List ℕ → List ℕ → Type 0) (a c : ℕ) (ws ws' : List ℕ) : Type 0 where
  pub own : Onward first (drop (a + c) ws) (drop (a + c) ws')
  pub left : Left (take a ws) (take a ws')
  pub right : Right (take c (drop a ws)) (take c (drop a ws'))

abbrev pub OnwardNone : List ℕ → List ℕ → Type 0
OnwardNone ws ws' = Unit {0}

-- in every block of the subformula no head goes back, and words 12 to 15 are as before, whatever they hold
unfoldable pub OnwardAll : Formula → List ℕ → List ℕ → Type 0
OnwardAll (letter k) = OnwardParts 12 OnwardNone OnwardNone 0 0
OnwardAll (not φ) = OnwardParts 12 OnwardNone (OnwardAll φ) 0 (needed_words φ)
OnwardAll (or φ ψ) = OnwardParts 12 (OnwardAll φ) (OnwardAll ψ) (needed_words φ) (needed_words ψ)
OnwardAll (previous low high φ) = OnwardParts 12 OnwardNone (OnwardAll φ) 0 (needed_words φ)
OnwardAll (next low high φ) = OnwardParts 12 OnwardNone (OnwardAll φ) 0 (needed_words φ)
OnwardAll (since low high φ ψ) = OnwardParts 12 (OnwardAll φ) (OnwardAll ψ) (needed_words φ) (needed_words ψ)
OnwardAll (until low high φ ψ) = OnwardParts 12 (OnwardAll φ) (OnwardAll ψ) (needed_words φ) (needed_words ψ)

-- an operand's blocks, where there is one
abbrev pub OnwardOperand : Bool → Formula → List ℕ → List ℕ → Type 0
OnwardOperand true φ = OnwardAll φ
OnwardOperand false φ = OnwardNone

-- the same of the words of a formula of the rule, but for words 12 and 13 of its own block: those hold what it has answered and was not
-- given yet
abbrev pub OnwardFormula : Formula → List ℕ → List ℕ → Type 0
OnwardFormula φ =
    OnwardParts 14 (OnwardOperand (has_left φ) (left_of φ)) (OnwardOperand (has_right φ) (right_of φ)) (left_words φ) (right_words φ)
