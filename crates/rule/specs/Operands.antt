-- Where an entry's operands stand among the entries, and where the words of a subformula stand among the words.
use Rattle.std.specs.Prelude.{ℕ, zero, suc, ◌+◌, ◌-◌, ◌<◌, ◌≡◌, List, [], ◌∷◌, ◌++◌, get_or}
use Rattle.mtl.specs.Formula.{Formula}
use Rattle.mtl.specs.Formula.Formula.{letter, not, or, previous, next, since, until}
use Rattle.rule.specs.declared.Entry.{Entry}
use Rattle.rule.specs.Entries.{entry}
use Rattle.rule.specs.Words.{own, offset}
use Rattle.rule.specs.Postfix.{root}

-- the column of operands in the table of kinds; for a kind that is not in it, more than any stack holds
abbrev pub operands : ℕ → ℕ
operands kind = get_or (0 ∷ 1 ∷ 2 ∷ 1 ∷ 1 ∷ 2 ∷ 2 ∷ []) kind 200

-- the span of entry n from the number of its operands and the spans of the entries before it
abbrev pub next_span : ℕ → List ℕ → ℕ → ℕ
next_span zero before n = 1
next_span (suc zero) before n = 1 + get_or before (n - 1) 0
next_span (suc (suc more)) before n = 1 + get_or before (n - 1) 0 + get_or before (n - 1 - get_or before (n - 1) 0) 0

-- the spans of the first n entries
unfoldable pub spans : List Entry → ℕ → List ℕ
spans t zero = []
spans t (suc n) = spans t n ++ (next_span (operands (entry t n).kind) (spans t n) n ∷ [])

-- the number of entries of the subformula that ends at entry k
abbrev pub span : List Entry → ℕ → ℕ
span t k = get_or (spans t (suc k)) k 0

-- The right operand, or the only one, is entry k - 1; the left one stands before the right one's first entry.
abbrev pub left : List Entry → ℕ → ℕ
left t k = k - 1 - span t (k - 1)

-- the words of the subformula that ends at entry k: from those of its first entry up to and with its own
abbrev pub subformula_words : List Entry → ℕ → ℕ
subformula_words t k = offset t (suc k) - offset t (suc k - span t k)

-- the subformula that ends at entry k
unfoldable pub FormulaAt : List Entry → ℕ → Formula → Type 0
FormulaAt t k (letter l) = entry t k ≡ root (letter l)
FormulaAt t k (not φ) = (entry t k ≡ root (not φ)) × (0 < k) × FormulaAt t (k - 1) φ
FormulaAt t k (or φ ψ) = (entry t k ≡ root (or φ ψ)) × (span t (k - 1) < k) × FormulaAt t (left t k) φ × FormulaAt t (k - 1) ψ
FormulaAt t k (previous low high φ) = (entry t k ≡ root (previous low high φ)) × (0 < k) × FormulaAt t (k - 1) φ
FormulaAt t k (next low high φ) = (entry t k ≡ root (next low high φ)) × (0 < k) × FormulaAt t (k - 1) φ
FormulaAt t k (since low high φ ψ) =
    (entry t k ≡ root (since low high φ ψ)) × (span t (k - 1) < k) × FormulaAt t (left t k) φ × FormulaAt t (k - 1) ψ
FormulaAt t k (until low high φ ψ) =
    (entry t k ≡ root (until low high φ ψ)) × (span t (k - 1) < k) × FormulaAt t (left t k) φ × FormulaAt t (k - 1) ψ

-- an entry with no operand
pub record Leaf (t : List Entry) (k : ℕ) : Type 0 where
  pub span_is : span t k ≡ 1
  pub part_is : subformula_words t k ≡ own (entry t k)

-- an entry with one operand, which is entry k - 1
pub record Unary (t : List Entry) (k : ℕ) : Type 0 where
  pub below : 0 < k
  pub span_is : span t k ≡ 1 + span t (k - 1)
  pub part_is : subformula_words t k ≡ subformula_words t (k - 1) + own (entry t k)

-- an entry with two operands, entries left t k and k - 1
pub record Binary (t : List Entry) (k : ℕ) : Type 0 where
  pub below : span t (k - 1) < k
  pub span_is : span t k ≡ 1 + span t (k - 1) + span t (left t k)
  pub part_is : subformula_words t k ≡ subformula_words t (left t k) + subformula_words t (k - 1) + own (entry t k)
