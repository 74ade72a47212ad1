-- What the layers above rely on of a rule that weighing accepts.
use Rattle.std.specs.Prelude.{ℕ, ◌+◌, ◌-◌, ◌*◌, ◌≤◌, ◌<◌, ◌≡◌, ◌⊎◌, List, length}
use Rattle.std.proofs.Math.Option.{some}
use Rattle.mtl.specs.Formula.{Formula, unbounded}
use Rattle.rule.specs.declared.Entry.{Entry}
use Rattle.rule.specs.Entries.{version, count, decoded, entries, entry}
use Rattle.rule.specs.Words.{offset, words, limit}
use Rattle.rule.specs.Postfix.{fewest_formulas, most_formulas, formulas, postfixes, size, formula, start}
use Rattle.rule.specs.Operands.{operands, span, FormulaAt, Leaf, Unary, Binary}

-- "Low and a finite high are 0 to 3,600 seconds, low not above high. High 4,294,967,295 means no upper end and is allowed for
-- previous and since only", and by request 6 for next. "An unused field is zero."
pub record FieldsInRange (e : Entry) : Type 0 where
  pub kind : e.kind ≤ 6
  pub letter : e.letter ≤ 31
  pub low : e.low ≤ 3600
  pub order : e.low ≤ e.high
  pub high : (e.high ≤ 3600) ⊎ ((e.high ≡ unbounded) × (3 ≤ e.kind) × (e.kind ≤ 5))
  pub no_letter : 0 < e.kind → e.letter ≡ 0
  pub no_interval : e.kind < 3 → (e.low ≡ 0) × (e.high ≡ 0)

-- of a decoded rule t with n entries
pub record WellFormed (t : List Entry) (n : ℕ) : Type 0 where
  pub in_range : (k : ℕ) → k < n → FieldsInRange (entry t k)
  pub subformula : (k : ℕ) → k < n → (φ : Formula) × FormulaAt t k φ
  pub leaf : (k : ℕ) → k < n → operands (entry t k).kind ≡ 0 → Leaf t k
  pub unary : (k : ℕ) → k < n → operands (entry t k).kind ≡ 1 → Unary t k
  pub binary : (k : ℕ) → k < n → operands (entry t k).kind ≡ 2 → Binary t k
  pub within : offset t n ≤ limit

-- the formula's entries are those from `at` on
pub record Stretch (t : List Entry) (at : ℕ) (φ : Formula) : Type 0 where
  pub at_last : FormulaAt t (at + size φ - 1) φ
  pub spans : span t (at + size φ - 1) ≡ size φ

-- the n entries are these formulas, one after the other
pub record Whole (t : List Entry) (n : ℕ) (fs : List Formula) : Type 0 where
  pub each : (k : ℕ) → k < length fs → Stretch t (start fs k) (formula fs k)
  pub all : start fs (length fs) ≡ n

-- of the rule's bytes
pub record Accepted (s : List ℕ) : Type 0 where
  pub one_or_two : (version s ≡ 1) ⊎ (version s ≡ 2)
  pub few_entries : count s ≤ 128
  pub size : length s ≡ 8 + count s * 10
  pub well_formed : WellFormed (decoded s) (count s)
  pub need : words (version s) (decoded s) (count s) ≤ limit
  pub the_formulas : List Formula
  pub reads : formulas (version s) (decoded s) (count s) ≡ some the_formulas
  pub enough : fewest_formulas (version s) ≤ length the_formulas
  pub not_more : length the_formulas ≤ most_formulas (version s)
  pub whole : Whole (decoded s) (count s) the_formulas
  pub read_back : postfixes the_formulas ≡ entries s
  pub only : (fs : List Formula) → postfixes fs ≡ entries s → fs ≡ the_formulas
