-- The decoded rule as the engine reads it: a row for each entry.
use Rattle.std.specs.Prelude.{ℕ, ◌+◌, ◌-◌, ◌≤◌, ◌<◌, ◌^◌, true, ◌≡◌, List, get_or}
use Rattle.mtl.specs.Formula.{Formula}
use Rattle.mtl.specs.Formula.Formula.{letter, not, or, previous, next, since, until}
use Rattle.rule.specs.Words.{own_words}
use Rattle.rule.specs.Kinds.{number_of_kind}
use Rattle.rule.specs.declared.kind.Kind.TheVariants.{Letter}
use Rattle.blocks.specs.Kinds.{takes_left, takes_right, Fields}
use Rattle.engine.specs.State.{left_words, right_words}
use Rattle.engine.specs.declared.table.Row.{Row}

-- a letter's row whose numbers are all 0
abbrev pub no_row : Row
no_row = record { kind = Letter; letter = 0; left = 0; low = 0; high = 0; left_words = 0; right_words = 0; words = 0 }

-- the row of entry k
abbrev pub row_at : List Row → ℕ → Row
row_at t k = get_or t k no_row

-- the number of its kind
abbrev pub kind_at : List Row → ℕ → ℕ
kind_at t k = number_of_kind (row_at t k).kind

-- what every row of an accepted rule keeps to
pub record RowOk (t : List Row) (k : ℕ) : Type 0 where
  pub letter : (row_at t k).letter < 32
  pub high : (row_at t k).high < 2 ^ 32
  pub left : takes_left (kind_at t k) ≡ true → ((row_at t k).left < k) × ((row_at t (row_at t k).left).words ≡ (row_at t k).left_words)
  pub right : takes_right (kind_at t k) ≡ true → (0 < k) × ((row_at t (k - 1)).words ≡ (row_at t k).right_words)
  pub words : (row_at t k).words ≡ (row_at t k).left_words + (row_at t k).right_words + own_words (kind_at t k) (row_at t k).high
  pub bound : (row_at t k).words ≤ 8192

abbrev pub RowsOk : List Row → ℕ → Type 0
RowsOk t k = (j : ℕ) → j ≤ k → RowOk t j

-- row k is that of the formula's last operator
pub record RowOf (φ : Formula) (t : List Row) (k : ℕ) : Type 0 where
  pub fields : Fields φ (kind_at t k) (row_at t k).letter (row_at t k).low (row_at t k).high
  pub left_words : (row_at t k).left_words ≡ left_words φ
  pub right_words : (row_at t k).right_words ≡ right_words φ

-- the table has the formula at entry k; the right operand is the entry before
unfoldable pub Has : Formula → List Row → ℕ → Type 0
Has (letter c) t k = RowOf (letter c) t k
Has (not φ) t k = RowOf (not φ) t k × Has φ t (k - 1)
Has (or φ ψ) t k = RowOf (or φ ψ) t k × Has φ t (row_at t k).left × Has ψ t (k - 1)
Has (previous low high φ) t k = RowOf (previous low high φ) t k × Has φ t (k - 1)
Has (next low high φ) t k = RowOf (next low high φ) t k × Has φ t (k - 1)
Has (since low high φ ψ) t k = RowOf (since low high φ ψ) t k × Has φ t (row_at t k).left × Has ψ t (k - 1)
Has (until low high φ ψ) t k = RowOf (until low high φ ψ) t k × Has φ t (row_at t k).left × Has ψ t (k - 1)
