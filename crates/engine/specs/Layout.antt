-- The decoded rule laid out as the table that the engine reads (specs/Table), by the rule's own definitions.
use Rattle.std.specs.Prelude.{ℕ, suc, ◌+◌, ◌-◌, ◌≤◌, ◌<◌, Bool, cond, ◌≡◌, List, get_or}
use Rattle.rule.specs.declared.Entry.{Entry}
use Rattle.rule.specs.Entries.{entry}
use Rattle.rule.specs.Words.{own}
use Rattle.rule.specs.Operands.{span, left, subformula_words}
use Rattle.blocks.specs.Kinds.{takes_left, takes_right}
use Rattle.rule.specs.Kinds.{number_of_kind}
use Rattle.engine.specs.Table.{no_row, row_at}
use Rattle.engine.specs.declared.table.Row.{Row}

-- the first entry of the subformula that ends at entry k
abbrev pub subformula_first : List Entry → ℕ → ℕ
subformula_first t k = suc k - span t k

-- that entry, and the left operand's, from those of the entries before k
abbrev pub first_from : (kind k : ℕ) → List ℕ → ℕ
first_from kind k firsts =
    cond (takes_left kind) (get_or firsts (get_or firsts (k - 1) 0 - 1) 0) (cond (takes_right kind) (get_or firsts (k - 1) 0) k)

abbrev pub left_from : (takes : Bool) (k : ℕ) → List ℕ → ℕ
left_from takes k firsts = cond takes (get_or firsts (k - 1) 0 - 1) 0

-- an entry's row, from its left operand's entry and its operands' words
pub record RowOfEntry (e : Entry) (at left_words right_words : ℕ) (r : Row) : Type 0 where
  pub kind : number_of_kind r.kind ≡ e.kind
  pub letter : r.letter ≡ e.letter
  pub low : r.low ≡ e.low
  pub high : r.high ≡ e.high
  pub left : r.left ≡ at
  pub left_is : r.left_words ≡ left_words
  pub right_is : r.right_words ≡ right_words
  pub words : r.words ≡ left_words + right_words + own e

-- the row of entry k; 0 stands for an operand that it does not take
abbrev pub EntryRow : List Entry → ℕ → Row → Type 0
EntryRow t k =
    RowOfEntry
    (entry t k)
    (cond (takes_left (entry t k).kind) (left t k) 0)
    (cond (takes_left (entry t k).kind) (subformula_words t (left t k)) 0)
    (cond (takes_right (entry t k).kind) (subformula_words t (k - 1)) 0)

-- the table holds the rows of the first n entries, and zeros behind them
pub record Laid (t : List Entry) (n : ℕ) (table : List Row) : Type 0 where
  pub rows : (k : ℕ) → k < n → EntryRow t k (row_at table k)
  pub rest : (k : ℕ) → n ≤ k → row_at table k ≡ no_row
