-- Where the formulas of a rule stand: of each its last entry, where its words begin and end, and where its last entry's block holds what was
-- answered and not given yet.
use Rattle.std.specs.Prelude.{ℕ, suc, ◌+◌, ◌≤◌, ◌<◌, ◌≡◌, List, length, get_or}
use Rattle.mtl.specs.Formula.{Formula}
use Rattle.rule.specs.declared.Entry.{Entry}
use Rattle.rule.specs.Postfix.{formula, start}
use Rattle.rule.specs.Accepted.{Whole, WellFormed}
use Rattle.engine.specs.State.{needed_words, words_before, own_at}
use Rattle.engine.specs.Table.{row_at, RowsOk, Has}
use Rattle.engine.specs.Layout.{Laid}
use Rattle.engine.specs.declared.table.Row.{Row}
use Rattle.engine.specs.declared.tops.Top.{Top}

-- a place whose numbers are all 0
abbrev pub no_top : Top
no_top = record { entry = 0; from = 0; to = 0; held = 0 }

-- the place of formula k
abbrev pub top_at : List Top → ℕ → Top
top_at tops k = get_or tops k no_top

-- where the answers of formula k are held
abbrev pub held_at : List Top → ℕ → ℕ
held_at tops k = (top_at tops k).held

-- the place of formula k, where the words of the first formula begin at base
pub record TopRow (table : List Row) (tops : List Top) (base : ℕ) (fs : List Formula) (k : ℕ) : Type 0 where
  pub entry : (top_at tops k).entry < 128
  pub rows : RowsOk table (top_at tops k).entry
  pub has : Has (formula fs k) table (top_at tops k).entry
  pub words : (row_at table (top_at tops k).entry).words ≡ needed_words (formula fs k)
  pub from : (top_at tops k).from ≡ base + words_before fs k
  pub to : (top_at tops k).to ≡ base + words_before fs (suc k)
  pub held : held_at tops k ≡ base + words_before fs k + own_at (formula fs k) + 12

pub record Tops (table : List Row) (tops : List Top) (base : ℕ) (fs : List Formula) : Type 0 where
  pub number : length tops ≡ length fs
  pub few : length fs ≤ 8
  pub each : (k : ℕ) → k < length fs → TopRow table tops base fs k

-- the n entries of t are these formulas, and `ends` has for each the number of entries up to and with its last
pub record Ended (t : List Entry) (n : ℕ) (ends : List ℕ) (count : ℕ) (fs : List Formula) : Type 0 where
  pub whole : Whole t n fs
  pub number : count ≡ length fs
  pub few : length fs ≤ 8
  pub at : (k : ℕ) → k < length fs → get_or ends k 0 ≡ start fs (suc k)

-- the n entries of t are laid out in the table, and are these formulas
pub record LaidAs (t : List Entry) (n : ℕ) (table : List Row) (ends : List ℕ) (count : ℕ) (fs : List Formula) : Type 0 where
  pub few : n ≤ 128
  pub well_formed : WellFormed t n
  pub rows : Laid t n table
  pub ended : Ended t n ends count fs
