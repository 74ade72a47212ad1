-- What a checkpoint's words stand for between two verdicts: each formula's last entry is a buffered operand, whose answers that were not
-- given yet stand in words 12 and 13 of its own block.
use Rattle.std.specs.Prelude.{ℕ, ◌+◌, ◌≤◌, ◌<◌, ◌≡◌, List, length, take, drop}
use Rattle.mtl.specs.Formula.{Formula}
use Rattle.mtl.specs.Log.{Log}
use Rattle.rule.specs.Postfix.{formula}
use Rattle.blocks.specs.Block.{word, Buffer}
use Rattle.engine.specs.State.{needed_words, own_at, words_before, State}
use Rattle.checkpoint.specs.Checkpoint.{given}

-- for how many positions a formula holds answers, and the word of these answers
abbrev pub top_count : Formula → List ℕ → ℕ
top_count φ ws = word ws (own_at φ + 12)

abbrev pub top_bits : Formula → List ℕ → ℕ
top_bits φ ws = word ws (own_at φ + 13)

-- a formula, d of whose answers were given: those that it holds, and its state behind them
pub record Waiting (φ : Formula) (L : Log) (d : ℕ) (ws : List ℕ) : Type 0 where
  pub buffer : Buffer φ L d (top_count φ ws) (top_bits φ ws)
  pub state : State φ L (d + top_count φ ws) ws

-- the words of formula k, behind so many words of the checkpoint's own and the words of the formulas before it
abbrev pub part_of : (base : ℕ) (fs : List Formula) (k : ℕ) → List ℕ → List ℕ
part_of base fs k ws = take (needed_words (formula fs k)) (drop (base + words_before fs k) ws)

-- all formulas of a rule
pub record Top (base : ℕ) (fs : List Formula) (L : Log) (d : ℕ) (ws : List ℕ) : Type 0 where
  pub at : given ws ≡ d
  pub within : d ≤ L.size
  pub each : (k : ℕ) → k < length fs → Waiting (formula fs k) L d (part_of base fs k ws)
