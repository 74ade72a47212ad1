-- Lines in a text, and what the functions that write an entry's lines promise.
use Rattle.std.specs.Prelude.{ℕ, ◌+◌, ◌-◌, ◌*◌, ◌≤◌, Bool, ◌||◌, ◌≡◌, List, ◌++◌, length, take}
use Rattle.window.specs.declared.view.View.{View}
use Rattle.window.specs.declared.KeptCopy.{KeptCopy}
use Rattle.mtl.specs.Formula.{Formula}
use Rattle.mtl.specs.Log.{Log}
use Rattle.mtl.specs.Satisfaction.{sat}
use Rattle.rule.specs.Postfix.{size}
use Rattle.engine.specs.Table.{row_at, kind_at}
use Rattle.engine.specs.declared.table.Row.{Row}
use Rattle.decimal.specs.Written.{Room}
use Rattle.decimal.specs.declared.Text.{Text}
use Rattle.reasons.specs.Reason.{Line, either, reason}
use Rattle.reasons.specs.Text.{text}
use Rattle.sentences.specs.Said.{Lent, Answering}

-- bytes written from `at` on: what stood before them is kept, what stands behind them is free
pub record Wrote (text : List ℕ) (at : ℕ) (bytes : List ℕ) (end : ℕ) (text' : List ℕ) : Type 0 where
  pub ends : end ≡ at + length bytes
  pub content : take end text' ≡ take at text ++ bytes

-- a text that grows in its buffer, by at most so many bytes
pub record Grows (text₀ : Text) (most : ℕ) (text' : Text) : Type 0 where
  pub same : text'.bytes.ghost_name ≡ text₀.bytes.ghost_name
  pub size : length text'.bytes.now ≡ length text₀.bytes.now
  pub starts : text₀.at ≤ text'.at
  pub room : text'.at ≤ text₀.at + most

-- what is lent to the function that tells of entry k: each entry has 16 words or more, and its line has 34 bytes at most
pub record Telling (t : List Row) (v : View) (s words : List ℕ) (copy waiting : KeptCopy) (k i : ℕ) (text : Text) : Type 0 where
  pub lent : Lent t v s words copy waiting k
  pub far : i + k ≤ 2000000
  pub space : Room text (3 * (row_at t k).words)

-- the lines of entry k are the reason of the formula that ends there
pub record Tells (t : List Row) (v : View) (s : List ℕ) (k i : ℕ) (text₀ : Text) (holds : Bool) (text' : Text) : Type 0 where
  pub grows : Grows text₀ (3 * (row_at t k).words) text'
  pub meaning : (φ : Formula) (L : Log) → Answering φ t v s k L i → (holds ≡ sat φ L i) × Wrote text₀.bytes.now text₀.at (text (reason φ k L i)) text'.at text'.bytes.now

-- what is lent to the function that tells of an or's operands, in their room
pub record TellingEither (t : List Row) (v : View) (s words : List ℕ) (copy waiting : KeptCopy) (k i : ℕ) (text : Text) : Type 0 where
  pub lent : Lent t v s words copy waiting k
  pub kind : kind_at t k ≡ 2
  pub far : i + k ≤ 2000000
  pub space : Room text (3 * ((row_at t k).left_words + (row_at t k).right_words))

-- the lines behind that of an or
abbrev pub either_lines : (φ ψ : Formula) (k : ℕ) → Log → (i : ℕ) → List Line
either_lines φ ψ k L i = either (sat φ L i) (sat ψ L i) (reason φ (k - 1 - size ψ) L i) (reason ψ (k - 1) L i)

-- they are written, and whether the or holds is known from them
pub record TellsEither (t : List Row) (v : View) (s : List ℕ) (k i : ℕ) (text₀ : Text) (holds : Bool) (text' : Text) : Type 0 where
  pub grows : Grows text₀ (3 * ((row_at t k).left_words + (row_at t k).right_words)) text'
  pub meaning : (φ ψ : Formula) (L : Log) → Answering (Formula.or φ ψ) t v s k L i →
      (holds ≡ (sat φ L i || sat ψ L i)) × Wrote text₀.bytes.now text₀.at (text (either_lines φ ψ k L i)) text'.at text'.bytes.now
