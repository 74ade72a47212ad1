-- Texts that are being written into a lent buffer.
use Rattle.std.specs.Prelude.{ℕ, ◌+◌, ◌-◌, ◌≤◌, ◌≡◌, List, ◌++◌, length, take, drop}
use Rattle.std.specs.Borrow.{MutBor}
use Rattle.decimal.specs.Text.{Writes}
use Rattle.decimal.specs.declared.Text.{Text}

-- nothing written yet into this buffer
pub record Begins (bytes : MutBor (List ℕ)) (t : Text) : Type 0 where
  pub same : t.bytes.ghost_name ≡ bytes.ghost_name
  pub lent : t.bytes.now ≡ bytes.now
  pub nothing : t.at ≡ 0

-- there is room for n more bytes
abbrev pub Room : Text → ℕ → Type 0
Room t n = t.at + n ≤ length t.bytes.now

-- a piece behind what was written, in the same buffer
pub record Puts (t : Text) (piece : List ℕ) (t' : Text) : Type 0 where
  pub same : t'.bytes.ghost_name ≡ t.bytes.ghost_name
  pub size : length t'.bytes.now ≡ length t.bytes.now
  pub fits : t'.at ≤ length t.bytes.now
  pub writes : Writes t.bytes.now t.at piece t'.at t'.bytes.now

-- the bytes from one place up to another are out, and those behind them stand in their place; what stands behind the text is free
pub record Cuts (t : Text) (from to : ℕ) (t' : Text) : Type 0 where
  pub same : t'.bytes.ghost_name ≡ t.bytes.ghost_name
  pub size : length t'.bytes.now ≡ length t.bytes.now
  pub ends : t'.at ≡ from + (t.at - to)
  pub content : take t'.at t'.bytes.now ≡ take from t.bytes.now ++ take (t.at - to) (drop to t.bytes.now)
