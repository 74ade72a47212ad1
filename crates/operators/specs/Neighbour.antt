-- What previous and next take of their operand: its next n answers, each where the gap behind its position or before it lies in the
-- interval.
use Rattle.std.specs.Prelude.{ℕ, ◌+◌, ◌≤◌, ◌<◌, Bool, ◌&&◌, List, ◌≡◌, set}
use Rattle.window.specs.declared.view.View.{View}
use Rattle.mtl.specs.Log.{Log, head_of}
use Rattle.bits.specs.Packed.{Packed}
use Rattle.blocks.specs.Block.{right_bits, head, took_right}
use Rattle.blocks.specs.Near.{near_after}
use Rattle.blocks.specs.Step.{Agrees}

-- where the head stood at position p of the log: whatever the operand's n answers are, and where it stands then
pub record Gaps (low high : ℕ) (L : Log) (p : ℕ) (b : List ℕ) (n r : ℕ) (b' : List ℕ) : Type 0 where
  pub answers : (operand : ℕ → Bool) → Packed operand 0 n (right_bits b) → Packed (λ i. near_after low high L.time (p + i) && operand i) 0 n r
  pub head : head b' ≡ head_of L (p + n)

-- n answers taken as r, on any words and where these stand for a log
pub record TookNear (low high : ℕ) (v : View) (s b : List ℕ) (n r : ℕ) (b' : List ℕ) : Type 0 where
  pub words : b' ≡ set (took_right n b) 11 (head b')
  pub onward : head b ≤ head b'
  pub gaps : (L : Log) (p : ℕ) → Agrees v s L p → head b ≡ head_of L p → p + n < L.size → Gaps low high L p b n r b'
