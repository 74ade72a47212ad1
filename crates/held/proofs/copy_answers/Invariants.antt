-- The invariants of `held::copy_answers`.
use Prim.Native.Nat.{ℕ, ◌+◌, ◌-◌, ◌<◌, ◌^◌}
use mathlib.Core.Path.{◌≡◌}
use lib.ListN.{length, get_or}
use Rattle.blocks.specs.Block.{word}
use Rattle.engine.specs.Tops.{held_at}
use Rattle.held.proofs.copy_answers.Given as goal

abbrev pub invariant-loop-k : goal.invariant-loop-k
invariant-loop-k l = (length l.answers ≡ 8) × ((j : ℕ) → j < l.k → get_or l.answers j 0 ≡ word l.words (held_at l.tops j + 1)) × (l.k ≡ 0 → get_or l.answers 0 0 ≡ 2 ^ 64 - 1)
