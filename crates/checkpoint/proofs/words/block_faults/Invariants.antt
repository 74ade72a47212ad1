-- The invariants of `checkpoint::words::block_faults`.
use mathlib.Core.Path.{◌≡◌}
use Rattle.mtl.specs.Satisfaction.{any}
use Rattle.checkpoint.specs.Checkpoint.{given, seen, copy_differs, block_outside}
use Rattle.rule.specs.Words.{header_words}
use Rattle.checkpoint.proofs.Offsets.{Walk}
use Rattle.checkpoint.proofs.words.block_faults.Given as goal

abbrev pub invariant-loop-k : goal.invariant-loop-k
invariant-loop-k l = Walk (header_words l.rule.version) l.rule.entries l.rule.count l.at l.k × (l.given ≡ given l.point) × (l.size ≡ seen l.point) × (l.copies ≡ any l.k (copy_differs (header_words l.rule.version) l.rule.entries l.point)) × (l.ranges ≡ any l.k (block_outside (header_words l.rule.version) l.rule.entries l.point))
