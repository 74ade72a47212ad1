-- The invariants of `checkpoint::words::some_noes_outside`.
use mathlib.Core.Path.{◌≡◌}
use Rattle.mtl.specs.Satisfaction.{any}
use Rattle.checkpoint.specs.Checkpoint.{given, noes_outside}
use Rattle.checkpoint.proofs.words.some_noes_outside.Given as goal

abbrev pub invariant-loop-k : goal.invariant-loop-k
invariant-loop-k l = (l.given ≡ given l.point) × (l.outside ≡ any l.k (noes_outside l.most l.point))
