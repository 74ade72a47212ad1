-- The invariants of `held::take_verdicts`.
use mathlib.Core.Path.{◌≡◌}
use Rattle.engine.specs.Tops.{held_at}
use Rattle.held.specs.Code.{taken_out}
use Rattle.held.proofs.take_verdicts.Given as goal

abbrev pub invariant-loop-k : goal.invariant-loop-k
invariant-loop-k l = l.words ≡ taken_out (held_at l.tops) l.most l.given l.n l.k l.initial.words
