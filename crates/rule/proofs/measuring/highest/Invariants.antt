-- The invariants of `rule::measuring::highest`.
use mathlib.Core.Path.{◌≡◌}
use Rattle.rule.specs.Code.{greatest}
use Rattle.rule.proofs.measuring.highest.Given as goal

abbrev pub invariant-loop-at : goal.invariant-loop-at
invariant-loop-at l = (l.most ≡ greatest l.stack l.at)
