-- The invariants of `rule::decoding::Rule::has_previous`.
use mathlib.Core.Path.{◌≡◌}
use Rattle.mtl.specs.Satisfaction.{any}
use Rattle.rule.specs.Code.{is_previous}
use Rattle.rule.proofs.decoding.Rule.has_previous.Given as goal

abbrev pub invariant-loop-k : goal.invariant-loop-k
invariant-loop-k l = (l.found ≡ any l.k (is_previous l.self.entries))
