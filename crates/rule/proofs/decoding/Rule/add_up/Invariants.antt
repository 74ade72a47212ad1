-- The invariants of `rule::decoding::Rule::add_up`.
use Prim.Native.Nat.{◌≤◌, ◌*◌}
use mathlib.Core.Path.{◌≡◌}
use Rattle.rule.specs.Code.{totals}
use Rattle.rule.proofs.decoding.Rule.add_up.Given as goal

abbrev pub invariant-loop-k : goal.invariant-loop-k
invariant-loop-k l = (l.sums ≡ totals l.self.entries l.k) × (l.sums.words ≤ l.k * 8589934610)
