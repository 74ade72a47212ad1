-- The invariants of `rule::decoding::Rule::read`.
use Rattle.rule.proofs.Run.{Running}
use Rattle.rule.proofs.decoding.Rule.read.Given as goal

abbrev pub invariant-loop-k : goal.invariant-loop-k
invariant-loop-k l = Running l.of l.self.entries l.stack l.depth l.k
