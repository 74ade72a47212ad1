-- The invariants of `rule::decoding::Rule::ends`.
use Rattle.rule.proofs.Marks.{Marking}
use Rattle.rule.proofs.decoding.Rule.ends.Given as goal

abbrev pub invariant-loop-k : goal.invariant-loop-k
invariant-loop-k l = Marking l.self.entries l.at l.depth l.k
