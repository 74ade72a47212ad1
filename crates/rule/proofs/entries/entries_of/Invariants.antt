-- The invariants of `rule::entries::entries_of`.
use mathlib.Core.Path.{◌≡◌}
use Rattle.rule.specs.Contract.{filled}
use Rattle.rule.proofs.entries.entries_of.Given as goal

abbrev pub invariant-loop-k : goal.invariant-loop-k
invariant-loop-k l = (l.entries ≡ filled l.rule l.k)
