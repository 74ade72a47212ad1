-- The invariant of `verdicts::counting::count_yes`.
use Prim.Native.Nat.{◌≤◌}
use mathlib.Core.Bool.{true}
use mathlib.Core.Path.{◌≡◌}
use Rattle.verdicts.specs.Counts.{count_of}
use Rattle.verdicts.proofs.counting.count_yes.Given as goal

abbrev pub invariant-loop-verdict : goal.invariant-loop-verdict
invariant-loop-verdict l = (l.count ≡ count_of true l.k l.sheet l.verdict-index) × (l.count ≤ l.verdict-index)
