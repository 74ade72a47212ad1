-- The invariant of `verdicts::counting::write_counts`.
use mathlib.Core.Bool.{true, false}
use mathlib.Core.List.{◌++◌}
use mathlib.Core.Path.{◌≡◌}
use lib.ListN.{length, drop}
use Rattle.verdicts.specs.Counts.{counts}
use Rattle.verdicts.proofs.counting.write_counts.Given as goal

abbrev pub invariant-loop-k : goal.invariant-loop-k
invariant-loop-k l = (length l.no ≡ length l.initial.no)
    × (length l.yes ≡ length l.initial.yes)
    × (l.no ≡ counts false l.k l.sheet ++ drop l.k l.initial.no)
    × (l.yes ≡ counts true l.k l.sheet ++ drop l.k l.initial.yes)
