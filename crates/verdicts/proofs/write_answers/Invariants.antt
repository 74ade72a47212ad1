-- The invariant of `verdicts::write_answers`.
use Prim.Native.Nat.{◌*◌}
use mathlib.Core.Path.{◌≡◌}
use lib.ListN.{length, take}
use Rattle.verdicts.proofs.Written.{written}
use Rattle.verdicts.proofs.write_answers.Given as goal

abbrev pub invariant-loop-group : goal.invariant-loop-group
invariant-loop-group l = (length l.sheet ≡ length l.initial.sheet) × (l.sheet ≡ written l.from (8 * l.group) (take l.columns l.answers) l.initial.sheet)
