-- The invariant of `verdicts::eight::write_word`.
use Prim.Native.Nat.{◌*◌}
use mathlib.Core.List.{[], ◌∷◌}
use mathlib.Core.Path.{◌≡◌}
use lib.ListN.{length}
use Rattle.verdicts.proofs.Written.{written}
use Rattle.verdicts.proofs.eight.write_word.Given as goal

abbrev pub invariant-loop-group : goal.invariant-loop-group
invariant-loop-group l = (length l.sheet ≡ length l.initial.sheet) × (l.sheet ≡ written l.from (8 * l.group) (l.bits ∷ []) l.initial.sheet)
