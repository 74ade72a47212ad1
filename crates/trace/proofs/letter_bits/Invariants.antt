-- The invariant of `trace::letter_bits`.
use Prim.Native.Nat.{◌*◌}
use Rattle.bits.proofs.Laws.{Pushed}
use Rattle.trace.specs.Format.{has_letter}
use Rattle.trace.proofs.letter_bits.Given as goal

abbrev pub invariant-loop-group : goal.invariant-loop-group
invariant-loop-group l = Pushed (has_letter l.records l.letter) l.from (l.group * 32) l.answers
