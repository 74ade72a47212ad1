-- The invariant of `trace::alternate_eight`.
use Prim.Native.Nat.{◌+◌, ◌-◌, ◌*◌}
use Rattle.trace.specs.Format.{has_letter}
use Rattle.trace.specs.Letters.{place_of, every_other, Raised}
use Rattle.trace.proofs.alternate_eight.Given as goal

abbrev pub invariant-loop-i : goal.invariant-loop-i
invariant-loop-i l = Raised (every_other (has_letter l.records l.letter) l.from) (l.i * 2) (place_of l.letter + 2 - l.i * 2) l.answers
