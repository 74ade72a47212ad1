-- The invariant of `window::pick_mixed`.
use mathlib.Core.Bool.{true}
use Rattle.bits.proofs.Laws.{Pushed}
use Rattle.window.specs.Window.{letter_at, Counted}
use Rattle.window.proofs.pick_mixed.Given as goal

abbrev pub invariant-loop-i : goal.invariant-loop-i
invariant-loop-i l = Counted l.records l.from l.i l.count × Pushed (letter_at true l.records l.letter l.from) 0 l.count l.bits
