-- The invariant of `window::count_mixed`.
use Rattle.window.specs.Window.{Counted}
use Rattle.window.proofs.count_mixed.Given as goal

abbrev pub invariant-loop-i : goal.invariant-loop-i
invariant-loop-i l = Counted l.records l.from l.i l.found
