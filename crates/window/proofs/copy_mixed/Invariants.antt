-- The invariant of `window::copy_mixed`.
use Rattle.window.specs.Window.{Copied}
use Rattle.window.proofs.copy_mixed.Given as goal

abbrev pub invariant-loop-i : goal.invariant-loop-i
invariant-loop-i l = Copied l.records l.from l.i l.initial.copy l.k l.copy l.copied
