-- The invariant of `window::count_many`.
use Prim.Native.Nat.{◌*◌}
use Rattle.window.specs.Window.{Counted}
use Rattle.window.proofs.count_many.Given as goal

abbrev pub invariant-loop-group : goal.invariant-loop-group
invariant-loop-group l = Counted l.records l.from (l.group * 8) l.found
