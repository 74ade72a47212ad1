-- The invariants of `window::gather`.
use Prim.Native.Nat.{◌-◌}
use Rattle.window.proofs.Windows.{Gathering}
use Rattle.window.proofs.gather.Given as goal

abbrev pub invariant-loop-copy : goal.invariant-loop-copy
invariant-loop-copy l = Gathering l.records l.from l.k l.at l.copy

abbrev pub decreases-loop-copy : goal.decreases-loop-copy
decreases-loop-copy l = l.end - l.at

abbrev pub invariant-loop-copy-2 : goal.invariant-loop-copy-2
invariant-loop-copy-2 l = Gathering l.records l.from l.k l.at l.copy

abbrev pub decreases-loop-copy-2 : goal.decreases-loop-copy-2
decreases-loop-copy-2 l = l.end - l.at
