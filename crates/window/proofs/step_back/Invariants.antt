-- The invariants of `window::step_back`.
use Rattle.window.proofs.Windows.{Back}
use Rattle.window.proofs.step_back.Given as goal

abbrev pub invariant-loop-left : goal.invariant-loop-left
invariant-loop-left l = Back l.records l.n l.left l.at

abbrev pub decreases-loop-left : goal.decreases-loop-left
decreases-loop-left l = l.at
