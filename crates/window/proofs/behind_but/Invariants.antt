-- The invariants of `window::behind_but`.
use Rattle.window.proofs.Windows.{Down}
use Rattle.window.proofs.behind_but.Given as goal

abbrev pub invariant-loop-at : goal.invariant-loop-at
invariant-loop-at l = Down l.records l.from l.end l.n l.left l.at

abbrev pub decreases-loop-at : goal.decreases-loop-at
decreases-loop-at l = l.at
