-- The invariants of `window::behind`.
use Prim.Native.Nat.{ℕ, ◌-◌, ◌≤◌}
use mathlib.Core.List.{List}
use Rattle.window.proofs.Windows.{Going}
use Rattle.window.proofs.behind.Given as goal

-- all positions but `left` are passed
abbrev pub Left : List ℕ → (from n left at : ℕ) → Type 0
Left s from n left at = (left ≤ n) × Going s from n (n - left) at

abbrev pub invariant-loop-left : goal.invariant-loop-left
invariant-loop-left l = Left l.records l.from l.n l.left l.at

abbrev pub decreases-loop-left : goal.decreases-loop-left
decreases-loop-left l = l.end - l.at

abbrev pub invariant-loop-left-2 : goal.invariant-loop-left-2
invariant-loop-left-2 l = Left l.records l.from l.n l.left l.at

abbrev pub decreases-loop-left-2 : goal.decreases-loop-left-2
decreases-loop-left-2 l = l.end - l.at
