-- The invariants of `held::hold`.
use Prim.Native.Nat.{ℕ}
use mathlib.Core.Path.{◌≡◌}
use mathlib.Core.List.{List}
use lib.ListN.{length}
use Rattle.mtl.specs.Formula.{Formula}
use Rattle.window.specs.Window.{Keeps}
use Rattle.held.specs.Code.{plan, Fits}
use Rattle.held.proofs.Holding.{Asked}
use Rattle.held.proofs.hold.Given as goal

abbrev pub invariant-loop-k : goal.invariant-loop-k
invariant-loop-k l = (length l.words ≡ length l.initial.words) × Keeps l.records l.copy × Keeps l.records l.waiting ×
    ((base : ℕ) (fs : List Formula) → Fits (plan l.table l.tops) base fs (length l.initial.words) → Asked base fs l.view l.records l.initial.words l.k l.least l.words)
