-- The invariants of `emit::give_all`.
use Prim.Native.Nat.{◌-◌}
use mathlib.Core.Path.{◌≡◌}
use lib.ListN.{length}
use Rattle.window.specs.Window.{Keeps}
use Rattle.emit.proofs.Turns.{Underway}
use Rattle.emit.proofs.give_all.Given as goal

abbrev pub invariant-loop-answers : goal.invariant-loop-answers
invariant-loop-answers l = (length l.answers ≡ 8) × Underway l.table l.tops l.most l.view l.records l.initial.words l.initial.sheet l.done l.words l.sheet × Keeps l.records l.copy × Keeps l.records l.waiting

abbrev pub decreases-loop-answers : goal.decreases-loop-answers
decreases-loop-answers l = length l.initial.sheet - l.done
