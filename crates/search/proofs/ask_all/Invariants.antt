-- The invariants of `search::ask_all`.
use Prim.Native.Nat.{◌-◌, ◌≤◌}
use mathlib.Core.Path.{◌≡◌}
use lib.ListN.{length}
use Rattle.window.specs.Window.{Keeps}
use Rattle.search.proofs.Asking.{Going}
use Rattle.search.proofs.ask_all.Given as goal

abbrev pub invariant-loop-done : goal.invariant-loop-done
invariant-loop-done l = (length l.words ≡ length l.initial.words) × Keeps l.records l.copy × Keeps l.records l.waiting × (l.done ≤ l.to) × (l.first ≤ l.done) × (l.after ≤ l.done) ×
    Going l.table l.view l.records l.k l.want l.from l.to l.words l.done l.first l.after

abbrev pub decreases-loop-done : goal.decreases-loop-done
decreases-loop-done l = l.to - l.done
