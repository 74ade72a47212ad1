-- The invariants of `explain::all_answered`.
use mathlib.Core.Path.{◌≡◌}
use lib.ListN.{length}
use Rattle.window.specs.Window.{Keeps}
use Rattle.explain.proofs.Formulas.{Reached}
use Rattle.explain.proofs.all_answered.Given as goal

abbrev pub invariant-loop-k : goal.invariant-loop-k
invariant-loop-k l = (length l.words ≡ length l.initial.words) × Keeps l.records l.copy × Keeps l.records l.waiting × Reached l.table l.view l.records l.ends.at l.ends.number l.position l.k
