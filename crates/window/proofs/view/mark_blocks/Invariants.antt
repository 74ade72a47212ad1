-- The invariant of `window::view::mark_blocks`.
use Rattle.window.proofs.Marks.{Marking}
use Rattle.window.proofs.view.mark_blocks.Given as goal

abbrev pub invariant-loop-block : goal.invariant-loop-block
invariant-loop-block l = Marking l.records l.found l.block l.marks
