-- The cycle of calls {answer, fill, ask}. An entry's operands are filled, and asked, at earlier entries: the measures are k * 3 + 2, k * 3 + 1
-- and operand * 3 + 3. At the head of the loop the words stand for whatever formula they stood for at first; what is left to do falls.
use Prim.Native.Nat.{◌+◌, ◌*◌}
use mathlib.Core.Path.{◌≡◌}
use lib.ListN.{length, drop}
use Rattle.window.specs.Window.{Keeps}
use Rattle.blocks.specs.Step.{left_to_do}
use Rattle.engine.specs.Table.{row_at}
use Rattle.engine.specs.Ask.{StillStands}
use Rattle.engine.proofs.+answer_ask_fill.Given as goal

abbrev pub decreases-answer : goal.decreases-answer
decreases-answer l = l.k * 3 + 2

abbrev pub decreases-ask : goal.decreases-ask
decreases-ask l = l.operand * 3 + 3

abbrev pub decreases-fill : goal.decreases-fill
decreases-fill l = l.k * 3 + 1

abbrev pub invariant-answer-loop-step : goal.invariant-answer-loop-step
invariant-answer-loop-step l = (length l.words ≡ length l.initial.words) × Keeps l.records l.copy × Keeps l.records l.waiting × StillStands l.table l.view l.records l.k l.initial.words l.words

abbrev pub decreases-answer-loop-step : goal.decreases-answer-loop-step
decreases-answer-loop-step l = let row = row_at l.table l.k in left_to_do l.view (drop (row.left_words + row.right_words) l.words)
