-- The invariant of `verdicts::eight::verdicts_at`.
use mathlib.Core.Path.{◌≡◌}
use Rattle.verdicts.specs.Code.{eight_verdicts}
use Rattle.verdicts.proofs.Columns.{from_column}
use Rattle.verdicts.proofs.eight.verdicts_at.Given as goal

abbrev pub invariant-loop-column : goal.invariant-loop-column
invariant-loop-column l = l.word ≡ eight_verdicts (from_column l.answers l.columns l.column) l.i
