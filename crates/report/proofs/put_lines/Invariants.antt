-- The invariant of `report::put_lines`: the lines of the first i verdicts are written.
use Rattle.decimal.specs.Written.{Puts}
use Rattle.report.specs.Report.{lines}
use Rattle.report.proofs.put_lines.Given as goal

abbrev pub invariant-loop-i : goal.invariant-loop-i
invariant-loop-i l = Puts l.initial.text (lines l.columns l.verdicts l.i) l.text
