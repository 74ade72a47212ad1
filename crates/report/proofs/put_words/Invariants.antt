-- The invariant of `report::put_words`: the words of the first k formulas are written.
use Rattle.decimal.specs.Written.{Puts}
use Rattle.report.specs.Report.{verdict_words}
use Rattle.report.proofs.put_words.Given as goal

abbrev pub invariant-loop-k : goal.invariant-loop-k
invariant-loop-k l = Puts l.initial.text (verdict_words l.verdict l.k) l.text
