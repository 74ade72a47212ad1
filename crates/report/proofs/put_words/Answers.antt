-- `report::put_words` meets its contract.
use native.Mathlib.Numerals.{add-one}
use native.Mathlib.Omega.{arith}
use Rattle.decimal.proofs.Texts.{puts_none, puts_more}
use Rattle.report.specs.Report.{verdict_words}
use Rattle.report.proofs.put_words.Goals as goal

pub loop-k-init : goal.loop-k-init
unfolding verdict_words
loop-k-init c = puts_none _ (omega arith)

pub loop-k-preserved : goal.loop-k-preserved
unfolding verdict_words
loop-k-preserved c = rw (add-one c.loop-k.k) (puts_more c.loop-k.invariant (rw (c.test.ensures, c.from.ensures) at c.put_word.ensures))
