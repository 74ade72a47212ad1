-- `report::put_refused` meets its contract: three pieces, one behind the other.
use Rattle.decimal.specs.Text.{ascii}
use Rattle.decimal.proofs.Texts.{puts_more}
use Rattle.report.proofs.put_refused.Goals as goal

pub returns : goal.returns
unfolding ascii
returns c =
    rw (← c.number.ensures.0)
    (puts_more (puts_more c.put.ensures c.put_number.ensures) c.put-2.ensures)
