-- `report::put_counts` meets its contract: five pieces, one behind the other.
use Rattle.decimal.specs.Text.{ascii}
use Rattle.decimal.proofs.Texts.{puts_more}
use Rattle.report.proofs.put_counts.Goals as goal

pub returns : goal.returns
unfolding ascii
returns c =
    puts_more
    (puts_more (puts_more (puts_more c.put.ensures c.put_number.ensures) c.put-2.ensures) c.put_number-2.ensures)
    c.put-3.ensures
