-- `report::put_line` meets its contract: three pieces, one behind the other.
use Rattle.decimal.specs.Text.{ascii}
use Rattle.decimal.proofs.Texts.{puts_more}
use Rattle.report.proofs.put_line.Goals as goal

pub returns : goal.returns
unfolding ascii
returns c = puts_more (puts_more c.put_number.ensures c.put_words.ensures) c.put.ensures
