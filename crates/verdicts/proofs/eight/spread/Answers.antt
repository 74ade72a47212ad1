-- `eight::spread` meets its contract: the product and the mask are right for each of the 256 bytes.
use Rattle.verdicts.proofs.Packing.{spread_is}
use Rattle.verdicts.proofs.eight.spread.Goals as goal

pub returns : goal.returns
returns c = spread_is c.args.b c.requires
