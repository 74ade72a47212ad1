-- `check::is_short` meets its contract: 16 bytes stand before the records.
use mathlib.Core.Path.{ap}
use native.Mathlib.Omega.{arith}
use lib.Dec.{ltb}
use lib.ListN.{length}
use Rattle.checks.proofs.is_short.Goals as goal

pub returns : goal.returns
returns c = ap (ltb c.args.lent) (omega (arith, ap length c.records_from.ensures))
