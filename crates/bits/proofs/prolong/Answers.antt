-- `bits::prolong` meets its contract.
-- Assumes nothing.
use native.Mathlib.Omega.{arith}
use Rattle.bits.proofs.Filling.{prolonged}
use Rattle.bits.proofs.prolong.Goals as goal

pub returns : goal.returns
returns c = let a = c.args in prolonged a.word a.n (omega arith) a.front (omega arith)
