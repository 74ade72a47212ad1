-- `bits::find_first_zero` meets its contract: below the first of the turned bits that is 1 stand the trailing zeros.
-- Assumes nothing.
use Prim.Native.Nat.{◌-◌}
use native.Mathlib.Omega.{arith}
use borrow.Author.Tests.{ltb-true, ltb-false}
use Rattle.bits.proofs.Zeros.{first_found}
use Rattle.bits.proofs.find_first_zero.Goals as goal

pub returns-then-at-n : goal.returns-then-at-n
returns-then-at-n c = let a = c.args in first_found a.word (omega arith) a.n _ (omega arith) (omega (arith, ltb-true))

pub returns-else-at-n : goal.returns-else-at-n
returns-else-at-n c = let a = c.args in first_found a.word (omega arith) a.n _ (omega arith) (omega (arith, ltb-false))
