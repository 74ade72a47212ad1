-- `bits::find_last_zero` meets its contract: above the last of the turned bits that is 1 stand the leading zeros.
-- Assumes nothing.
use Prim.Native.Nat.{◌-◌, ◌≤◌}
use native.Mathlib.Omega.{arith}
use mathlib.Core.Path.{◌≡◌}
use lib.Count.{count_leading_zeros}
use Rattle.bits.specs.Packed.{last_zero}
use Rattle.bits.proofs.Zeros.{last_found}
use Rattle.bits.proofs.find_last_zero.Goals as goal
use Rattle.bits.proofs.find_last_zero.Goals.{After-turned}

found : (d : After-turned) →
    let a = d.args in
    let above = count_leading_zeros 64 d.turned.result in
    (above ≤ 64) × (64 - above ≡ last_zero a.n a.word) × (64 - above ≤ a.n)
found d = let a = d.args in last_found a.word (omega arith) a.n d.turned.result (omega arith) d.turned.ensures

pub returns : goal.returns
returns c = ((found (goal.at.returns c).After-turned).1, (found (goal.at.returns c).After-turned).2)
