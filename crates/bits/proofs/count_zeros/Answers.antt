-- `bits::count_zeros` meets its contract: the ones of the turned bits are the zeros.
-- Assumes nothing.
use Prim.Native.Nat.{◌≤◌}
use native.Mathlib.Omega.{arith}
use mathlib.Core.Path.{◌≡◌}
use lib.Count.{ones}
use Rattle.bits.specs.Packed.{zeros}
use Rattle.bits.proofs.Zeros.{zeros_counted}
use Rattle.bits.proofs.count_zeros.Goals as goal
use Rattle.bits.proofs.count_zeros.Goals.{After-turned}

counted : (d : After-turned) →
    let a = d.args in (ones d.turned.result ≡ zeros a.n a.word) × (ones d.turned.result ≤ a.n)
counted d = let a = d.args in zeros_counted a.word (omega arith) a.n d.turned.result (omega arith) d.turned.ensures

pub returns : goal.returns
returns c = counted (goal.at.returns c).After-turned
