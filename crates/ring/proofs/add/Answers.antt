-- `ring::add` meets its contract.
use Prim.Native.Nat.{ℕ, ◌+◌}
use native.Mathlib.Omega.{arith}
use mathlib.Core.Path.{ap}
use lib.ListN.{set}
use mathlib.Core.Bool.{not as negate}
use lib.Dec.{eqb}
use Rattle.bits.proofs.Laws.{number_lt}
use Rattle.ring.proofs.add.Goals as goal

pub overflow_add-result : goal.overflow_add-result
overflow_add-result c =
    let a = c.args in
    let few = number_lt (negate (eqb a.at a.newest)) in
    let e = c.flag.ensures in
    record { fits = omega arith }

pub returns : goal.returns
returns c =
    let a = c.args in
    let few = number_lt (negate (eqb a.at a.newest)) in
    let e = c.flag.ensures in
    let place = c.cell.ensures.2 (omega arith) in
    (ap (λ (x : ℕ). a.count + x) e, omega arith, ap (λ (k : ℕ). set a.block.now k a.at) place)
