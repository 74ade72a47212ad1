-- `bits::ones_between` meets its contract.
use Prim.Native.Nat.{◌<◌, ◌^◌}
use native.Mathlib.Omega.{arith}
use Rattle.bits.proofs.Filling.{ones_are}
use Rattle.bits.proofs.ones_between.Goals as goal

pub returns : goal.returns
returns c =
    let a = c.args in
    let small : c.rest.result < 2 ^ 64 = omega arith in
    rw (c.rest.ensures, c.rest-2.ensures) (ones_are a.from a.end c.requires.0 c.requires.1 (rw c.rest.ensures at small))
