-- `bits::rest` meets its contract: no bit of a word is behind the first 64.
-- Assumes nothing.
use Prim.Native.Nat.{◌^◌, ◌≤◌, ◌<◌}
use native.Mathlib.Nat.{div-eq_of_lt, lt_of_lt_of_le}
use native.Mathlib.Omega.{arith}
use mathlib.Core.Path.{sym}
use lib.Pow.{pow_mono}
use borrow.Author.Tests.{ltb-false}
use Rattle.bits.proofs.rest.Goals as goal

pub returns-else-n-lt64 : goal.returns-else-n-lt64
returns-else-n-lt64 c =
    let a = c.args in
    let many : 64 ≤ a.n = omega (arith, ltb-false) in
    let small : a.word < 2 ^ 64 = omega arith in
    sym (div-eq_of_lt (lt_of_lt_of_le small (pow_mono many)))
