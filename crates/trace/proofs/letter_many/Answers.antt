-- `trace::letter_many` meets its contract. Assumes nothing.
use Prim.Native.Nat.{◌-◌}
use native.Mathlib.Omega.{arith}
use Rattle.trace.specs.Format.{has_letter}
use Rattle.trace.specs.Letters.{place_of}
use Rattle.trace.proofs.Letters.{joined}
use Rattle.trace.proofs.letter_many.Goals as goal

pub returns : goal.returns
returns c =
    let a = c.args in
    let p = c.place_of-up in
    rw p.ensures.0
    (joined (has_letter a.records.now a.letter) a.from 32 (place_of a.letter - 30) c.alternate.result c.alternate-2.result (omega arith) (omega arith)
    (omega arith)
    c.alternate.ensures
    c.alternate-2.ensures)
