-- `trace::alternate_eight` meets its contract. The loop's invariant: the first i of the four are answered. Assumes nothing.
use Prim.Native.Nat.{◌+◌, ◌-◌, ◌*◌}
use native.Mathlib.Omega.{arith}
use Rattle.bits.specs.Packed.{number}
use Rattle.bits.proofs.Laws.{number_lt}
use Rattle.trace.specs.Format.{has_letter}
use Rattle.trace.specs.Letters.{place_of, every_other}
use Rattle.trace.proofs.Letters.{turned, one_of_two}
use Rattle.trace.proofs.alternate_eight.Goals as goal

pub loop-i-preserved : goal.loop-i-preserved
loop-i-preserved c =
    let a = c.args in
    let l = c.loop-i in
    let f = has_letter a.records.now a.letter in
    let x = f (a.from + l.i * 2) in
    turned (every_other f a.from) 2 (place_of a.letter) l.i l.answers (number x) c.letter_mark.result (omega arith) (omega arith) l.invariant
    (omega (arith, number_lt x))
    (one_of_two f a.from l.i)
    c.letter_mark.ensures
