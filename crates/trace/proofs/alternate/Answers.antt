-- `trace::alternate` meets its contract. The loop's invariant: the first i of the four groups are answered. Assumes nothing.
use Prim.Native.Nat.{◌-◌}
use native.Mathlib.Omega.{arith}
use Rattle.trace.specs.Format.{has_letter}
use Rattle.trace.specs.Letters.{place_of, every_other}
use Rattle.trace.proofs.Letters.{turned, turned_fits, behind}
use Rattle.trace.proofs.alternate.Goals as goal

pub overflow_add-answers : goal.overflow_add-answers
overflow_add-answers c =
    let a = c.args in
    let l = c.loop-i in
    let f = has_letter a.records.now a.letter in
    let r = c.alternate_eight.ensures in
    record {
      fits =
          turned_fits (every_other f a.from) 8 (place_of a.letter - 6) l.i l.answers r.answers c.alternate_eight.result (omega arith) (omega arith)
          l.invariant
          r.small
          (behind f a.from l.i r.answers r.packed)
          r.told
          (omega arith)
          (omega arith);
    }

pub loop-i-preserved : goal.loop-i-preserved
loop-i-preserved c =
    let a = c.args in
    let l = c.loop-i in
    let f = has_letter a.records.now a.letter in
    let r = c.alternate_eight.ensures in
    turned (every_other f a.from) 8 (place_of a.letter - 6) l.i l.answers r.answers c.alternate_eight.result (omega arith) (omega arith) l.invariant
    r.small
    (behind f a.from l.i r.answers r.packed)
    r.told
