-- `search::times::has_letter` meets its contract.
use Prim.Native.Nat.{◌+◌}
use mathlib.Core.Path.{◌≡◌, sym, ◌∙◌, ap}
use native.Mathlib.Omega.{arith}
use Rattle.trace.specs.Format.{has_letter}
use Rattle.search.proofs.times.has_letter.Goals as goal

pub returns-then-r-count : goal.returns-then-r-count
returns-then-r-count c L whole h =
    let a = c.args in
    let (here, inside) = c.record_of-r.ensures L whole h in
    let packed = c.letter_bits.ensures in
    let r = c.record_of-r.result in
    let e : r + 0 ≡ L.place a.i = omega arith in
    c.test.ensures ∙ sym (packed.same 0 (omega arith)) ∙ ap (has_letter a.records.now a.letter) e ∙ whole.letters a.i a.letter h

pub returns-else-r-count : goal.returns-else-r-count
returns-else-r-count c L whole h =
    let count = c.count.ensures in
    let (here, inside) = c.record_of-r.ensures L whole h in absurd (omega arith)
