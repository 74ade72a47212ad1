-- `trace::letter_mark` meets its contract. Assumes nothing.
use Prim.Native.Nat.{◌*◌, ◌^◌}
use native.Mathlib.Omega.{arith}
use mathlib.Core.Bool.{Bool}
use mathlib.Core.Path.{◌≡◌, ap, ◌∙◌}
use Rattle.bits.specs.Packed.{bit, number}
use Rattle.trace.specs.Format.{has_letter}
use Rattle.trace.specs.Letters.{place_of}
use Rattle.trace.proofs.Letters.{masked, whole_bit}
use Rattle.trace.proofs.letter_mark.Goals as goal

pub returns : goal.returns
returns c =
    let a = c.args in
    let s = a.records.now in
    let w = c.whole.result in
    let told = whole_bit s (λ i. (c.type_inv.records i).fits) a.i a.letter (omega arith) in
    let here : bit w (place_of a.letter) ≡ has_letter s a.letter a.i = rw c.whole.ensures told in
    rw c.place_of.ensures.0 (masked w (place_of a.letter) (omega arith) ∙ ap (λ (x : Bool). number x * 2 ^ place_of a.letter) here)
