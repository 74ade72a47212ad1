-- `since::take_inside` meets its contract, by the laws of proofs/Oldest.
use Prim.Native.Nat.{◌<◌, ◌^◌}
use native.Mathlib.Nat.{lt_of_le_of_lt}
use native.Mathlib.Omega.{arith}
use lib.Bits.{and_le_l}
use mathlib.Core.Path.{sym, ◌∙◌}
use Rattle.since.proofs.Oldest.{mark_is, takes_inside}
use Rattle.since.proofs.take_inside.Goals as goal

pub returns : goal.returns
returns c held =
    let a = c.args in
    let first = rw c.time.ensures.0 at c.unwrap_or-first.ensures in
    let small : a.left < 2 ^ 64 = omega arith in
    let filled = rw c.flag-begun.ensures at c.find_alive-alive.ensures in
    takes_inside c.unwrap_or-first.result c.find_alive-alive.result c.find_late-old.result _ c.is_some.result
    c.requires.0
    c.requires.3
    (λ qs r. c.is_some.ensures ∙ (held qs r).1)
    filled
    (mark_is a.left a.right c.is_some.result c.find_alive-alive.result filled (lt_of_le_of_lt (and_le_l a.left _) small))
    c.requires.5
    (rw c.flag-begun.ensures at c.find_late-old.ensures)
    (rw (sym first) at c.requires.6)
    c.turn_word.ensures
    (λ qs r. first ∙ (held qs r).0)
