-- `eight::write_word` meets its contract. The loop's invariant: eight verdicts a group are written.
use Prim.Native.Nat.{◌+◌, ◌*◌}
use native.Mathlib.Omega.{arith}
use mathlib.Core.List.{[], ◌∷◌}
use mathlib.Core.Path.{◌≡◌, refl, ap, ◌∙◌}
use lib.ListN.{length, get_or}
use Rattle.verdicts.proofs.Columns.{eight_one}
use Rattle.verdicts.proofs.Written.{written_none, written_more, length_written}
use Rattle.verdicts.proofs.eight.write_word.Goals as goal

pub loop-group-init : goal.loop-group-init
loop-group-init c =
    let a = c.args in
    (refl, written_none a.from (get_or a.answers.now 0 0 ∷ []) a.sheet.now)

pub loop-group-preserved : goal.loop-group-preserved
loop-group-preserved c =
    let a = c.args in
    let bits = get_or a.answers.now 0 0 in
    let l = c.loop-group in
    let write = c.write_first in
    let word = c.spread-word in
    let next : 8 * l.group + 8 ≡ 8 * (l.group + 1) = omega arith in
    let new =
    written_more a.from (8 * l.group) 8 word.result (bits ∷ []) a.sheet.now l.sheet write.new.sheet
    (omega arith) (omega arith) (omega arith)
    (word.ensures ∙ eight_one bits (8 * l.group)) write.ensures l.invariant.1 in
    let new' = rw next at new in
    (ap length new' ∙ length_written a.from (8 * (l.group + 1)) (bits ∷ []) a.sheet.now (omega arith), new')
