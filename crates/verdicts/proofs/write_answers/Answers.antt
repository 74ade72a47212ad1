-- `write_answers` meets its contract. The loop's invariant: eight verdicts a group are written.
use Prim.Native.Nat.{◌+◌, ◌-◌, ◌*◌, ◌/◌}
use native.Mathlib.Omega.{arith}
use mathlib.Core.Path.{◌≡◌, refl, ap, ◌∙◌}
use lib.ListN.{length, take}
use Rattle.verdicts.proofs.Columns.{few_taken}
use Rattle.verdicts.proofs.Written.{written_none, written_more, length_written}
use Rattle.verdicts.proofs.write_answers.Goals as goal

pub loop-group-init : goal.loop-group-init
loop-group-init c =
    let a = c.args in
    (refl, written_none a.from (take a.columns a.answers.now) a.sheet.now)

pub loop-group-preserved : goal.loop-group-preserved
loop-group-preserved c =
    let a = c.args in
    let l = c.loop-group in
    let words = take a.columns a.answers.now in
    let next : 8 * l.group + 8 ≡ 8 * (l.group + 1) = omega arith in
    let new =
    written_more a.from (8 * l.group) 8 c.verdicts_at-word.result words a.sheet.now l.sheet c.write_first.new.sheet
    (omega (arith, few_taken a.columns a.answers.now)) (omega arith) (omega arith)
    c.verdicts_at-word.ensures c.write_first.ensures l.invariant.1 in
    let new' = rw next at new in
    (ap length new' ∙ length_written a.from (8 * (l.group + 1)) words a.sheet.now (omega arith), new')

pub returns-then-i-n : goal.returns-then-i-n
returns-then-i-n c =
    let a = c.args in
    let l = c.loop-group in
    let words = take a.columns a.answers.now in
    let i = a.n / 8 * 8 in
    let done : 8 * l.group ≡ i = omega arith in
    let end : i + (a.n - i) ≡ a.n = omega arith in
    rw end at (
    written_more a.from i (a.n - i) c.verdicts_at-word-then-i-n.result words a.sheet.now l.sheet c.write_first-then-i-n.new.sheet
    (omega (arith, few_taken a.columns a.answers.now)) (omega arith) (omega arith)
    c.verdicts_at-word-then-i-n.ensures c.write_first-then-i-n.ensures (rw done at l.invariant.1)
    )
