-- `since::find_group` meets its contract: the loop has the time from which positions are old enough, and pushes a bit a turn.
use Prim.Native.Nat.{ℕ, suc, ◌+◌, ◌-◌}
use native.Mathlib.Nat.{zero-add}
use native.Mathlib.Numerals.{add-one}
use native.Mathlib.Omega.{arith}
use mathlib.Core.Path.{◌≡◌, sym, ap, ap₂, ◌∙◌}
use lib.Dec.{leb}
use Rattle.bits.proofs.Laws.{pushed_none, pushed_more}
use Rattle.trace.specs.Format.{times_from}
use Rattle.blocks.specs.Ring.{newest_at}
use Rattle.since.specs.Old.{old_enough}
use Rattle.since.proofs.Newest.{newest_none}
use Rattle.since.proofs.Runs.{due_is, due_more}
use Rattle.since.proofs.find_group.Goals as goal
use Rattle.since.proofs.find_group.Goals.{then-test, else-test}

pub loop-i-init : goal.loop-i-init
loop-i-init c =
    let a = c.args in
    let at = times_from a.window.now a.from in
    (ap (λ (t : ℕ). t + a.low) (sym (newest_none at a.marks a.last)), pushed_none (old_enough a.low at a.marks a.last) 0)

pub push-answers-requires : goal.push-answers-requires
push-answers-requires c = (omega arith, c.loop-i.invariant.1.small)

pub loop-i-preserved : goal.loop-i-preserved
loop-i-preserved c =
    let l = c.loop-i in
    let a = c.args in
    let at = times_from a.window.now a.from in
    let more = due_more at a.marks a.last l.i a.low in
    let due : c.if-test.due ≡ newest_at at a.marks a.last (l.i + 1) + a.low =
    elim c.if-test.branch [
      | then-test w ↦ w.due-is ∙ rw c.time-now.ensures.0 (rw (sym c.test.ensures ∙ w.if-test.true) at more)
      | else-test w ↦ w.due-is ∙ l.invariant.0 ∙ (rw (sym c.test.ensures ∙ w.if-test.false) at more)
    ] in
    let here : leb a.low (at l.i - newest_at at a.marks a.last (suc l.i)) ≡ leb c.if-test.due c.time-now.result =
    sym (ap₂ leb (due ∙ ap (λ (k : ℕ). newest_at at a.marks a.last k + a.low) (add-one l.i)) c.time-now.ensures.0
    ∙ due_is a.low (newest_at at a.marks a.last (suc l.i)) (at l.i) c.requires.0) in (
      due,
      pushed_more (old_enough a.low at a.marks a.last) 0 l.i l.answers (leb c.if-test.due c.time-now.result) c.push-answers.result
          (omega arith)
          (ap (old_enough a.low at a.marks a.last) (zero-add l.i) ∙ here)
          c.push-answers.ensures
          l.invariant.1,
    )

pub returns : goal.returns
returns c =
    let a = c.args in
    let l = c.loop-i in
    let e : l.i ≡ a.n = omega arith in
    let all = rw e at l.invariant.1 in
    (all.small, all.packed)
