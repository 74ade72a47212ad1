-- `since::turn_all` meets its contract, by the laws of proofs/Turn.
use native.Mathlib.Omega.{arith}
use mathlib.Core.Path.{◌≡◌, refl, ◌∙◌}
use Rattle.trace.specs.Format.{time_at}
use Rattle.since.proofs.Turn.{turning_none, turning_next}
use Rattle.since.proofs.turn_all.Goals as goal

pub loop-i-init : goal.loop-i-init
loop-i-init c =
    let a = c.args in
    (refl, turning_none a.low a.high (time_at a.window.now) a.left a.right a.block.now)

pub push-answers-requires : goal.push-answers-requires
push-answers-requires c = (omega arith, c.loop-i.invariant.1.small)

pub loop-i-preserved : goal.loop-i-preserved
loop-i-preserved c =
    let a = c.args in
    let l = c.loop-i in
    let left = c.test-left_holds in
    let right = c.test-right_holds in
    let turn = c.turn-holds in (
      turn.auto.block ∙ l.invariant.0,
      rw c.push-answers.ensures.0
          (turning_next a.low a.high (time_at a.window.now) a.left a.right a.block.now l.i l.answers l.block l.invariant.1 (omega arith)
          c.cells_for-cells.result
          c.cells_for-cells.ensures.0
          c.time-now.result
          c.time-now.ensures.0
          left.result
          right.result
          turn.result
          left.ensures
          right.ensures
          _
          turn.ensures.rings
          turn.ensures.by_index),
    )

pub shape_of-block : goal.shape_of-block
shape_of-block c = c.loop-i.invariant.0

pub returns : goal.returns
returns c =
    let a = c.args in
    let l = c.loop-i in
    let e : l.i ≡ a.n = omega arith in
    (rw e at l.invariant.1).turns
