-- `since::step_since` meets its contract, by the laws of proofs/Turn.
use Prim.Native.Nat.{◌≤◌, ◌<◌, min}
use native.Mathlib.Nat.{pos_of_ne-zero}
use native.Mathlib.Omega.{arith}
use mathlib.Core.Path.{refl, ◌∙◌}
use lib.ListN.{length, length-set}
use Rattle.window.specs.View.{total}
use Rattle.blocks.specs.Block.{taken, left_count, right_count, head}
use Rattle.blocks.proofs.Words.{Available, available}
use Rattle.blocks.proofs.Reading.{readable}
use Rattle.since.proofs.Turn.{since_left, since_right, since_open, takable, since_onward, since_batch}
use Rattle.since.proofs.step_since.Goals as goal
use Rattle.since.proofs.step_since.Goals.{After-available-count, Else-block-eq0-2}

-- neither buffer is empty
both : (d : Else-block-eq0-2) → (0 < left_count d.args.block.now) × (0 < right_count d.args.block.now) × (16 ≤ length d.args.block.now)
both d = omega arith

-- how many positions are taken
taking : (d : After-available-count) →
    Available (taken d.args.block.now) (min (left_count d.args.block.now) (right_count d.args.block.now)) (total d.args.view.now) d.available-count.result
taking d = available _ _ _ _ (rw d.min-both.ensures at d.available-count.ensures.0)

pub returns-then-block-eq0 : goal.returns-then-block-eq0
returns-then-block-eq0 c =
    let a = c.args in
    record { ends = (refl, refl, c.if-block-eq0.true); steps = since_left a.low a.high a.view.now a.records.now a.block.now; keeps = c.requires.2 }

pub returns-then-block-eq0-2 : goal.returns-then-block-eq0-2
returns-then-block-eq0-2 c =
    let a = c.args in
    record { ends = (refl, refl, c.if-block-eq0-2.true, λ e. pos_of_ne-zero c.if-block-eq0.false); steps = since_right a.low a.high a.view.now a.records.now a.block.now; keeps = c.requires.2 }

pub returns-then-count-eq0 : goal.returns-then-count-eq0
returns-then-count-eq0 c =
    let a = c.args in
    let (left, right, room) = both (goal.at.returns-then-count-eq0 c).Else-block-eq0-2 in
    record { ends = refl; steps = since_open a.low a.high a.view.now a.records.now a.block.now c.available-count.result left right room (taking (goal.at.returns-then-count-eq0 c).After-available-count) c.if-count-eq0.true; keeps = c.requires.2 }

pub open-window-requires : goal.open-window-requires
open-window-requires c =
    let few = (taking (goal.at.open-window-requires c).After-available-count).few in
    let pre = c.requires in
    (omega arith, pre.2, pre.3)

pub take_window-bits-requires : goal.take_window-bits-requires
take_window-bits-requires c =
    let a = c.args in
    let pre = c.requires in
    let opened = c.open-window.ensures in
    (pre.0, pre.1, readable a.view.now (head a.block.now) opened, opened.long, pos_of_ne-zero c.if-count-eq0.false, (taking (goal.at.take_window-bits-requires c).After-available-count).few)

pub take_both-requires : goal.take_both-requires
take_both-requires c =
    let a = c.args in
    let (left, right, room) = both (goal.at.take_both-requires c).Else-block-eq0-2 in
    let turn = c.take_window-bits in
    takable a.low a.high a.view.now a.records.now a.block.now c.available-count.result left right room (taking (goal.at.take_both-requires c).After-available-count)
    (pos_of_ne-zero c.if-count-eq0.false)
    c.open-window.result
    _
    c.open-window.ensures
    turn.new.block
    turn.auto.block
    turn.result
    turn.ensures
    c.available-count.ensures.1

pub pass-requires : goal.pass-requires
pass-requires c =
    let opened = c.open-window in
    (c.requires.3, (c.available-count.result, opened.new.copy, omega arith, opened.ensures))

pub bounds-block-11-2 : goal.bounds-block-11-2
bounds-block-11-2 c =
    omega (arith, c.take_both.auto.block, c.take_window-bits.auto.block, c.requires.1)

pub shape_of-block : goal.shape_of-block
shape_of-block c = length-set c.take_both.new.block 11 c.pass.result ∙ c.take_both.auto.block ∙ c.take_window-bits.auto.block

pub returns : goal.returns
returns c =
    let a = c.args in
    let (left, right, room) = both (goal.at.returns c).Else-block-eq0-2 in
    let turn = c.take_window-bits in
    let av = taking (goal.at.returns c).After-available-count in
    let some = pos_of_ne-zero c.if-count-eq0.false in
    let opened = c.open-window.ensures in record {
      ends = rw c.take_both.ensures
          (since_onward a.low a.high a.view.now a.records.now a.block.now c.available-count.result left right room av some c.open-window.result _ opened
          turn.new.block
          turn.auto.block
          turn.result
          turn.ensures
          c.pass.result
          c.pass.ensures);
      steps = rw c.take_both.ensures
          (since_batch a.low a.high a.view.now a.records.now a.block.now c.available-count.result left right room av some c.open-window.result _ opened
          turn.new.block
          turn.auto.block
          turn.result
          turn.ensures
          c.pass.result
          c.pass.ensures
          (λ i. (c.type_inv.records i).fits));
      keeps = opened.keeps;
    }
