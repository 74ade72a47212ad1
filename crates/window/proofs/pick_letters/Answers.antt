-- `window::pick_letters` meets its contract, by the laws of proofs/Picking.
-- Assumes nothing.
use Prim.Native.Nat.{◌+◌, ◌≤◌}
use native.Mathlib.Omega.{arith}
use Rattle.trace.specs.Format.{record_count}
use Rattle.window.proofs.Windows.{ended}
use Rattle.window.proofs.Picking.{picking_none, picking_on, picking_fits, lettered}
use Rattle.window.proofs.pick_letters.Goals as goal
use Rattle.window.proofs.pick_letters.Goals.{In-loop-group, In-loop-one}

-- what the loops' tests say
fits : (c : In-loop-group) →
    (c.loop-group.k + 8 ≤ c.args.n) × (c.loop-group.at + 8 ≤ record_count c.args.records.now)
fits c = omega (arith, c.can_take.ensures.0 c.loop-group-test.true, c.loop-group.invariant.0.few)

fits_2 : (c : In-loop-one) →
    (c.loop-one.k + 1 ≤ c.args.n) × (c.loop-one.at + 1 ≤ record_count c.args.records.now)
fits_2 c = omega (arith, c.can_take-in-loop-one.ensures.0 c.loop-one-test.true, c.loop-one.invariant.0.few)

pub loop-group-init : goal.loop-group-init
loop-group-init c = let a = c.args in picking_none a.records.now a.letter a.from a.n

pub overflow_add-bits : goal.overflow_add-bits
overflow_add-bits c =
    let a = c.args in
    let l = c.loop-group in
    let group = c.pick_group-group in
    record {
      fits =
          picking_fits a.records.now a.letter a.from a.n l.k l.at l.bits 8 l.invariant c.requires.0 (fits (goal.at.overflow_add-bits c).In-loop-group) group.result
          group.ensures;
    }

pub loop-group-preserved : goal.loop-group-preserved
loop-group-preserved c =
    let a = c.args in
    let l = c.loop-group in
    let group = c.pick_group-group in
    picking_on a.records.now a.letter a.from a.n l.k l.at l.bits 8 l.invariant c.requires.0 (fits (goal.at.loop-group-preserved c).In-loop-group) group.result
    group.ensures

pub overflow_add-bits-in-loop-one : goal.overflow_add-bits-in-loop-one
overflow_add-bits-in-loop-one c =
    let a = c.args in
    let l = c.loop-one in
    let one = c.pick_one-one in
    record {
      fits =
          picking_fits a.records.now a.letter a.from a.n l.k l.at l.bits 1 l.invariant c.requires.0 (fits_2 (goal.at.overflow_add-bits-in-loop-one c).In-loop-one) one.result
          one.ensures;
    }

pub loop-one-preserved : goal.loop-one-preserved
loop-one-preserved c =
    let a = c.args in
    let l = c.loop-one in
    let one = c.pick_one-one in
    picking_on a.records.now a.letter a.from a.n l.k l.at l.bits 1 l.invariant c.requires.0 (fits_2 (goal.at.loop-one-preserved c).In-loop-one) one.result
    one.ensures

pub returns : goal.returns
returns c =
    let a = c.args in
    let l = c.loop-one in
    lettered a.records.now a.letter a.from a.n l.k l.at l.bits l.invariant
    (ended (c.can_take-in-loop-one.ensures.1 c.loop-one-test.false) (omega arith))
