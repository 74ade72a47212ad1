-- `operators::neighbour::take_near` meets its contract. Assumes nothing.
use Prim.Native.Nat.{◌+◌}
use native.Mathlib.Omega.{arith}
use Rattle.blocks.specs.Block.{head}
use Rattle.blocks.proofs.Reading.{readable}
use Rattle.operators.proofs.Simple.{took_near}
use Rattle.operators.proofs.neighbour.take_near.Goals as goal

pub open-window-requires : goal.open-window-requires
open-window-requires c = let pre = c.requires in (omega arith, pre.1, pre.2)

pub read_near-near-requires : goal.read_near-near-requires
read_near-near-requires c =
    let opened = c.open-window.ensures in
    (c.requires.3, omega (arith, opened.long), readable c.args.view.now (head c.args.block.now) opened)

pub pass-requires : goal.pass-requires
pass-requires c = (c.requires.2, (c.args.count + 1, _, omega arith, c.open-window.ensures))

pub returns : goal.returns
returns c =
    let a = c.args in
    let near = c.read_near-near in
    let opened = c.open-window.ensures in record {
      took_near = rw c.take_right.ensures
          (took_near a.low a.high a.view.now a.records.now a.block.now a.count c.requires.0 _ _ opened near.result c.pass.result near.ensures c.pass.ensures);
      keeps = opened.keeps;
    }
