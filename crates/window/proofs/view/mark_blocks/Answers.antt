-- `window::view::mark_blocks` meets its contract, by the laws of proofs/Marks. Assumes nothing.
use Prim.Native.Nat.{◌+◌, ◌*◌}
use native.Mathlib.Omega.{arith}
use Rattle.trace.proofs.Counting.{count_few}
use Rattle.window.proofs.Marks.{marking_none, marking_on, counted_at}
use Rattle.window.proofs.view.mark_blocks.Goals as goal

pub loop-block-init : goal.loop-block-init
loop-block-init c = marking_none c.args.records.now c.args.marks.now c.requires

pub overflow_add-found : goal.overflow_add-found
overflow_add-found c =
    let s = c.args.records.now in
    let l = c.loop-block in
    let n = c.min-n in
    omega (arith, counted_at s l.marks l.found l.block l.invariant (omega arith), c.count_many-here.ensures.sum, count_few s (l.block * 256 + n.result), n.ensures)

pub loop-block-preserved : goal.loop-block-preserved
loop-block-preserved c =
    let s = c.args.records.now in
    let l = c.loop-block in
    let n = c.min-n in
    let here = c.count_many-here in
    marking_on s l.marks l.found l.block n.result here.result c.mark_block.new.marks l.invariant (omega arith) (omega (arith, n.ensures)) here.ensures.sum c.mark_block.ensures
