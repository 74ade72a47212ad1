-- `ring::drop_old` meets its contract. The loop's invariant: dropping from what remains gives the same as from all.
use native.Mathlib.Omega.{arith}
use mathlib.Core.Logic.{inl, inr}
use lib.ListN.{length-set}
use Rattle.ring.proofs.Cells.{remains_all, remains_less, remains_done}
use Rattle.ring.proofs.drop_old.Goals as goal
use Rattle.ring.proofs.drop_old.Goals.{else-loop-count-test, then-loop-count-test+else-high-saturating_sub}

pub loop-count-init : goal.loop-count-init
loop-count-init c =
    let a = c.args in (
      omega arith,
      omega arith,
      remains_all a.cells a.high a.at a.block.now c.min-start.result c.min-count.result
          (λ h. omega arith)
          (λ h. omega arith),
    )

pub loop-count-preserved : goal.loop-count-preserved
loop-count-preserved c =
    let a = c.args in
    let l = c.loop-count in
    let g = c.saturating_sub.ensures in (
      omega arith,
      omega arith,
      remains_less a.cells a.high a.at a.block.now l.start l.count
          c.cell.result
          c.cell-in-loop-count.result
          l.invariant.0
          (omega arith)
          (c.cell.ensures.2 (omega arith))
          (c.cell-in-loop-count.ensures.2 (omega arith))
          (omega arith)
          l.invariant.2,
    )

pub bounds-block-10-2 : goal.bounds-block-10-2
bounds-block-10-2 c = simp length-set (omega arith)

pub returns : goal.returns
returns c =
    let a = c.args in
    let l = c.loop-count in
    remains_done a.cells a.high a.at a.block.now (omega arith) l.start l.count l.invariant.0
    (elim c.loop-count-test.branch [
      | else-loop-count-test w ↦ inl (let e = w.loop-count-test.false in omega arith)
      | then-loop-count-test+else-high-saturating_sub w ↦ inr (w.cell.result, w.cell.ensures.2 (omega arith), let g = w.saturating_sub.ensures in let t = w.if-high-saturating_sub.false in omega arith)
    ])
    l.invariant.2
