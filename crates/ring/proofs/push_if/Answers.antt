-- `ring::push_if` meets its contract, by whether the time was added, was the newest already, or was not to be added.
use mathlib.Core.Logic.{inl, inr}
use lib.Dec.{ltb}
use native.Mathlib.Omega.{arith}
use lib.ListN.{length-set}
use borrow.Author.Tests.{ltb-true}
use Rattle.mtl.proofs.Bounded.{and_iff}
use Rattle.ring.proofs.Cells.{not_pushed, newest_already, is_pushed}
use Rattle.ring.proofs.push_if.Goals as goal
use Rattle.ring.proofs.push_if.Goals.{then-count-eq0-via-then-count-eq0, then-count-eq0-via-else-count-eq0+then-block-cell}

pub bounds-block-10-then-count-eq0 : goal.bounds-block-10-then-count-eq0
bounds-block-10-then-count-eq0 c = simp length-set (omega arith)

pub returns-then-count-eq0 : goal.returns-then-count-eq0
returns-then-count-eq0 c =
    let a = c.args in
    let f = ltb-true c.min-count.result a.cells ((and_iff a.right (ltb c.min-count.result a.cells)).0 c.if-right-count.true).1 in
    is_pushed a.cells a.block.now c.min-start.result c.min-count.result
    (λ h. omega arith)
    (λ h. omega arith)
    a.at
    a.right
    (omega arith)
    c.cell-end.result
    c.cell-end.ensures.0
    (λ h. c.cell-end.ensures.2 (omega arith))
    f
    c.if-right-count.true
    (elim c.then-count-eq0.branch [
      | then-count-eq0-via-then-count-eq0 w ↦ inl w.if-count-eq0.true
      | then-count-eq0-via-else-count-eq0+then-block-cell w ↦ inr (w.cell.result, omega arith, w.cell.ensures.2 (omega arith), w.if-block-cell.true)
    ])

pub returns-else-block-cell : goal.returns-else-block-cell
returns-else-block-cell c =
    let a = c.args in
    let some = c.if-count-eq0.false in
    newest_already a.cells a.block.now c.min-start.result c.min-count.result
    (λ h. omega arith)
    (λ h. omega arith)
    a.at
    a.right
    c.cell.result
    (omega arith)
    (c.cell.ensures.2 (omega arith))
    c.if-block-cell.false

pub returns-else-right-count : goal.returns-else-right-count
returns-else-right-count c =
    let a = c.args in
    not_pushed a.cells a.block.now c.min-start.result c.min-count.result
    (λ h. omega arith)
    (λ h. omega arith)
    a.at
    a.right
    c.if-right-count.false
