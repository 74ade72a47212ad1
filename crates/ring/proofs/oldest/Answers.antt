-- `ring::oldest` meets its contract.
use native.Mathlib.Omega.{arith}
use mathlib.Core.Path.{sym}
use lib.ListN.{length}
use borrow.Author.Tests.{le-ltb, lt-ltb}
use Rattle.ring.proofs.Cells.{none_oldest, some_oldest}
use Rattle.ring.proofs.oldest.Goals as goal

pub returns-then-block-eq0 : goal.returns-then-block-eq0
returns-then-block-eq0 c =
    let a = c.args in
    record {
      value = none_oldest a.cells a.block.now c.if-block-eq0.true;
      some = λ qs r. let n = r.count in let z = c.if-block-eq0.true in sym (le-ltb 0 (length qs) (omega arith));
    }

pub returns : goal.returns
returns c =
    let a = c.args in
    record {
      value =
          some_oldest a.cells a.block.now c.min-start.result c.cell.result c.if-block-eq0.false
          (λ h. omega arith)
          (c.cell.ensures.2 (omega arith));
      some = λ qs r. let n = r.count in let some = c.if-block-eq0.false in sym (lt-ltb 0 (length qs) (omega arith));
    }
