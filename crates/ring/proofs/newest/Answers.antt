-- `ring::newest` meets its contract.
use native.Mathlib.Omega.{arith}
use mathlib.Core.Path.{sym}
use lib.ListN.{length}
use borrow.Author.Tests.{le-ltb, lt-ltb}
use Rattle.ring.proofs.Cells.{none_newest, some_newest}
use Rattle.ring.proofs.newest.Goals as goal

pub returns-then-held-eq0 : goal.returns-then-held-eq0
returns-then-held-eq0 c =
    let a = c.args in
    record {
      value = none_newest a.cells a.block.now c.min-held.result (λ h. omega arith) c.if-held-eq0.true;
      some = λ qs r. let n = r.count in let f = r.fits in sym (le-ltb 0 (length qs) (omega arith));
    }

pub returns : goal.returns
returns c =
    let a = c.args in
    record {
      value =
          some_newest a.cells a.block.now c.min-start.result c.min-held.result c.cell.result
          (λ h. omega arith)
          (λ h. omega arith)
          (omega arith)
          (λ h m. c.cell.ensures.2 (omega arith));
      some = λ qs r. let n = r.count in let some = c.if-held-eq0.false in sym (lt-ltb 0 (length qs) (omega arith));
    }
