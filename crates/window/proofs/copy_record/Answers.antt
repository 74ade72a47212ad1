-- `window::copy_record` meets its contract: the eight bytes written are the record's. Assumes nothing.
use native.Mathlib.Omega.{arith}
use Rattle.window.proofs.Windows.{copied_by}
use Rattle.window.proofs.copy_record.Goals as goal

pub returns : goal.returns
returns c =
    let a = c.args in
    copied_by a.records.now a.i a.k a.copy.now (omega arith) (omega arith) (λ j. (c.type_inv.records j).fits) c.whole.ensures c.put_record.ensures
