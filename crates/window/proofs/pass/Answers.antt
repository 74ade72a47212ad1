-- `window::pass` meets its contract, by the laws of proofs/Windows. Assumes nothing.
use native.Mathlib.Omega.{arith}
use Rattle.window.proofs.Windows.{passed_dense}
use Rattle.window.proofs.pass.Goals as goal

pub returns-then-window : goal.returns-then-window
returns-then-window c =
    let a = c.args in
    passed_dense a.view.now a.records.now a.head a.n a.window c.requires.1 (omega arith) c.if-window.true
