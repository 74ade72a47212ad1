-- `window::share_mixed` meets its contract, by the laws of proofs/Windows and proofs/Copies. Assumes nothing.
use Rattle.window.specs.View.{skips}
use Rattle.window.proofs.Windows.{opened_dense}
use Rattle.window.proofs.share_mixed.Goals as goal

pub returns-then-is_clear : goal.returns-then-is_clear
returns-then-is_clear c =
    let a = c.args in record {
      opened = rw c.own_part.ensures
          (opened_dense (skips a.view.now) a.records.now a.at a.n a.copy.now c.requires.2 (c.is_clear.ensures.0 c.if-is_clear.true));
      keeps = c.requires.2;
    }
