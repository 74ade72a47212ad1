-- `window::read_mixed` meets its contract. Assumes nothing.
use Rattle.window.specs.View.{skips}
use Rattle.window.proofs.Windows.{lettered_dense, lettered_mixed}
use Rattle.window.proofs.read_mixed.Goals as goal

pub returns-then-is_clear : goal.returns-then-is_clear
returns-then-is_clear c =
    let a = c.args in record {
      lettered = lettered_dense (skips a.view.now) a.records.now a.letter a.at a.n c.letter_bits-bits.result
          (c.is_clear.ensures.0 c.if-is_clear.true) c.letter_bits-bits.ensures;
      keeps = c.requires.4;
    }

pub returns : goal.returns
returns c =
    let a = c.args in record {
      lettered = lettered_mixed (skips a.view.now) a.records.now a.letter a.at a.n c.read_kept-2.result
          (c.is_clear.ensures.1 c.if-is_clear.false) c.read_kept-2.ensures.lettered;
      keeps = c.read_kept-2.ensures.keeps;
    }
