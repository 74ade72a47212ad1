-- `window::read_letters` meets its contract. Assumes nothing.
use mathlib.Core.Bool.{true}
use mathlib.Core.Path.{◌≡◌, sym, ◌∙◌}
use Rattle.window.specs.View.{skips}
use Rattle.window.specs.Window.{dense}
use Rattle.window.proofs.Windows.{plain_dense, lettered_dense}
use Rattle.window.proofs.read_letters.Goals as goal
use Rattle.window.proofs.read_letters.Goals.{Then-is_plain}

-- a plain window is dense
told : (c : Then-is_plain) → let a = c.args in dense (skips a.view.now) a.records.now c.in_slice-at.result a.n ≡ true
told c =
    let a = c.args in
    plain_dense (skips a.view.now) a.records.now c.in_slice-at.result a.n (sym c.is_plain.ensures ∙ c.if-is_plain.true)

pub returns-then-is_plain : goal.returns-then-is_plain
returns-then-is_plain c =
    let a = c.args in
    let at = c.in_slice-at in record { lettered = rw (← at.ensures) (lettered_dense (skips a.view.now) a.records.now a.letter at.result a.n c.letter_bits-bits.result (told (goal.at.returns-then-is_plain c).Then-is_plain) c.letter_bits-bits.ensures); keeps = c.requires.4 }
