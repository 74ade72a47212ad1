-- `eight::write_first` meets its contract: the part written has the first bytes of the word.
use Prim.Native.Nat.{ℕ, ◌+◌, ◌-◌}
use native.Mathlib.Omega.{arith}
use mathlib.Core.List.{List}
use mathlib.Core.Path.{ap, ◌∙◌}
use lib.ListN.{take}
use Rattle.verdicts.proofs.Stores.{stored}
use Rattle.verdicts.proofs.eight.write_first.Goals as goal

pub returns : goal.returns
returns c =
    let a = c.args in
    let copy = c.copy_from_slice in
    stored a.sheet.now a.at a.n (a.at + a.n - a.at) a.word copy.new.self (omega arith) (omega arith) (omega arith)
    (copy.ensures.after ∙ ap (λ (l : List ℕ). take a.n l) c.to_le_bytes.ensures)
