-- `entries::entries_of` meets its contract. The loop's invariant: the first k entries stand in their places.
use native.Mathlib.Numerals.{add-one}
use mathlib.Core.Path.{refl}
use Rattle.rule.specs.Contract.{filled}
use Rattle.rule.proofs.entries.entries_of.Goals as goal

pub loop-k-init : goal.loop-k-init
unfolding filled
loop-k-init c = refl

pub loop-k-preserved : goal.loop-k-preserved
unfolding filled
loop-k-preserved c = rw (add-one, c.loop-k.invariant, c.entry_at.ensures)
