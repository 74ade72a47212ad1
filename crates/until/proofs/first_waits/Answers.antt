-- `until::first_waits` meets its contract: `settle` on the time of the first that waits and on the window's first record. Assumes nothing.
use mathlib.Core.Bool.{Bool, true, false, not}
use mathlib.Core.Path.{◌≡◌, sym, ◌∙◌, refl}
use Rattle.std.specs.Prelude.{Option, None, Some, is_some}
use Rattle.until.proofs.first_waits.Goals as goal

pub next_time-next_at-requires : goal.next_time-next_at-requires
next_time-next_at-requires c =
    rw c.read-next.ensures c.requires.1.long

none : (r : Option Bool) (b : Bool) → is_some r ≡ not b → b ≡ true → r ≡ None
none None b m e = refl
none (Some x) true m e = cc
none (Some x) false m e = cc

pub returns : goal.returns
returns c e =
    rw (c.last_of.ensures, c.next_time-next_at.ensures, c.time_of_none.ensures, c.read-next.ensures)
    at (sym c.settle.ensures ∙ none c.settle.result c.is_none.result c.is_none.ensures e)
