-- `write_view` meets its contract: what `trace` promises of the view that it writes.
use Rattle.emit.proofs.write_view.Goals as goal

pub returns : goal.returns
returns c = rw (← c.wanted_position-earlier.ensures) c.of.ensures
