-- `closed_with` meets its contract: each return rewrites the definition with the test that led there.
use native.Mathlib.Numerals.{add-one}
use Rattle.emit.proofs.closed_with.Goals as goal

pub returns-then-closed : goal.returns-then-closed
returns-then-closed c = rw c.if-closed.true (add-one _)
