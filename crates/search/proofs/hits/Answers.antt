-- `search::hits` meets its contract.
use mathlib.Core.Bool.{not as negate}
use mathlib.Core.Path.{refl, ap}
use borrow.Author.Tests.{le-leb, lt-leb}
use native.Mathlib.Omega.{arith}
use Rattle.search.proofs.hits.Goals as goal

pub returns-then-at-from : goal.returns-then-at-from
returns-then-at-from c =
    let a = c.args in
    rw (lt-leb a.from a.at (omega arith)) refl

pub returns-then-want : goal.returns-then-want
returns-then-want c =
    let a = c.args in
    rw (le-leb a.from a.at (omega arith), c.if-want.true) c.test-x.ensures

pub returns-else-want : goal.returns-else-want
returns-else-want c =
    let a = c.args in
    rw (le-leb a.from a.at (omega arith), c.if-want.false) (ap negate c.test-x.ensures)
