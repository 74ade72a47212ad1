-- `walks::look` meets its contract: each return rewrites the definition with the tests that led there. Assumes nothing.
use Prim.Native.Nat.{◌+◌}
use native.Mathlib.Omega.{arith}
use mathlib.Core.Path.{◌∙◌}
use borrow.Author.Tests.{le-leb, lt-leb}
use Rattle.walks.proofs.look.Goals as goal

pub returns-then-lead-at : goal.returns-then-lead-at
returns-then-lead-at c = simp (le-leb _ _ c.if-lead-at.true)

pub time-start-requires : goal.time-start-requires
time-start-requires c = c.requires.2 (omega arith)

pub returns : goal.returns
returns c =
    let a = c.args in
    let behind = lt-leb (a.lead + a.at) a.waiting (omega arith) in
    c.settle.ensures ∙ rw (c.time-start.ensures.0, c.next_time.ensures, behind)
