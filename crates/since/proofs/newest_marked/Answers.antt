-- `since::newest_marked` meets its contract: the last mark is the last 0 of the turned word.
use native.Mathlib.Omega.{arith}
use mathlib.Core.Path.{refl, sym, ◌∙◌}
use borrow.Author.Tests.{eq-eqb, ne_eqb}
use Rattle.trace.specs.Format.{time_at}
use Rattle.since.proofs.Newest.{newest_last}
use Rattle.since.proofs.newest_marked.Goals as goal

pub returns-then-behind-eq0 : goal.returns-then-behind-eq0
returns-then-behind-eq0 c =
    let a = c.args in
    let e = c.if-behind-eq0.true in
    let zero = c.find_last_zero-behind.ensures.0 in
    (sym (newest_last (time_at a.window.now) a.marks a.first a.n (omega arith) (omega arith) ∙ rw (← zero, eq-eqb _ _ e) refl), λ small. small)

pub returns : goal.returns
returns c =
    let a = c.args in
    let zero = c.find_last_zero-behind.ensures.0 in
    let below = c.time.ensures.1 in (
      c.time.ensures.0
          ∙ sym (newest_last (time_at a.window.now) a.marks a.first a.n (omega arith) (omega arith) ∙ rw (← zero, ne_eqb _ _ c.if-behind-eq0.false) refl),
      λ small. omega arith,
    )
