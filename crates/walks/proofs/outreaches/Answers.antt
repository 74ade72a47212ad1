-- `walks::outreaches` meets its contract, by the laws of proofs/Far. Assumes nothing.
use native.Mathlib.Omega.{arith}
use mathlib.Core.Bool.{true≢false}
use mathlib.Core.Path.{refl, sym, ◌∙◌}
use Rattle.trace.specs.Format.{time_at}
use Rattle.walks.proofs.Words.{some_few}
use Rattle.walks.proofs.Far.{reaches}
use Rattle.walks.proofs.outreaches.Goals as goal

pub returns-then-n-lead : goal.returns-then-n-lead
returns-then-n-lead c e = absurd (true≢false (sym e))

pub time-first-requires : goal.time-first-requires
time-first-requires c =
    let a = c.args in
    omega (arith, some_few a.n a.lead c.if-n-lead.false)

pub overflow_sub-n : goal.overflow_sub-n
overflow_sub-n c =
    let a = c.args in
    (some_few a.n a.lead c.if-n-lead.false).0

pub time-last-requires : goal.time-last-requires
time-last-requires c =
    let a = c.args in
    omega (arith, some_few a.n a.lead c.if-n-lead.false)

pub returns : goal.returns
returns c =
    let a = c.args in
    reaches a.high a.lead a.n c.saturating_sub.result a.from (time_at a.ahead.now) (some_few a.n a.lead c.if-n-lead.false)
    (c.saturating_sub.ensures ∙ rw (c.time-last.ensures.0, c.time-first.ensures.0) refl)
    (rw c.time-last.ensures.0 at c.time-last.ensures.1)
