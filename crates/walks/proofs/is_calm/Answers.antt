-- `walks::is_calm` meets its contract, by the laws of proofs/Over. Assumes nothing.
use native.Mathlib.Omega.{arith}
use mathlib.Core.Bool.{true≢false}
use mathlib.Core.Path.{refl, sym, ◌∙◌}
use Rattle.trace.specs.Format.{time_at}
use Rattle.walks.proofs.Over.{many_some, calms}
use Rattle.walks.proofs.is_calm.Goals as goal

pub returns-then-lead-n : goal.returns-then-lead-n
returns-then-lead-n c e = absurd (true≢false (sym e))

pub time-start-requires : goal.time-start-requires
time-start-requires c =
    let a = c.args in
    omega (arith, many_some a.lead a.n c.if-lead-n.false)

pub overflow_sub-n : goal.overflow_sub-n
overflow_sub-n c =
    let a = c.args in
    (many_some a.lead a.n c.if-lead-n.false).1

pub time-last-requires : goal.time-last-requires
time-last-requires c =
    let a = c.args in
    omega (arith, many_some a.lead a.n c.if-lead-n.false)

pub returns : goal.returns
returns c =
    let a = c.args in
    calms a.high a.lead a.n a.left a.right c.find_first_zero.result c.saturating_sub.result a.from (time_at a.starts.now)
    (time_at a.ahead.now)
    (many_some a.lead a.n c.if-lead-n.false)
    c.requires.0
    (omega arith)
    c.find_first_zero.ensures
    (c.saturating_sub.ensures ∙ rw (c.time-last.ensures.0, c.time-start.ensures.0) refl)
