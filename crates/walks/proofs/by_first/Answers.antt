-- `walks::by_first` meets its contract, by the laws of proofs/Words. Assumes nothing.
use Prim.Native.Nat.{◌^◌, ◌<◌}
use native.Mathlib.Omega.{arith}
use mathlib.Core.Bool.{true≢false}
use mathlib.Core.Path.{refl, sym, ◌∙◌}
use Rattle.trace.specs.Format.{time_at}
use Rattle.walks.proofs.Words.{may_go, goes}
use Rattle.walks.proofs.by_first.Goals as goal
use Rattle.walks.proofs.by_first.Goals.{Else-n-lead}

may : (e : Else-n-lead) → let a = e.args in (0 < a.n) × (a.lead < 64) × (a.low < 2 ^ 32)
may e = let a = e.args in may_go a.n a.lead a.low e.if-n-lead.false

pub returns-then-n-lead : goal.returns-then-n-lead
returns-then-n-lead c e = absurd (true≢false (sym e))

pub overflow_sub-n : goal.overflow_sub-n
overflow_sub-n c = (may (goal.at.overflow_sub-n c).Else-n-lead).0

pub time-last-requires : goal.time-last-requires
time-last-requires c = let m = may (goal.at.time-last-requires c).Else-n-lead in omega (arith, m)

pub returns : goal.returns
returns c t starts first =
    let a = c.args in
    goes a.low a.high a.lead a.n c.saturating_sub.result c.saturating_sub-2.result a.from starts (time_at a.ahead.now) (may (goal.at.returns c).Else-n-lead)
    (c.saturating_sub.ensures ∙ rw first refl)
    (c.saturating_sub-2.ensures ∙ rw (c.time-last.ensures.0, first) refl)
    t
