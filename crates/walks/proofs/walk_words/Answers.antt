-- `walks::walk_words` meets its contract: all ways of walking do. Assumes nothing.
use native.Mathlib.Omega.{arith}
use mathlib.Core.Path.{◌≡◌, sym, ◌∙◌}
use Rattle.trace.specs.Format.{time_at}
use Rattle.walks.proofs.Told.{quiet_last}
use Rattle.walks.proofs.Over.{may_take}
use Rattle.walks.proofs.walk_words.Goals as goal
use Rattle.walks.proofs.walk_words.Goals.{After-is_told-2}

-- low is 0
none : (t : After-is_told-2) → t.args.low ≡ 0
none t = t.if-low-ne0.false

pub walk_late-requires : goal.walk_late-requires
walk_late-requires c =
    let w = c.by_words.ensures c.if-by_words.true in
    let few = w.few in
    (omega arith, w.small, w.some, omega arith, omega arith, w.few, omega arith)

pub returns-then-by_words : goal.returns-then-by_words
returns-then-by_words c =
    let a = c.args in
    c.walk_late.ensures a.high a.after a.from (c.by_words.ensures c.if-by_words.true)

pub walk_told-requires : goal.walk_told-requires
walk_told-requires c = (sym c.is_told.ensures ∙ c.if-is_told.true, omega arith)

pub returns-then-is_told : goal.returns-then-is_told
returns-then-is_told c = c.walk_told.ensures _ _ _ _ _

pub walk_calm-requires : goal.walk_calm-requires
walk_calm-requires c = let w = c.is_calm.ensures c.if-is_calm.true in (w.some, omega arith, omega arith)

pub returns-then-is_calm : goal.returns-then-is_calm
returns-then-is_calm c =
    let a = c.args in
    c.walk_calm.ensures a.low a.high a.lead a.after (time_at a.starts.now) a.from (c.is_calm.ensures c.if-is_calm.true)

pub walk_far-requires : goal.walk_far-requires
walk_far-requires c =
    let w = c.outreaches.ensures c.if-outreaches.true in
    let few = w.few in
    let some = w.some in
    (w.small, w.some, omega arith, omega arith, w.few, omega arith)

pub returns-then-outreaches : goal.returns-then-outreaches
returns-then-outreaches c =
    let a = c.args in
    rw c.if-low-ne0.false (c.walk_far.ensures a.after a.from (c.outreaches.ensures c.if-outreaches.true))

pub walk_told-requires-then-is_told-2 : goal.walk_told-requires-then-is_told-2
walk_told-requires-then-is_told-2 c = (sym c.is_told-2.ensures ∙ c.if-is_told-2.true, omega arith)

pub returns-then-is_told-2 : goal.returns-then-is_told-2
returns-then-is_told-2 c = c.walk_told-then-is_told-2.ensures _ _ _ _ _

pub walk_over-requires : goal.walk_over-requires
walk_over-requires c =
    let a = c.args in
    let (small, waiting, some) = may_take a.high a.lead a.n c.if-lead-n.true in
    let (held, unmet) = quiet_last a.low a.lead a.from (sym c.is_told-2.ensures ∙ c.if-is_told-2.false) waiting (none (goal.at.walk_over-requires c).After-is_told-2) in
    (small, waiting, some, omega arith, omega arith, omega arith, held, unmet)

pub returns-then-lead-n : goal.returns-then-lead-n
returns-then-lead-n c =
    let a = c.args in
    rw (none (goal.at.returns-then-lead-n c).After-is_told-2) (c.walk_over.ensures a.after)
