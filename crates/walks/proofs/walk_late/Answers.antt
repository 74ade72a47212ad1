-- `walks::walk_late` meets its contract, by the laws of proofs/Words and proofs/LatestRight. Assumes nothing.
use Prim.Native.Nat.{◌-◌, ◌≤◌, ◌<◌, ◌^◌}
use native.Mathlib.Nat.{lt_of_lt_of_le}
use native.Mathlib.Omega.{arith}
use mathlib.Core.Path.{refl, ◌∙◌}
use lib.Pow.{pow_mono}
use Rattle.trace.specs.Format.{time_at}
use Rattle.walks.specs.Settle.{next_of}
use Rattle.walks.proofs.Log.{takes_few}
use Rattle.walks.proofs.Words.{Known, known_is, settled_walk, taken_at, by_next}
use Rattle.walks.proofs.LatestRight.{late_next, met_next, late_none, late_some}
use Rattle.walks.proofs.Leads.{rising_next}
use Rattle.walks.proofs.walk_late.Goals as goal
use Rattle.walks.proofs.walk_late.Goals.{After-find_last_zero-known, After-repeat-front, After-taken_for-took}

known : (c : After-find_last_zero-known) →
    let f = c in
    let a = f.args in
    Known a.left f.find_late-late.result.bits a.n c.find_last_zero-known.result
known c =
    let f = c in
    let a = f.args in
    known_is a.left f.find_late-late.result.bits a.n (omega arith) (omega arith) c.find_last_zero-known.ensures

took : (c : After-taken_for-took) → (1 ≤ c.taken_for-took.result) × (c.taken_for-took.result ≤ c.args.n)
took c =
    let a = c.args in
    takes_few a.lead c.find_last_zero-known.result a.n c.taken_for-took.result (omega arith) (omega arith) c.find_last_zero-known.ensures.1 c.taken_for-took.ensures

front_fits : (c : After-repeat-front) → c.repeat-front.result < 2 ^ c.args.lead
front_fits c = lt_of_lt_of_le c.repeat-front.ensures.0 (pow_mono c.count_met-met.ensures.most)

pub repeat-front-requires : goal.repeat-front-requires
repeat-front-requires c = let most = c.count_met-met.ensures.most in omega arith

pub returns-then-known-eq0 : goal.returns-then-known-eq0
returns-then-known-eq0 c high after from by =
    let a = c.args in
    let time = time_at a.ahead.now in
    let most = c.count_met-met.ensures.most in
    settled_walk (by_next after by) (omega arith)
    (λ rises.
    late_none a.low (next_of time a.n after) a.left a.right a.n (omega arith) (known (goal.at.returns-then-known-eq0 c).After-find_last_zero-known)
    (late_next a.low time a.left a.right a.n after (c.find_late-late.ensures (rising_next time a.n after rises)).0)
    (met_next a.low time a.left a.right a.n after (c.find_late-late.ensures (rising_next time a.n after rises)).1 c.count_met-met.ensures)
    c.repeat-front.ensures.0
    c.repeat-front.ensures.1
    c.if-known-eq0.true)
    c.count_met-met.result a.n (omega arith) (λ h. refl, λ h. absurd (omega arith)) c.take.result
    (c.take.ensures.0 ∙ taken_at time a.n after (a.n - 1) a.left a.right (omega arith))
    c.take.ensures.1

pub prolong-requires : goal.prolong-requires
prolong-requires c = (omega arith, front_fits (goal.at.prolong-requires c).After-repeat-front)

pub overflow_sub-took : goal.overflow_sub-took
overflow_sub-took c = (took (goal.at.overflow_sub-took c).After-taken_for-took).0

pub take-requires-2 : goal.take-requires-2
take-requires-2 c = omega (arith, took (goal.at.take-requires-2 c).After-taken_for-took)

pub returns : goal.returns
returns c high after from by =
    let a = c.args in
    let time = time_at a.ahead.now in
    let most = c.find_last_zero-known.ensures.1 in
    settled_walk (by_next after by) (omega arith)
    (λ rises.
    late_some a.low (next_of time a.n after) a.left a.right a.n (omega arith) (known (goal.at.returns c).After-find_last_zero-known)
    (late_next a.low time a.left a.right a.n after (c.find_late-late.ensures (rising_next time a.n after rises)).0)
    (met_next a.low time a.left a.right a.n after (c.find_late-late.ensures (rising_next time a.n after rises)).1 c.count_met-met.ensures)
    c.repeat-front.ensures.0
    c.repeat-front.ensures.1
    (omega arith)
    c.prolong.ensures
    rises)
    c.min.result c.taken_for-took.result c.min.ensures c.taken_for-took.ensures c.take-2.result
    (c.take-2.ensures.0 ∙ taken_at time a.n after (c.taken_for-took.result - 1) a.left a.right (omega (arith, took (goal.at.returns c).After-taken_for-took)))
    c.take-2.ensures.1
