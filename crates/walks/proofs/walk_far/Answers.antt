-- `walks::walk_far` meets its contract, by the laws of proofs/Far. Assumes nothing.
use Prim.Native.Nat.{◌-◌, ◌≤◌, ◌<◌, ◌^◌}
use native.Mathlib.Nat.{lt_of_le_of_lt}
use native.Mathlib.Omega.{arith}
use mathlib.Core.Logic.{⊎_elim}
use mathlib.Core.Path.{◌∙◌}
use lib.Bits.{bit_and, and_le_l}
use Rattle.mtl.proofs.Bounded.{le_or_lt}
use Rattle.trace.specs.Format.{time_at}
use Rattle.walks.specs.Settle.{next_of}
use Rattle.walks.proofs.Log.{takes_few}
use Rattle.walks.proofs.Words.{Known, known_is, taken_at}
use Rattle.walks.proofs.Far.{far_walk, far_words, soon_next, over_next, far_next, reach_next, which_known}
use Rattle.walks.proofs.walk_far.Goals as goal
use Rattle.walks.proofs.walk_far.Goals.{After-find_last_zero-event, After-max-known, After-repeat-2, After-taken_for-took}

event : (z : After-find_last_zero-event) →
    let a = z.args in
    Known a.left a.right a.n z.find_last_zero-event.result
event z =
    let a = z.args in
    known_is a.left a.right a.n z.requires.2 (omega arith) z.find_last_zero-event.ensures

-- how many are told
few_known : (k : After-max-known) → k.max-known.result ≤ k.args.n
few_known k =
    let most = k.find_last_zero-event.ensures.1 in
    let below = k.count_far-far.ensures.below in
    ⊎_elim (λ i. omega arith) (λ i. omega arith) (which_known k.find_last_zero-event.result k.count_far-far.result k.max-known.result k.max-known.ensures)

-- how many are told
few_known_2 : (k : After-taken_for-took) → k.max-known.result ≤ k.args.n
few_known_2 k =
    let most = k.find_last_zero-event.ensures.1 in
    let below = k.count_far-far.ensures.below in
    ⊎_elim (λ i. omega arith) (λ i. omega arith) (which_known k.find_last_zero-event.result k.count_far-far.result k.max-known.result k.max-known.ensures)

took : (t : After-taken_for-took) →
    (1 ≤ t.taken_for-took.result) × (t.taken_for-took.result ≤ t.args.n)
took t =
    let a = t.args in
    takes_few a.lead t.max-known.result a.n t.taken_for-took.result t.requires.4 t.requires.1 (few_known_2 t) t.taken_for-took.ensures

front_fits : (r : After-repeat-2) →
    bit_and r.repeat.result (2 ^ 64 - 1 - r.repeat-2.result) < 2 ^ r.args.lead
front_fits r = lt_of_le_of_lt (and_le_l r.repeat.result (2 ^ 64 - 1 - r.repeat-2.result)) r.repeat.ensures.0

pub repeat-requires-2 : goal.repeat-requires-2
repeat-requires-2 c = let most = c.count_met-over.ensures.most in omega arith

pub taken_for-took-requires : goal.taken_for-took-requires
taken_for-took-requires k = omega (arith, few_known (goal.at.taken_for-took-requires k).After-max-known, k.requires)

pub prolong-requires : goal.prolong-requires
prolong-requires c = (c.requires.4, front_fits (goal.at.prolong-requires c).After-repeat-2)

pub overflow_add-lead : goal.overflow_add-lead
overflow_add-lead c = omega (arith, few_known (goal.at.overflow_add-lead c).After-max-known, c.requires)

pub overflow_sub-took : goal.overflow_sub-took
overflow_sub-took c = (took (goal.at.overflow_sub-took c).After-taken_for-took).0

pub take-requires : goal.take-requires
take-requires c = omega (arith, took (goal.at.take-requires c).After-taken_for-took, c.requires)

pub returns : goal.returns
returns c after from reach =
    let a = c.args in
    let pre = c.requires in
    let time = time_at a.ahead.now in
    let next = next_of time a.n after in
    let far = c.count_far-far.ensures in
    let longer = reach.longer in
    let is = which_known c.find_last_zero-event.result c.count_far-far.result c.max-known.result c.max-known.ensures in
    let some_far : 0 < c.count_far-far.result = ⊎_elim (λ n. let e = far.near 0 n pre.1 in absurd (omega (arith, longer, e))) (λ l. l) (le_or_lt c.count_far-far.result 0) in
    let some : 0 < c.max-known.result = ⊎_elim (λ i. omega arith) (λ i. omega arith) is in
    far_walk (reach_next a.high time a.right a.n after reach) some (few_known (goal.at.returns c).After-max-known)
    (λ times.
    far_words a.high next c.fill_down-own.result (omega (arith, pre.0)) (event (goal.at.returns c).After-find_last_zero-event) c.fill_down-own.ensures (far_next a.high time a.right a.n after far)
    (soon_next a.high time a.right a.n after c.find_soon-soon.ensures.0)
    c.repeat.result
    c.repeat-2.result
    (over_next a.high time a.right a.n after c.find_soon-soon.ensures.1 c.count_met-over.ensures)
    times
    pre.4
    (λ i h. c.repeat.ensures.1 i h ∙ c.test.ensures)
    c.repeat-2.ensures.0
    c.repeat-2.ensures.1
    is
    some
    c.prolong.ensures)
    c.min.result c.taken_for-took.result c.min.ensures c.taken_for-took.ensures c.take.result
    (c.take.ensures.0 ∙ taken_at time a.n after (c.taken_for-took.result - 1) a.left a.right (omega (arith, took (goal.at.returns c).After-taken_for-took)))
    c.take.ensures.1
