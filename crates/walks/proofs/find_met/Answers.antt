-- `walks::find_met` meets its contract. The loop's invariant: those from i on lie less than low before the time. Assumes nothing.
use Prim.Native.Nat.{◌+◌, ◌-◌}
use native.Mathlib.Nat.{eq-or-lt_of_le}
use native.Mathlib.Omega.{arith}
use mathlib.Core.Logic.{⊎_elim}
use mathlib.Core.Path.{◌≡◌, ap}
use Rattle.trace.specs.Format.{time_at}
use Rattle.walks.proofs.find_met.Goals as goal

pub loop-i-preserved : goal.loop-i-preserved
loop-i-preserved c j b h =
    let l = c.loop-i in
    let a = c.args in
    let is = c.time.ensures.0 in
    let near = c.if-time-low.false in
    ⊎_elim
    (λ e. let f = ap (time_at a.ahead.now) e in omega arith)
    (λ k. l.invariant j (omega arith) h)
    (eq-or-lt_of_le {n = l.i - 1} {m = j} b)

pub returns : goal.returns
returns c =
    let l = c.loop-i in
    record { behind = omega arith; within = omega arith; there = λ h. absurd (omega arith); after = λ j b. l.invariant j (omega arith) }

pub returns-then-time-low : goal.returns-then-time-low
returns-then-time-low c =
    let l = c.loop-i in
    let is = c.time.ensures.0 in
    let far = c.if-time-low.true in
    let one : l.i - 1 + 1 ≡ l.i = omega arith in
    rw one (record { behind = omega arith; within = omega arith; there = λ h. omega arith; after = l.invariant })
