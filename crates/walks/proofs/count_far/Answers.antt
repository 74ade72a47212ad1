-- `walks::count_far` meets its contract. The loop's invariant: those from i on lie no more than high before the last. Assumes nothing.
use Prim.Native.Nat.{◌+◌, ◌-◌}
use native.Mathlib.Nat.{eq-or-lt_of_le}
use native.Mathlib.Omega.{arith}
use mathlib.Core.Logic.{⊎_elim}
use mathlib.Core.Path.{◌≡◌, ap}
use Rattle.trace.specs.Format.{time_at}
use Rattle.walks.proofs.count_far.Goals as goal

pub loop-i-init : goal.loop-i-init
loop-i-init c j h l =
    let a = c.args in
    let e : j ≡ a.n - 1 = omega arith in
    let s = ap (time_at a.ahead.now) e in
    omega arith

pub loop-i-preserved : goal.loop-i-preserved
loop-i-preserved c j h m =
    let l = c.loop-i in
    let a = c.args in
    let is = c.time.ensures.0 in
    let last = c.time-last.ensures.0 in
    ⊎_elim
    (λ e. let s = ap (time_at a.ahead.now) e in omega arith)
    (λ k. l.invariant j (omega arith) m)
    (eq-or-lt_of_le {n = l.i - 1} {m = j} h)

pub returns : goal.returns
returns c = let l = c.loop-i in record { below = omega arith; over = λ h. absurd (omega arith); near = λ j h. l.invariant j (omega arith) }

pub returns-then-time-high : goal.returns-then-time-high
returns-then-time-high c =
    let l = c.loop-i in
    let is = c.time.ensures.0 in
    let last = c.time-last.ensures.0 in
    let one : l.i - 1 + 1 ≡ l.i = omega arith in
    rw one (record { below = omega arith; over = λ h. omega arith; near = l.invariant })
