-- `walks::count_met` meets its contract. The loop's invariant: the first i lie low before it. Assumes nothing.
use native.Mathlib.Nat.{eq-or-lt_of_le}
use native.Mathlib.Omega.{arith}
use mathlib.Core.Logic.{⊎_elim}
use mathlib.Core.Path.{ap}
use Rattle.trace.specs.Format.{time_at}
use Rattle.walks.proofs.count_met.Goals as goal

pub loop-i-preserved : goal.loop-i-preserved
loop-i-preserved c j h =
    let l = c.loop-i in
    let a = c.args in
    let is = c.time.ensures.0 in
    ⊎_elim
    (λ e. let s = ap (time_at a.starts.now) e in omega arith)
    (λ m. l.invariant j m)
    (eq-or-lt_of_le {n = j} {m = l.i} (omega arith))

pub returns : goal.returns
returns c = let l = c.loop-i in record { most = omega arith; far = λ j h. l.invariant j (omega arith); next = λ h. absurd (omega arith) }

pub returns-then-to-time : goal.returns-then-to-time
returns-then-to-time c =
    let l = c.loop-i in
    let is = c.time.ensures.0 in
    record { most = omega arith; far = l.invariant; next = λ h. omega arith }
