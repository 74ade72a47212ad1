-- `since::find_old` meets its contract: what the loop has passed is not old enough.
use Prim.Native.Nat.{◌-◌, ◌<◌}
use native.Mathlib.Omega.{arith}
use mathlib.Core.Logic.{⊎_elim}
use mathlib.Core.Path.{ap}
use native.Mathlib.Nat.{eq-or-lt_of_le}
use Rattle.trace.specs.Format.{time_at}
use Rattle.since.proofs.find_old.Goals as goal

pub loop-i-preserved : goal.loop-i-preserved
loop-i-preserved c k b h =
    let l = c.loop-i in
    let a = c.args in
    let here : time_at a.window.now l.i - a.last < a.low = rw (c.saturating_sub.ensures, c.time.ensures.0) at c.if-low-saturating_sub.false in
    ⊎_elim
    (λ e. let f = ap (time_at a.window.now) e in omega arith)
    (λ m. l.invariant k b m)
    (eq-or-lt_of_le {n = k} {m = l.i} (omega arith))

pub returns : goal.returns
returns c =
    let l = c.loop-i in
    record { behind = omega arith; within = omega arith; before = λ k b h. l.invariant k b (omega arith); there = λ h. absurd (omega arith) }

pub returns-then-low-saturating_sub : goal.returns-then-low-saturating_sub
returns-then-low-saturating_sub c =
    let l = c.loop-i in
    record {
      behind = omega arith;
      within = omega arith;
      before = l.invariant;
      there = λ h. rw (c.saturating_sub.ensures, c.time.ensures.0) at c.if-low-saturating_sub.true;
    }
