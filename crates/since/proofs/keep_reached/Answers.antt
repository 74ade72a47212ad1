-- `since::keep_reached` meets its contract, by the laws of proofs/Newest.
use Prim.Native.Nat.{◌-◌, ◌≤◌}
use native.Mathlib.Omega.{arith}
use Rattle.trace.specs.Format.{time_at}
use Rattle.since.proofs.Newest.{all_in_reach}
use Rattle.since.proofs.Runs.{reached_are}
use Rattle.since.proofs.keep_reached.Goals as goal

pub returns-then-saturating_sub-high : goal.returns-then-saturating_sub-high
returns-then-saturating_sub-high c rises =
    let a = c.args in
    let near : time_at a.window.now (a.n - 1) - a.first ≤ a.high = rw (c.saturating_sub.ensures, c.time.ensures.0) at c.if-saturating_sub-high.true in
    all_in_reach a.right rises a.alive (omega arith) near

pub returns : goal.returns
returns c rises =
    let a = c.args in
    reached_are a.high (time_at a.window.now) a.right a.first a.n a.alive c.find_late.result (omega arith) (c.find_late.ensures rises)
