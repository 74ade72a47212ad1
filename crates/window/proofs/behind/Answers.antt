-- `window::behind` meets its contract, by the laws of proofs/Windows on passing positions.
-- Assumes nothing.
use Prim.Native.Nat.{ℕ, ◌+◌, ◌-◌, ◌≤◌}
use native.Mathlib.Omega.{arith}
use mathlib.Core.List.{List}
use mathlib.Core.Path.{◌≡◌}
use Rattle.trace.specs.Format.{record_count}
use Rattle.window.specs.Window.{Counted}
use Rattle.window.proofs.Windows.{ended, going_none, going_group, going_behind}
use Rattle.window.proofs.behind.Invariants.{Left}
use Rattle.window.proofs.behind.Goals as goal

fewer : (s : List ℕ) (from n left at m r : ℕ) → Left s from n left at → (m ≤ left) × (at + m ≤ record_count s) → Counted s at m r →
    Left s from n (left - r) (at + m)
fewer s from n left at m r (most, going) (few, inside) counted =
    let fits = counted.few in
    let passed : n - (left - r) ≡ n - left + r = omega arith in
    (omega arith, rw passed (going_group s from n (n - left) at going m (omega arith) inside r counted.sum))

pub loop-left-init : goal.loop-left-init
loop-left-init c =
    let a = c.args in
    let none : a.n - a.n ≡ 0 = omega arith in
    (omega arith, rw none (going_none a.records.now a.from a.n))

pub loop-left-preserved : goal.loop-left-preserved
loop-left-preserved c =
    let a = c.args in
    let l = c.loop-left in
    let fits = c.can_take.ensures.0 c.loop-left-test.true in
    fewer a.records.now a.from a.n l.left l.at 8 c.count_group-left.result l.invariant (omega arith) c.count_group-left.ensures

pub loop-left-2-preserved : goal.loop-left-2-preserved
loop-left-2-preserved c =
    let a = c.args in
    let l = c.loop-left-2 in
    let fits = c.can_take-in-loop-left-2.ensures.0 c.loop-left-2-test.true in
    fewer a.records.now a.from a.n l.left l.at 1 c.count_mixed-left.result l.invariant (omega arith) c.count_mixed-left.ensures

pub returns : goal.returns
returns c =
    let a = c.args in
    let l = c.loop-left-2 in
    let few = l.invariant.0 in
    going_behind a.records.now a.from a.n (a.n - l.left) l.at l.invariant.1
    (ended (c.can_take-in-loop-left-2.ensures.1 c.loop-left-2-test.false) (omega arith))
