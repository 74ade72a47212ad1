-- `window::first_time` meets its contract, by the laws of proofs/Windows. Assumes nothing.
use Prim.Native.Nat.{◌-◌, ◌≤◌, ◌<◌}
use mathlib.Core.Path.{◌≡◌, sym, ap, ◌∙◌}
use lib.Dec.{leb, ltb}
use borrow.Author.Tests.{lt-ltb, le-leb}
use Rattle.mtl.proofs.Bounded.{and_iff, true_and_false}
use Rattle.trace.specs.Format.{record_count, time_at}
use Rattle.trace.specs.Positions.{place, Inside}
use Rattle.window.specs.View.{skips}
use Rattle.window.proofs.Windows.{first_here, first_behind}
use Rattle.window.proofs.first_time.Goals as goal
use Rattle.window.proofs.first_time.Goals.{After-behind-end, Then-is_position}

here : (c : Then-is_position) →
    let a = c.args in
    let at = c.in_slice-at.result in
    (at < record_count a.records.now) × (place (skips a.view.now) a.records.now at 0 ≡ at)
here c =
    let a = c.args in
    first_here (skips a.view.now) a.records.now c.in_slice-at.result (sym c.is_position.ensures ∙ c.if-is_position.true)

further : (c : After-behind-end) →
    let a = c.args in
    let s = a.records.now in
    let at = c.in_slice-at.result in
    let end = c.behind-end.result in
    Inside (skips a.view.now) s at 1 → (0 < end) × (end ≤ record_count s) × (end - 1 ≡ place (skips a.view.now) s at 0)
further c =
    let a = c.args in
    first_behind (skips a.view.now) a.records.now c.in_slice-at.result (sym c.is_position.ensures ∙ c.if-is_position.false) c.behind-end.result c.behind-end.ensures

pub returns-then-is_position : goal.returns-then-is_position
returns-then-is_position c =
    let a = c.args in
    let at = c.in_slice-at in
    rw (← at.ensures) (λ inside. c.time.ensures.0 ∙ ap (time_at a.records.now) (sym (here (goal.at.returns-then-is_position c).Then-is_position).1))

pub returns-then-end-count : goal.returns-then-end-count
returns-then-end-count c =
    let a = c.args in
    let at = c.in_slice-at in
    rw (← at.ensures) (λ inside. c.time-then-end-count.ensures.0 ∙ ap (time_at a.records.now) (further (goal.at.returns-then-end-count c).After-behind-end inside).2)

pub returns : goal.returns
returns c =
    let at = c.in_slice-at in
    let end = c.behind-end.result in
    let count = c.count in
    rw (← at.ensures)
    (λ inside.
    let m = further (goal.at.returns c).After-behind-end inside in
    absurd (true_and_false ((and_iff (ltb 0 end) (leb end count.result)).1 (lt-ltb 0 end m.0, rw count.ensures (le-leb end _ m.1))) c.if-end-count.false))
