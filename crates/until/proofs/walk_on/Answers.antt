-- `until::walk_on` meets its contract, by the laws of proofs/Steps: by the first that waits alone, by the last position taken, or by the
-- window of those that wait.
-- Assumes nothing.
use Prim.Native.Nat.{◌-◌, ◌<◌}
use native.Mathlib.Omega.{arith}
use mathlib.Core.Logic.{⊎_elim}
use mathlib.Core.Path.{refl, sym, ◌∙◌}
use lib.Dec.{leb}
use borrow.Author.Tests.{leb-true}
use Rattle.mtl.proofs.Bounded.{and_iff}
use Rattle.trace.specs.Format.{time_at}
use Rattle.window.specs.View.{closed}
use Rattle.window.specs.Window.{window_of}
use Rattle.blocks.specs.Block.{taken, answered, left_bits, right_bits}
use Rattle.walks.specs.Settle.{time_of_none, next_of, Walk, ByWords}
use Rattle.until.specs.Code.{ahead_of, last_taken}
use Rattle.until.proofs.Steps.{walk_fits, ahead_holds, some_holds, starts_holds, starts_windowed, beyond_windowed, from_first, by_window, by_first_none, by_last, by_first_all}
use Rattle.until.proofs.walk_on.Goals as goal
use Rattle.until.proofs.walk_on.Goals.{After-walk_ahead-walked, Else-walked-eq0, Then-tells}

-- the first tells enough
told : (c : Then-tells) →
    let f = c in
    let s = f in
    let a = s.args in
    ByWords 0 a.high (from_first s.requires.0 f.first_time-start.result) (time_at (window_of a.ahead a.records.now a.copy.now))
    (taken a.block.now - answered a.block.now) a.room.take (last_taken a.block.now)
told c =
    let f = c in
    let s = f in
    c.tells.ensures c.if-tells.true (from_first s.requires.0 f.first_time-start.result) refl

-- the first tells enough
told_2 : (c : After-walk_ahead-walked) →
    let f = c in
    let s = f in
    let a = s.args in
    ByWords 0 a.high (from_first s.requires.0 f.first_time-start.result) (time_at (window_of a.ahead a.records.now a.copy.now))
    (taken a.block.now - answered a.block.now) a.room.take (last_taken a.block.now)
told_2 c =
    let f = c in
    let s = f in
    c.tells.ensures c.if-tells.true (from_first s.requires.0 f.first_time-start.result) refl

-- the walk by it
walked : (c : After-walk_ahead-walked) →
    let t = c in
    let f = t in
    let s = f in
    let a = s.args in
    let b = a.block.now in
    Walk a.low a.high (from_first s.requires.0 f.first_time-start.result) (ahead_of a.ahead a.records.now a.copy.now a.room.take a.room.look (closed a.view.now))
    (taken b - answered b) a.room.take (left_bits b) (right_bits b) (last_taken b) c.walk_ahead-walked.result
walked c =
    let t = c in
    let f = t in
    let s = f in
    let a = s.args in
    let times = time_at (window_of a.ahead a.records.now a.copy.now) in
    rw f.if-low-eq0.true
    (c.walk_ahead-walked.ensures.by_index a.high (next_of times a.room.look (time_of_none (closed a.view.now)) a.room.take) _ (last_taken a.block.now) (told_2 c))

-- all that wait are answered
all : (c : Else-walked-eq0) →
    let b = c.args.block.now in
    taken b - answered b < c.walk_ahead-walked.result.count
all c = ⊎_elim (λ none. absurd (omega (arith, c.if-walked-eq0.false))) (λ some. some) c.walk_ahead-walked.ensures.fact

pub bounds-block-16 : goal.bounds-block-16
bounds-block-16 c = let room = c.requires.0.room in omega arith

pub tells-requires : goal.tells-requires
tells-requires c = let o = c.requires.0 in ((walk_fits o).0, some_holds o)

pub walk_ahead-walked-requires : goal.walk_ahead-walked-requires
walk_ahead-walked-requires c =
    let o = c.requires.0 in
    let by = told (goal.at.walk_ahead-walked-requires c).Then-tells in
    ((walk_fits o).0, by.some, (walk_fits o).1, by.few, some_holds o)

pub returns-then-walked-eq0 : goal.returns-then-walked-eq0
returns-then-walked-eq0 c =
    record { strides = by_first_none c.requires.0 c.first_time-start.result c.first_time-start.ensures (walked (goal.at.returns-then-walked-eq0 c).After-walk_ahead-walked) c.if-walked-eq0.true; keeps = c.requires.2 }

pub overflow_sub-some : goal.overflow_sub-some
overflow_sub-some c = omega (arith, all (goal.at.overflow_sub-some c).Else-walked-eq0, c.saturating_sub.ensures)

pub bounds-block-11 : goal.bounds-block-11
bounds-block-11 c = let room = c.requires.0.room in omega arith

pub pass-head-requires : goal.pass-head-requires
pass-head-requires c =
    (c.requires.3, rw c.saturating_sub.ensures (beyond_windowed c.requires.0 (walked (goal.at.pass-head-requires c).After-walk_ahead-walked)))

pub returns-then-tells : goal.returns-then-tells
returns-then-tells c =
    record { strides = by_first_all c.requires.0 c.first_time-start.result c.first_time-start.ensures (walked (goal.at.returns-then-tells c).After-walk_ahead-walked) (all (goal.at.returns-then-tells c).Else-walked-eq0) (rw c.saturating_sub.ensures at c.pass-head.ensures); keeps = c.requires.2 }

pub answer_told-walked-requires : goal.answer_told-walked-requires
answer_told-walked-requires c =
    let lead = c.saturating_sub-lead.result in
    let both = (and_iff (leb lead 64) c.is_told.result).0 c.if-lead-is_told.true in
    (sym c.is_told.ensures ∙ both.1, leb-true lead 64 both.0)

pub returns-then-lead-is_told : goal.returns-then-lead-is_told
returns-then-lead-is_told c =
    let a = c.args in
    let b = a.block.now in
    let lead = c.saturating_sub-lead.ensures in record {
      strides = by_last c.requires.0 c.first_time-start.result c.first_time-start.ensures
          (rw c.if-low-eq0.true
          (rw (lead, c.last_of-last.ensures)
          at (c.answer_told-walked.ensures.walk a.high a.room.take (left_bits b) (right_bits b) (from_first c.requires.0 c.first_time-start.result) (ahead_of a.ahead a.records.now a.copy.now a.room.take a.room.look (closed a.view.now)))))
          (c.answer_told-walked.ensures.count_value ∙ lead);
      keeps = c.requires.2;
    }

pub share-starts-requires : goal.share-starts-requires
share-starts-requires c =
    let pre = c.requires in
    (omega (arith, pre.0.fits.waiting), pre.1, pre.2, pre.3)

pub walk_windows-walked-requires : goal.walk_windows-walked-requires
walk_windows-walked-requires c =
    let o = c.requires.0 in
    record { in_bounds = walk_fits o; has_records = (ahead_holds o, starts_holds o c.share-starts.ensures.opened) }

pub pass-head-requires-2 : goal.pass-head-requires-2
pass-head-requires-2 c =
    let pre = c.requires in
    (pre.3, starts_windowed pre.0 c.walk_windows-walked.ensures c.share-starts.ensures.opened)

pub returns : goal.returns
returns c =
    let pre = c.requires in
    record { strides = by_window pre.0 c.share-starts.ensures.opened c.walk_windows-walked.ensures c.pass-head-2.ensures; keeps = c.share-starts.ensures.keeps }
