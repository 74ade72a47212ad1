-- `until::step_until` meets its contract, by the laws of proofs/Steps: an operand wanted at once, or after a walk; positions taken; positions
-- answered.
-- Assumes nothing.
use Prim.Native.Nat.{◌≤◌, ◌<◌}
use native.Mathlib.Omega.{arith}
use mathlib.Core.Logic.{⊎_elim}
use mathlib.Core.Path.{refl}
use lib.ListN.{length}
use borrow.Author.Rules.{rules}
use Rattle.window.specs.View.{total}
use Rattle.window.specs.Window.{Keeps}
use Rattle.blocks.specs.Block.{taken, answered}
use Rattle.until.specs.Code.{OpensAhead}
use Rattle.until.proofs.Steps.{Went, stands_outside, stands_inside, walk_fits, put_back_fits, ahead_windowed, walked_onward, wanted_ends, wants_more, took_ends, wants, takes_some, answers_some}
use Rattle.until.proofs.step_until.Goals as goal
use Rattle.until.proofs.step_until.Goals.{then-w-eq0+else-w-eq0-2, else-w-eq0}
use Rattle.until.proofs.step_until.Goals.{After-open-ahead, After-walk_on-stride}

-- what is known after the window ahead was opened
opened : (c : After-open-ahead) →
    let k = c in
    let a = k.args in
    OpensAhead a.view.now a.records.now a.block.now k.room_of-room.result c.open-ahead.result c.open-ahead.new.copy
opened c =
    let k = c in
    let s = k in
    record { room = s.requires.0; behind = (stands_inside _ _ _ k.if-total-at.false).0; fits = k.room_of-room.ensures; next = c.open-ahead.ensures }

-- what is known after the window ahead was opened
opened_2 : (c : After-walk_on-stride) →
    let k = c in
    let a = k.args in
    OpensAhead a.view.now a.records.now a.block.now k.room_of-room.result c.open-ahead.result c.open-ahead.new.copy
opened_2 c =
    let k = c in
    let s = k in
    record { room = s.requires.0; behind = (stands_inside _ _ _ k.if-total-at.false).0; fits = k.room_of-room.ensures; next = c.open-ahead.ensures }

-- what is known after the walk
went : (c : After-walk_on-stride) →
    let o = c in
    let k = o in
    let a = k.args in
    Went a.low a.high o.min-most.result a.view.now a.records.now a.block.now k.room_of-room.result o.open-ahead.result o.open-ahead.new.copy
    c.walk_on-stride.result
went c =
    let o = c in
    let k = o in
    record {
      opens = opened_2 c;
      byte = λ i. (k.type_inv.records i).fits;
      clamp = o.min-most.ensures;
      strides = c.walk_on-stride.ensures.strides;
    }

-- the copies keep what they say
copies : (c : After-walk_on-stride) →
    let s = c.args.records.now in
    Keeps s c.open-ahead.new.copy × Keeps s c.walk_on-stride.new.waiting
copies c = (c.open-ahead.ensures.keeps, c.walk_on-stride.ensures.keeps)

pub returns-then-total-at : goal.returns-then-total-at
returns-then-total-at c =
    let a = c.args in
    let outside = stands_outside (total a.view.now) (taken a.block.now) (answered a.block.now) c.if-total-at.true in record {
      ends = refl;
      steps = λ φ ψ L g falls agrees ready.
          let size = agrees.size in
          let at = ready.core.range.at in
          let i = ready.core.own.0 in
          let ahead = ready.core.own.1.ahead in
          absurd (⊎_elim (λ h. omega arith) (λ h. omega arith) outside);
      keeps = (c.requires.1, c.requires.2);
    }

pub room_of-room-requires : goal.room_of-room-requires
room_of-room-requires c =
    let room = c.requires.0 in
    let longer : 16 ≤ length c.args.block.now = omega arith in
    let inside = stands_inside _ _ _ c.if-total-at.false in
    (longer, inside.0, inside.1)

pub must_wait-requires : goal.must_wait-requires
must_wait-requires c =
    let pre = c.requires in
    (pre.0, pre.1, (stands_inside _ _ _ c.if-total-at.false).0, c.room_of-room.ensures, pre.3)

pub wanted-requires : goal.wanted-requires
wanted-requires c = let room = c.requires.0 in omega arith

pub returns-then-must_wait : goal.returns-then-must_wait
returns-then-must_wait c =
    let a = c.args in
    let t = c.wanted in
    let stuck = c.must_wait.ensures.take_value c.if-must_wait.true in record {
      ends = wanted_ends a.view.now a.block.now t.result t.ensures;
      steps = λ φ ψ L g falls agrees ready.
          wants_more ready agrees c.room_of-room.ensures stuck.0 (stuck.1 a.high φ ψ L g c.min-most.ensures falls agrees ready) t.result t.ensures;
      keeps = (c.must_wait.ensures.keeps, c.requires.2);
    }

pub open-ahead-requires : goal.open-ahead-requires
open-ahead-requires c =
    (search rules, c.must_wait.ensures.keeps, c.requires.3)

pub walk_on-stride-requires : goal.walk_on-stride-requires
walk_on-stride-requires c =
    let pre = c.requires in
    (opened (goal.at.walk_on-stride-requires c).After-open-ahead, c.open-ahead.ensures.keeps, pre.2, pre.3)

pub wanted-requires-then-w-eq0-2 : goal.wanted-requires-then-w-eq0-2
wanted-requires-then-w-eq0-2 c = (walk_fits (went (goal.at.wanted-requires-then-w-eq0-2 c).After-walk_on-stride).opens).0

pub returns-then-w-eq0-2 : goal.returns-then-w-eq0-2
returns-then-w-eq0-2 c =
    let a = c.args in
    let t = c.wanted-then-w-eq0-2 in record {
      ends = wanted_ends a.view.now a.block.now t.result t.ensures;
      steps = λ φ ψ L g falls agrees ready.
          wants (went (goal.at.returns-then-w-eq0-2 c).After-walk_on-stride) φ ψ L g falls agrees ready c.if-w-eq0.true c.if-w-eq0-2.true t.result t.ensures;
      keeps = copies (goal.at.returns-then-w-eq0-2 c).After-walk_on-stride;
    }

pub pass-requires : goal.pass-requires
pass-requires c = (c.requires.3, ahead_windowed (went (goal.at.pass-requires c).After-walk_on-stride))

pub put_back-requires : goal.put_back-requires
put_back-requires c = put_back_fits (went (goal.at.put_back-requires c).After-walk_on-stride)

pub returns-then-w-eq0-3 : goal.returns-then-w-eq0-3
returns-then-w-eq0-3 c =
    let none = c.if-w-eq0-3.true in
    let some : 0 < c.walk_on-stride.result.walked.took =
    elim c.if-w-eq0.branch [
      | then-w-eq0+else-w-eq0-2 w ↦ let l = w.if-w-eq0-2.false in omega arith
      | else-w-eq0 w ↦ let l = w.if-w-eq0.false in absurd (omega arith)
    ] in
    record {
      ends = rw c.put_back.ensures (took_ends (went (goal.at.returns-then-w-eq0-3 c).After-walk_on-stride) c.pass.ensures some);
      steps = rw c.put_back.ensures
          (λ φ ψ L g falls agrees ready. takes_some (went (goal.at.returns-then-w-eq0-3 c).After-walk_on-stride) φ ψ L g falls agrees ready c.pass.ensures none);
      keeps = copies (goal.at.returns-then-w-eq0-3 c).After-walk_on-stride;
    }

pub returns : goal.returns
returns c =
    record {
      ends = rw c.put_back.ensures (walked_onward (went (goal.at.returns c).After-walk_on-stride) c.pass.ensures);
      steps = rw c.put_back.ensures
          (λ φ ψ L g falls agrees ready.
          answers_some (went (goal.at.returns c).After-walk_on-stride) φ ψ L g falls agrees ready c.pass.ensures (omega arith));
      keeps = copies (goal.at.returns c).After-walk_on-stride;
    }
