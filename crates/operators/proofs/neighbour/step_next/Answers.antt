-- `operators::neighbour::step_next` meets its contract: at the end of a closed log the last position is no; at position 0 one answer is
-- passed over; else a buffer is taken whole. Assumes nothing.
use Prim.Native.Nat.{ℕ, ◌+◌, ◌≤◌, ◌<◌}
use native.Mathlib.Nat.{pos_of_ne-zero}
use native.Mathlib.Omega.{arith}
use mathlib.Core.Bool.{Bool, true, false, ◌&&◌, true≢false}
use mathlib.Core.List.{[], ◌∷◌}
use mathlib.Core.Path.{◌≡◌, refl, sym, ◌∙◌}
use lib.Dec.{eqb}
use borrow.Author.Tests.{eqb-true, eq-eqb}
use Rattle.mtl.proofs.Bounded.{true_and_false}
use Rattle.mtl.proofs.Bounded.{and_iff}
use Rattle.window.specs.View.{total, closed}
use Rattle.blocks.specs.Block.{taken, right_count, answered}
use Rattle.blocks.proofs.Words.{put, stores_onward, available}
use Rattle.blocks.proofs.Taking.{right_onward, all_of}
use Rattle.operators.proofs.Simple.{answered_onward, not_open, right_less, next_pass, next_batch, next_none, next_end, next_right}
use Rattle.operators.proofs.neighbour.step_next.Goals as goal
use Rattle.operators.proofs.neighbour.step_next.Goals.{Else-count-eq0, Else-total-g, Then-view-at}

-- a position is left, and no later one is answered than is taken
left : (c : Else-total-g) →
    let a = c.args in
    let b = a.block.now in
    (answered b < total a.view.now) × (answered b ≤ taken b)
left c =
    let a = c.args in
    let b = a.block.now in
    not_open (total a.view.now) (answered b) (taken b) (answered b) c.if-total-g.false

-- some positions are taken: they are buffered and lie within the log
taking : (c : Else-count-eq0) →
    let a = c.args in
    let b = a.block.now in
    let n = c.available-count.result in
    (n ≤ right_count b) × (n ≤ 64) × (0 < n) × (taken b + n ≤ total a.view.now)
taking c =
    let a = available _ _ _ _ c.available-count.ensures.0 in
    let some = pos_of_ne-zero c.if-count-eq0.false in
    (a.most, a.few, some, a.inside some)

-- the test for the end of a closed log
at_end : (ended : Bool) (at size : ℕ) → ended && eqb at size ≡ true → (ended ≡ true) × (at ≡ size)
at_end ended at size e = let both = (and_iff ended (eqb at size)).0 e in (both.0, eqb-true at size both.1)

before_end : (ended : Bool) (at size : ℕ) → ended && eqb at size ≡ false → ended ≡ true → at ≡ size → ⊥
before_end ended at size e c same = true≢false (sym ((and_iff ended (eqb at size)).1 (c, eq-eqb at size same)) ∙ e)

-- the last position of a closed log
ending : (c : Then-view-at) →
    let a = c.args in
    (closed a.view.now ≡ true) × (taken a.block.now ≡ total a.view.now)
ending c =
    let a = c.args in
    at_end (closed a.view.now) (taken a.block.now) (total a.view.now) c.if-view-at.true

pub returns-then-total-g : goal.returns-then-total-g
returns-then-total-g c =
    let a = c.args in record { ends = refl; steps = λ φ L g falls agrees ready. next_none a.view.now a.block.now c.requires.0 a.low a.high φ L g agrees ready c.if-total-g.true; keeps = c.requires.1 }

pub overflow_add-block : goal.overflow_add-block
overflow_add-block c =
    let some = left (goal.at.overflow_add-block c).Else-total-g in
    let end = ending (goal.at.overflow_add-block c).Then-view-at in
    omega (arith, (goal.at.overflow_add-block c).Else-total-g.type_inv.block 0)

pub returns-then-view-at : goal.returns-then-view-at
returns-then-view-at c =
    let a = c.args in
    let b = a.block.now in
    let end = ending (goal.at.returns-then-view-at c).Then-view-at in record {
      ends = stores_onward (put 5 _ ∷ []) b (omega arith) (omega arith) (omega arith);
      steps = λ φ L g falls agrees ready.
          next_end a.view.now b c.requires.0 a.low a.high φ L g agrees ready (agrees.ends ∙ end.0) (left (goal.at.returns-then-view-at c).Else-total-g).0 end.1;
      keeps = c.requires.1;
    }

pub returns-then-block-eq0 : goal.returns-then-block-eq0
returns-then-block-eq0 c =
    let a = c.args in record {
      ends = (refl, refl, c.if-block-eq0.true, λ e. absurd (true_and_false e refl));
      steps = λ φ L g falls agrees ready. (
        refl,
        next_right a.view.now a.block.now c.requires.0 a.low a.high φ L g agrees ready
            (λ ended all. before_end _ _ _ c.if-view-at.false (sym agrees.ends ∙ ended) all),
      );
      keeps = c.requires.1;
    }

pub returns-then-count-eq0 : goal.returns-then-count-eq0
returns-then-count-eq0 c = record {
  ends = refl;
  steps = λ φ L g falls agrees ready.
      absurd (omega (arith, all_of agrees ready.buffers c.available-count.result c.available-count.ensures.0));
  keeps = c.requires.1;
}

pub returns-then-at-eq0 : goal.returns-then-at-eq0
returns-then-at-eq0 c =
    let a = c.args in
    let b = a.block.now in
    let n = taking (goal.at.returns-then-at-eq0 c).Else-count-eq0 in record {
      ends = rw c.take_right.ensures (right_less a.view.now b c.requires.0 1 (omega arith) (omega arith), right_onward 1 b c.requires.0);
      steps = λ φ L g falls agrees ready.
          rw c.take_right.ensures
          (next_pass a.view.now b c.requires.0 1 (omega arith) L g a.low a.high φ (omega arith) c.if-at-eq0.true refl ready);
      keeps = c.requires.1;
    }

pub take_near-bits-requires : goal.take_near-bits-requires
take_near-bits-requires c =
    let pre = c.requires in
    let n = taking (goal.at.take_near-bits-requires c).Else-count-eq0 in
    (pre.0, pre.1, pre.2, n.1, n.0, c.available-count.ensures.1)

pub overflow_add-block-2 : goal.overflow_add-block-2
overflow_add-block-2 c =
    let some = left (goal.at.overflow_add-block-2 c).Else-total-g in
    let fits = c.available-count.ensures.1 in
    omega arith

pub returns : goal.returns
returns c =
    let a = c.args in
    let b = a.block.now in
    let count = c.available-count.result in
    let took = c.take_near-bits.ensures.took_near in
    let n = taking (goal.at.returns c).Else-count-eq0 in record {
      ends = rw took.words (answered_onward count _ b c.requires.0 took.onward);
      steps = λ φ L g falls agrees ready.
          rw took.words
          (next_batch a.view.now b c.requires.0 count n.2 L g a.low a.high φ n.0 took agrees (pos_of_ne-zero c.if-at-eq0.false) n.3 ready);
      keeps = c.take_near-bits.ensures.keeps;
    }
