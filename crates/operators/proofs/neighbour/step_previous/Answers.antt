-- `operators::neighbour::step_previous` meets its contract: position 0 is answered at once, and then a buffer is taken as far as the log
-- goes. Assumes nothing.
use Prim.Native.Nat.{ℕ, ◌+◌, ◌-◌, ◌≤◌, ◌<◌, min}
use native.Mathlib.Nat.{pos_of_ne-zero}
use native.Mathlib.Omega.{arith}
use mathlib.Core.Bool.{false, ◌||◌}
use mathlib.Core.List.{[], ◌∷◌}
use mathlib.Core.Path.{◌≡◌, refl}
use lib.Dec.{leb, ltb}
use Rattle.mtl.proofs.Bounded.{true_and_false}
use Rattle.mtl.proofs.Closing.{settled_previous}
use Rattle.window.specs.View.{total}
use Rattle.blocks.specs.Block.{taken, right_count, answered}
use Rattle.blocks.proofs.Words.{put, stores_onward}
use Rattle.operators.proofs.Simple.{answered_onward, not_open, previous_open, previous_first, previous_batch}
use Rattle.operators.proofs.neighbour.step_previous.Goals as goal
use Rattle.operators.proofs.neighbour.step_previous.Goals.{After-available-count}

-- what is taken where some positions are buffered
some_taken : (at g total count n : ℕ) → leb total g || ltb g at ≡ false → (count ≡ 0 → ⊥) → n ≡ min (min count (total - g)) 64 →
    (at ≤ g) × (0 < n) × (n ≤ count) × (n ≤ 64) × (g + n ≤ total)
some_taken at g total count n e some is = omega (arith, not_open total g g at e, pos_of_ne-zero some)

-- some positions are answered, not the first: their operand's answers are buffered, and they lie within the log
taking : (c : After-available-count) →
    let a = c.args in
    let b = a.block.now in
    let n = c.available-count.result in
    (0 < answered b) × ((taken b ≤ answered b) × (0 < n) × (n ≤ right_count b) × (n ≤ 64) × (answered b + n ≤ total a.view.now))
taking c =
    let a = c.args in
    let b = a.block.now in (
      pos_of_ne-zero c.if-g-eq0.false,
      some_taken (taken b) (answered b) (total a.view.now) (right_count b) c.available-count.result c.if-total-g.false c.if-block-eq0.false
          c.available-count.ensures.0,
    )

pub returns-then-total-g : goal.returns-then-total-g
returns-then-total-g c =
    let a = c.args in record { ends = refl; steps = λ φ L g falls agrees ready. previous_open a.view.now a.block.now a.low a.high φ L g agrees ready c.if-total-g.true; keeps = c.requires.1 }

pub returns-then-g-eq0 : goal.returns-then-g-eq0
returns-then-g-eq0 c =
    let a = c.args in
    let b = a.block.now in
    let left = not_open (total a.view.now) (answered b) (answered b) (taken b) c.if-total-g.false in record {
      ends = stores_onward (put 5 1 ∷ []) b (omega arith) (omega arith) (omega arith);
      steps = λ φ L g falls agrees ready.
          previous_first a.view.now b c.requires.0 (omega arith) c.if-g-eq0.true a.low a.high φ L g agrees ready;
      keeps = c.requires.1;
    }

pub returns-then-block-eq0 : goal.returns-then-block-eq0
returns-then-block-eq0 c =
    let a = c.args in
    let past = pos_of_ne-zero c.if-g-eq0.false in record {
      ends = (refl, refl, c.if-block-eq0.true, λ e. absurd (true_and_false e refl));
      steps = λ φ L g falls agrees ready. (
        refl,
        λ e. let reached = ready.core.reached in let own = ready.core.own in omega (arith, settled_previous L a.low a.high φ),
      );
      keeps = c.requires.1;
    }

pub take_near-bits-requires : goal.take_near-bits-requires
take_near-bits-requires c =
    let pre = c.requires in
    let (past, (behind, some, most, few, inside)) = taking (goal.at.take_near-bits-requires c).After-available-count in
    let fits = c.available-count.ensures.1 in
    (pre.0, pre.1, pre.2, few, most, omega arith)

pub overflow_add-block : goal.overflow_add-block
overflow_add-block c = omega (arith, c.available-count.ensures.1)

pub returns : goal.returns
returns c =
    let a = c.args in
    let b = a.block.now in
    let n = c.available-count.result in
    let took = c.take_near-bits.ensures.took_near in
    let (past, (behind, some, most, few, inside)) = taking (goal.at.returns c).After-available-count in record {
      ends = rw took.words (answered_onward n _ b c.requires.0 took.onward);
      steps = λ φ L g falls agrees ready.
          rw took.words (previous_batch a.view.now b c.requires.0 n some L g a.low a.high φ most took agrees past inside ready);
      keeps = c.take_near-bits.ensures.keeps;
    }
