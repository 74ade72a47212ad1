-- `operators::connective::step_or` meets its contract: the shorter buffer is taken whole. Assumes nothing.
use native.Mathlib.Nat.{pos_of_ne-zero}
use native.Mathlib.Omega.{arith}
use mathlib.Core.Path.{refl}
use Rattle.mtl.proofs.Closing.{settled_or}
use Rattle.window.specs.View.{total}
use Rattle.blocks.specs.Block.{taken, left_count, right_count}
use Rattle.blocks.proofs.Words.{fits}
use Rattle.blocks.proofs.Taking.{both_onward, Shared, shared}
use Rattle.operators.proofs.Simple.{or_batch}
use Rattle.operators.proofs.connective.step_or.Goals as goal
use Rattle.operators.proofs.connective.step_or.Goals.{Else-count-eq0}

-- some positions are taken: both operands have answered them, and they lie within the log
taking : (c : Else-count-eq0) →
    let a = c.args in
    let b = a.block.now in
    Shared (taken b) (left_count b) (right_count b) (total a.view.now) c.available-count.result
taking c = shared _ _ _ _ _ _ c.min-both.ensures c.available-count.ensures.0 c.if-count-eq0.false

pub returns-then-block-eq0 : goal.returns-then-block-eq0
returns-then-block-eq0 c = record { ends = (refl, refl, c.if-block-eq0.true); by_index = λ s φ ψ L g falls agrees ready. (refl, λ e. let core = ready.core in let w = ready.buffers.1.within in omega (arith, settled_or L φ ψ)) }

pub returns-then-block-eq0-2 : goal.returns-then-block-eq0-2
returns-then-block-eq0-2 c = record { ends = (refl, refl, c.if-block-eq0-2.true, λ e. pos_of_ne-zero c.if-block-eq0.false); by_index = λ s φ ψ L g falls agrees ready. (refl, λ e. let core = ready.core in let w = ready.buffers.0.within in omega (arith, settled_or L φ ψ)) }

pub returns-then-count-eq0 : goal.returns-then-count-eq0
returns-then-count-eq0 c = record {
  ends = refl;
  by_index = λ s φ ψ L g falls agrees ready.
      let size = agrees.size in
      let l = ready.buffers.0.packed.few in
      let r = ready.buffers.1.packed.few in
      absurd (omega (arith, fits ready.buffers.0, fits ready.buffers.1));
}

pub take_both-requires : goal.take_both-requires
take_both-requires c =
    let n = taking (goal.at.take_both-requires c).Else-count-eq0 in
    (c.requires, n.left, n.right, c.available-count.ensures.1)

pub returns : goal.returns
returns c =
    let b = c.args.block.now in
    let count = c.available-count.result in
    let n = taking (goal.at.returns c).Else-count-eq0 in record {
      ends = rw c.take_both.ensures (both_onward count b c.requires);
      by_index = λ s φ ψ L g falls agrees ready.
          rw c.take_both.ensures
          (or_batch c.args.view.now b c.requires count n.some L g φ ψ n.left n.right ready);
    }
