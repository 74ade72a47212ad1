-- `operators::connective::step_not` meets its contract: a buffer is taken whole. Assumes nothing.
use Rattle.std.proofs.Common.{◌<◌, ◌^◌, get_or}
use native.Mathlib.Omega.{arith}
use mathlib.Core.Path.{refl, ◌∙◌}
use Rattle.mtl.proofs.Bounded.{true_and_false}
use Rattle.mtl.proofs.Closing.{settled_not}
use Rattle.operators.proofs.Simple.{not_batch}
use Rattle.blocks.proofs.Taking.{right_onward, all_of}
use Rattle.operators.proofs.connective.step_not.Goals as goal
use Rattle.operators.proofs.connective.step_not.Goals.{Else-count-eq0}

-- the word of right answers is a word
bounded : (d : Else-count-eq0) → get_or d.args.block.now 4 0 < 2 ^ 64
bounded d = (d.type_inv.block 4).fits

pub returns-then-block-eq0 : goal.returns-then-block-eq0
returns-then-block-eq0 c = record { ends = (refl, refl, c.if-block-eq0.true, λ e. absurd (true_and_false e refl)); by_index = λ s φ L g falls agrees ready. (refl, λ e. settled_not L φ ∙ e ∙ ready.core.own) }

pub returns-then-count-eq0 : goal.returns-then-count-eq0
returns-then-count-eq0 c = record { ends = refl; by_index = λ s φ L g falls agrees ready. absurd (omega (arith, all_of agrees ready.buffers c.available-count.result c.available-count.ensures.0)) }

pub returns : goal.returns
returns c =
    let b = c.args.block.now in
    let n = c.available-count.result in record {
      ends = rw c.take_right.ensures (right_onward n b c.requires);
      by_index = λ s φ L g falls agrees ready.
          rw c.take_right.ensures
          (not_batch c.args.view.now b c.requires n (omega arith) L g φ (omega arith) (bounded (goal.at.returns c).Else-count-eq0) ready);
    }
