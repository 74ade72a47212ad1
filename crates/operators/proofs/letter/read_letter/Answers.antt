-- `operators::letter::read_letter` meets its contract. Assumes nothing.
use Rattle.std.proofs.Common.{◌<◌, ◌^◌, get_or}
use Prim.Native.Nat.{◌+◌}
use native.Mathlib.Omega.{arith}
use mathlib.Core.Path.{refl}
use lib.ListN.{length-set}
use Rattle.mtl.proofs.Closing.{settled_letter}
use Rattle.window.specs.View.{slice_first}
use Rattle.blocks.proofs.Words.{available}
use Rattle.operators.proofs.Simple.{read_onward, letter_batch}
use Rattle.operators.proofs.letter.read_letter.Goals as goal
use Rattle.operators.proofs.letter.read_letter.Goals.{Else-count-eq0}

-- the head is a word
word_head : (d : Else-count-eq0) → get_or d.args.block.now 11 0 < 2 ^ 64
word_head d = (d.type_inv.block 11).fits

pub returns-then-count-eq0 : goal.returns-then-count-eq0
returns-then-count-eq0 c =
    record { some = tt; ends = refl; steps = λ L g falls agrees ready. let core = ready.core in let size = agrees.size in omega (arith, settled_letter L c.args.letter); keeps = c.requires.3 }

pub read_letters-read-requires : goal.read_letters-read-requires
read_letters-read-requires c =
    let few = (available _ _ _ _ c.available-count.ensures.0).few in
    (omega arith, few, c.requires.0, c.requires.2, c.requires.3)

pub overflow_add-block-2 : goal.overflow_add-block-2
overflow_add-block-2 c =
    let few = c.requires.2.numbered in
    let bounded = c.read_letters-read.ensures.lettered.bounded in
    omega (arith, word_head (goal.at.overflow_add-block-2 c).Else-count-eq0)

pub bounds-block-11-2 : goal.bounds-block-11-2
bounds-block-11-2 c = simp length-set (omega arith)

pub returns : goal.returns
returns c =
    let v = c.args.view.now in
    let b = c.args.block.now in
    let n = c.available-count in
    let left = available _ _ _ _ n.ensures.0 in
    let lettered = c.read_letters-read.ensures.lettered in
    let onward = lettered.onward in record {
      some = omega arith;
      ends = read_onward n.result (slice_first v + c.read_letters-read.result.end) b c.requires.1 (omega arith);
      steps = λ L g falls agrees ready.
          letter_batch v b c.requires.1 n.result (omega arith) L g agrees c.args.letter (left.inside (omega arith)) lettered ready;
      keeps = c.read_letters-read.ensures.keeps;
    }
