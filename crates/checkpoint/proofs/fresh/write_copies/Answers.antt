-- `fresh::write_copies` meets its contract. The loop's invariant: a walk over the blocks, and the copies of those passed are written.
use Prim.Native.Nat.{◌+◌, ◌≤◌}
use native.Mathlib.Omega.{arith}
use mathlib.Core.Path.{◌≡◌, refl, sym, ap, ◌∙◌}
use Rattle.rule.specs.Words.{header_words}
use lib.ListN.{length, length-set}
use Rattle.checkpoint.specs.Fresh.{copies}
use Rattle.checkpoint.proofs.Offsets.{walk_start, walk_room, walk_on, walk_ends}
use Rattle.checkpoint.proofs.Copies.{copies_more, copies_length}
use Rattle.checkpoint.proofs.fresh.write_copies.Goals as goal
use Rattle.checkpoint.proofs.fresh.write_copies.Goals.{At-loop-k, In-loop-k}

-- the block of the entry at hand lies within the words
room : (c : In-loop-k) → c.loop-k.at + 16 ≤ length c.args.words.now
room c = omega (arith, walk_room c.loop-k.invariant.0 (omega arith))

-- the words keep their number
kept : (c : At-loop-k) → length c.loop-k.words ≡ length c.args.words.now
kept c = let a = c.args in ap length c.loop-k.invariant.1 ∙ copies_length (header_words a.rule.now.version) a.rule.now.entries a.words.now c.loop-k.k

pub loop-k-init : goal.loop-k-init
unfolding copies
loop-k-init c = rw c.header_words-at.ensures (walk_start _ _ _, refl)

pub overflow_add-words : goal.overflow_add-words
overflow_add-words c = omega (arith, room (goal.at.overflow_add-words c).In-loop-k)

pub offset_bounds-words-at : goal.offset_bounds-words-at
offset_bounds-words-at c = omega (arith, room (goal.at.offset_bounds-words-at c).In-loop-k)

pub bounds-words-at : goal.bounds-words-at
bounds-words-at c = omega (arith, room (goal.at.bounds-words-at c).In-loop-k, kept (goal.at.bounds-words-at c).At-loop-k)

pub overflow_add-words-in-loop-k : goal.overflow_add-words-in-loop-k
overflow_add-words-in-loop-k c = omega (arith, room (goal.at.overflow_add-words-in-loop-k c).In-loop-k)

pub offset_bounds-words-at-in-loop-k : goal.offset_bounds-words-at-in-loop-k
offset_bounds-words-at-in-loop-k c = omega (arith, room (goal.at.offset_bounds-words-at-in-loop-k c).In-loop-k)

pub bounds-words-at-in-loop-k : goal.bounds-words-at-in-loop-k
bounds-words-at-in-loop-k c = simp length-set (omega (arith, room (goal.at.bounds-words-at-in-loop-k c).In-loop-k, kept (goal.at.bounds-words-at-in-loop-k c).At-loop-k))

pub overflow_add-at : goal.overflow_add-at
overflow_add-at c =
    let i = c.loop-k in
    omega (arith, (walk_on i.invariant.0 (omega arith) _ c.own_words.ensures.0).1)

pub loop-k-preserved : goal.loop-k-preserved
loop-k-preserved c =
    let i = c.loop-k in
    let a = c.args in (
      (walk_on i.invariant.0 (omega arith) _ c.own_words.ensures.0).0,
      simp (i.invariant.1, i.invariant.0.begins, c.head_of.ensures, c.ends_of.ensures) (sym (copies_more (header_words a.rule.now.version) a.rule.now.entries a.words.now i.k)),
    )

pub shape_of-words : goal.shape_of-words
shape_of-words c = kept (goal.at.shape_of-words c).At-loop-k

pub returns : goal.returns
returns c = let i = c.loop-k in rw (walk_ends i.invariant.0 (omega arith)) at i.invariant.1
