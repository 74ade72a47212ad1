-- `check::block_faults` meets its contract. The loop's invariant: a walk over the blocks, and both answers are those for the blocks passed.
use Prim.Native.Nat.{◌+◌, ◌≤◌}
use native.Mathlib.Omega.{arith}
use mathlib.Core.Path.{refl, sym}
use Rattle.rule.specs.Words.{header_words}
use lib.ListN.{length}
use Rattle.mtl.specs.Satisfaction.{any}
use Rattle.checkpoint.specs.Checkpoint.{copy_differs, block_outside}
use Rattle.checkpoint.proofs.Offsets.{walk_start, walk_room, walk_on, walk_ends, any_more}
use Rattle.checkpoint.proofs.words.block_faults.Goals as goal
use Rattle.checkpoint.proofs.words.block_faults.Goals.{In-loop-k}

-- the block of the entry at hand lies within the words
room : (c : In-loop-k) → c.loop-k.at + 16 ≤ length c.args.point.now
room c = omega (arith, walk_room c.loop-k.invariant.0 (omega arith))

pub loop-k-init : goal.loop-k-init
unfolding any
loop-k-init c = rw c.header_words-at.ensures (walk_start _ _ _, refl, refl, refl, refl)

pub copy_differs-copies-requires : goal.copy_differs-copies-requires
copy_differs-copies-requires c = room (goal.at.copy_differs-copies-requires c).In-loop-k

pub block_fits-requires : goal.block_fits-requires
block_fits-requires c = room (goal.at.block_fits-requires c).In-loop-k

-- and so do the words behind it that are its own
pub waiting_fits-requires : goal.waiting_fits-requires
waiting_fits-requires c = omega (arith, (walk_on c.loop-k.invariant.0 (omega arith) _ refl).1)

pub overflow_add-at : goal.overflow_add-at
overflow_add-at c =
    let i = c.loop-k in
    omega (arith, (walk_on i.invariant.0 (omega arith) _ c.own_words.ensures.0).1)

pub loop-k-preserved : goal.loop-k-preserved
loop-k-preserved c =
    let i = c.loop-k in
    let a = c.args in (
      (walk_on i.invariant.0 (omega arith) _ c.own_words.ensures.0).0,
      refl,
      refl,
      simp (i.invariant.3, c.copy_differs-copies.ensures, i.invariant.0.begins) (sym (any_more i.k (copy_differs (header_words a.rule.now.version) a.rule.now.entries a.point.now))),
      simp (i.invariant.4, c.waiting_fits.ensures, c.block_fits.ensures, i.invariant.0.begins, c.cells.ensures) (sym (any_more i.k (block_outside (header_words a.rule.now.version) a.rule.now.entries a.point.now))),
    )

pub returns : goal.returns
returns c =
    let i = c.loop-k in
    let e = walk_ends i.invariant.0 (omega arith) in
    record { copies = rw e at i.invariant.3; ranges = rw e at i.invariant.4 }
