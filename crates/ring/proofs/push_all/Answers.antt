-- `ring::push_all` meets its contract: the loop has the number of the times and the newest beside the block.
use Prim.Native.Nat.{ℕ, ◌+◌, ◌-◌, ◌≤◌, ◌<◌, ◌^◌}
use native.Mathlib.Omega.{arith}
use mathlib.Core.Bool.{Bool, true, false}
use mathlib.Core.Bool.{not as negate}
use mathlib.Core.Logic.{}
use mathlib.Core.Path.{◌≡◌, refl, sym, ◌∙◌}
use lib.Dec.{ltb}
use lib.ListN.{length-set}
use borrow.Author.Tests.{ltb-true}
use Rattle.mtl.proofs.Bounded.{and_iff}
use Rattle.bits.specs.Packed.{bit}
use Rattle.bits.proofs.Laws.{bit_not}
use Rattle.bits.proofs.Zeros.{one_behind_last}
use Rattle.trace.specs.Format.{time_at}
use Rattle.ring.proofs.Cells.{pushing_none, pushing_skip, pushing_next, pushing_rest, pushing_done}
use Rattle.ring.proofs.push_all.Goals as goal
use Rattle.ring.proofs.push_all.Goals.{then-test-count, else-test-count}

turned : (x : Bool) → negate x ≡ true → x ≡ false
turned true e = sym e
turned false e = refl

pub loop-i-init : goal.loop-i-init
loop-i-init c =
    let a = c.args in (
      omega arith,
      omega arith,
      omega arith,
      refl,
      pushing_none a.cells (time_at a.window.now) a.right a.from a.block.now c.min-start.result c.min-count.result c.unwrap_or-newest.result
          (λ h. omega arith)
          (λ h. omega arith)
          (λ qs r. c.unwrap_or-newest.ensures ∙ c.newest.ensures.value 4294967296 qs r),
    )

pub add-count-requires : goal.add-count-requires
add-count-requires c =
    let l = c.loop-i in
    let a = c.args in
    let free = ltb-true l.count a.cells ((and_iff c.test.result (ltb l.count a.cells)).0 c.if-test-count.true).1 in
    omega arith

pub loop-i-preserved : goal.loop-i-preserved
loop-i-preserved c =
    let l = c.loop-i in
    let a = c.args in
    let at = time_at a.window.now in
    elim c.if-test-count.branch [
      | then-test-count w ↦
          let (yes', free) = (and_iff c.test.result (ltb l.count a.cells)).0 w.if-test-count.true in
          let added = w.add-count in (
            omega arith,
            omega arith,
            rw w.count-is added.ensures.1,
            rw w.block-is (added.auto.block ∙ l.invariant.3),
            rw (w.block-is, w.count-is, w.newest-is, added.ensures.0, added.ensures.2, w.time-now.ensures.0)
                (pushing_next a.cells at a.right a.from a.block.now c.min-start.result l.i l.block l.count l.newest
                l.invariant.0
                l.invariant.4
                (omega arith)
                (ltb-true l.count a.cells free)
                (omega arith)
                (rw w.time-now.ensures.0 at w.time-now.ensures.1)
                (sym c.test.ensures ∙ yes')),
          )
      | else-test-count w ↦ (
        omega arith,
        omega arith,
        rw w.count-is l.invariant.2,
        rw w.block-is l.invariant.3,
        rw (w.block-is, w.count-is, w.newest-is)
            (pushing_skip a.cells at a.right a.from a.block.now c.min-start.result l.i l.block l.count l.newest
            l.invariant.0
            l.invariant.4
            (rw c.test.ensures at w.if-test-count.false)),
      )
    ]

pub shape_of-block : goal.shape_of-block
shape_of-block c = length-set c.loop-i.block 10 c.loop-i.count ∙ c.loop-i.invariant.3

pub returns : goal.returns
returns c =
    let l = c.loop-i in
    let a = c.args in
    let e : l.i + (a.n - l.i) ≡ a.n = omega arith in
    let none : (j : ℕ) → l.i ≤ j → j < l.i + (a.n - l.i) → bit a.right j ≡ false =
    λ j b h. turned (bit a.right j) (sym (bit_not 64 a.right j (omega arith) (omega arith)) ∙ one_behind_last a.n (2 ^ 64 - 1 - a.right) j (let f = c.find_last_zero-end.ensures.0 in omega arith) (omega arith)) in
    pushing_done a.cells (time_at a.window.now) a.right a.from a.block.now c.min-start.result a.n l.block l.count l.newest
    (λ h. omega arith)
    (omega arith)
    (rw e at (pushing_rest a.cells (time_at a.window.now) a.right a.from a.block.now c.min-start.result l.i (a.n - l.i) l.block l.count l.newest l.invariant.0 none l.invariant.4))
