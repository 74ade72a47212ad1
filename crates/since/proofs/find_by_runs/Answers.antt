-- `since::find_by_runs` meets its contract: from `end` on the word says which positions are old enough, and the one before `end` has no mark.
use Prim.Native.Nat.{◌-◌, ◌^◌}
use native.Mathlib.Omega.{arith}
use mathlib.Core.Bool.{true}
use mathlib.Core.Bool.{not as negate}
use mathlib.Core.Path.{◌≡◌, ap, ◌∙◌}
use Rattle.bits.specs.Packed.{bit}
use Rattle.bits.proofs.Laws.{bit_not}
use Rattle.bits.proofs.Zeros.{last_is_zero, zero_before}
use Rattle.trace.specs.Format.{time_at}
use Rattle.since.proofs.Runs.{settled_none, settled_more, settled_all}
use Rattle.since.proofs.find_by_runs.Goals as goal

pub loop-end-init : goal.loop-end-init
loop-end-init c =
    let a = c.args in
    let e = c.find_last_zero-end.ensures.0 in (
      c.find_last_zero-end.ensures.1,
      rw e (last_is_zero a.n a.marks),
      λ rises. rw e (settled_none a.low (time_at a.window.now) a.marks a.first a.n c.requires.0),
    )

pub loop-end-smaller : goal.loop-end-smaller
loop-end-smaller c =
    let l = c.loop-end in
    let a = c.args in
    let some = c.loop-end-test.true in
    let open' : bit (2 ^ 64 - 1 - a.marks) (l.end - 1) ≡ true =
    bit_not 64 a.marks (l.end - 1) (omega arith) (omega arith) ∙ ap negate (l.invariant.1 some) in
    let less = zero_before l.end (2 ^ 64 - 1 - a.marks) some open' in
    let e = c.find_last_zero-from.ensures.0 in
    let m = c.find_last_zero-end-in-loop-end.ensures.1 in
    omega arith

pub loop-end-preserved : goal.loop-end-preserved
loop-end-preserved c =
    let l = c.loop-end in
    let a = c.args in
    let e = c.find_last_zero-end-in-loop-end.ensures.0 in
    let m = c.find_last_zero-end-in-loop-end.ensures.1 in
    let k = c.find_last_zero-from.ensures.1 in (
      omega arith,
      rw e (last_is_zero c.find_last_zero-from.result a.marks),
      λ rises.
          rw e
          (settled_more a.low (time_at a.window.now) a.marks a.first a.n c.requires.0 rises c.requires.2 (omega arith) l.invariant.0 (l.invariant.2 rises)
          c.ones_between-answers.result
          c.find_last_zero-from.ensures.0
          c.newest_marked-last.ensures.0
          c.find_old-old.ensures
          c.ones_between-answers.ensures),
    )

pub returns : goal.returns
returns c rises =
    let l = c.loop-end in
    let a = c.args in
    settled_all a.low (time_at a.window.now) a.marks a.first a.n c.requires.2 (omega arith) (l.invariant.2 rises)
