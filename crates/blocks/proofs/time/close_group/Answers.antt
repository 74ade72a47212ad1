-- `blocks::time::close_group` meets its contract. The loop's invariant: all positions but the first i are answered, one bit each.
-- Assumes nothing.
use native.Mathlib.Omega.{arith}
use Rattle.bits.proofs.Laws.{downward_none, downward_bound, downward_more, downward_all}
use Rattle.trace.specs.Format.{time_at}
use Rattle.blocks.specs.Near.{close_after}
use Rattle.blocks.proofs.time.close_group.Goals as goal

pub loop-i-init : goal.loop-i-init
loop-i-init c = let a = c.args in downward_none (close_after a.far (time_at a.window.now)) a.from a.n

pub overflow_mul-answers : goal.overflow_mul-answers
overflow_mul-answers c =
    let a = c.args in
    let l = c.loop-i in
    record { fits = omega (arith, downward_bound (close_after a.far (time_at a.window.now)) a.from a.n l.i l.answers 8 (omega arith) l.invariant) }

pub overflow_add-answers : goal.overflow_add-answers
overflow_add-answers c =
    let a = c.args in
    let l = c.loop-i in
    record { fits = omega (arith, downward_bound (close_after a.far (time_at a.window.now)) a.from a.n l.i l.answers 8 (omega arith) l.invariant) }

pub loop-i-preserved : goal.loop-i-preserved
loop-i-preserved c =
    let a = c.args in
    let l = c.loop-i in
    downward_more (close_after a.far (time_at a.window.now)) a.from a.n l.i l.answers c.close_bit.result (omega arith) (omega arith)
    (rw (c.time-earlier.ensures.0, c.time-later.ensures.0) at c.close_bit.ensures.0) l.invariant

pub returns : goal.returns
returns c =
    let a = c.args in
    let l = c.loop-i in
    downward_all (close_after a.far (time_at a.window.now)) a.from a.n l.i l.answers (omega arith) l.invariant
