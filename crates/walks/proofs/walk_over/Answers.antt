-- `walks::walk_over` meets its contract, by the laws of proofs/Over. Assumes nothing.
use native.Mathlib.Omega.{arith}
use mathlib.Core.Path.{refl}
use lib.Dec.{leb, ltb}
use borrow.Author.Tests.{leb-true, ltb-true}
use Rattle.mtl.proofs.Bounded.{and_iff}
use Rattle.trace.specs.Format.{time_at}
use Rattle.walks.proofs.Over.{Ahead, over_walk, still_before, passed, stopped}
use Rattle.walks.proofs.walk_over.Goals as goal
use Rattle.walks.proofs.walk_over.Goals.{After-count_met-took}

ahead : (m : After-count_met-took) →
    let z = m in
    let a = m.args in
    Ahead a.high (time_at a.starts.now) (time_at a.ahead.now) a.lead a.n a.left a.right z.min-most.result
    z.find_first_zero-event.result
    m.count_met-took.result
ahead m =
    let l = m in
    let t = l in
    let z = t in
    let b = m in
    let a = b.args in
    record {
      waiting = b.requires.1;
      may = z.min-most.ensures;
      before = still_before a.left a.right a.n b.requires.3 (omega arith) z.find_first_zero-event.ensures;
      taken = rw (t.time.ensures.0, l.min.ensures) at m.count_met-took.ensures;
    }

pub returns-then-took-eq0 : goal.returns-then-took-eq0
returns-then-took-eq0 c after =
    over_walk after c.requires.1 (c.requires.6, c.requires.7) (passed (ahead (goal.at.returns-then-took-eq0 c).After-count_met-took) (omega arith) (omega arith)) (omega arith) c.args.from (λ z. refl) (λ t. absurd (omega arith))

pub returns-then-took-event : goal.returns-then-took-event
returns-then-took-event c after =
    let took = c.count_met-took.result in
    let event = c.find_first_zero-event.result in
    let (h, l) = (and_iff (leb took event) (ltb took c.args.n)).0 c.if-took-event.true in
    over_walk after c.requires.1 (c.requires.6, c.requires.7) (passed (ahead (goal.at.returns-then-took-event c).After-count_met-took) (leb-true took event h) (ltb-true took c.args.n l)) (omega arith) c.take-last.result
    (λ z. absurd (omega arith))
    (λ t. c.take-last.ensures)

pub returns : goal.returns
returns c after =
    over_walk after c.requires.1 (c.requires.6, c.requires.7) (stopped (ahead (goal.at.returns c).After-count_met-took) (omega arith) (rw c.take-last.ensures.0 at c.count_met.ensures)) (omega arith) c.take-last.result
    (λ z. absurd (omega arith))
    (λ t. c.take-last.ensures)
