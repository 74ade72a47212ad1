-- `search::ask_all` meets its contract.
use mathlib.Core.Path.{refl, ◌∙◌}
use native.Mathlib.Omega.{arith}
use Rattle.engine.proofs.Rows.{repeated}
use Rattle.search.proofs.Asking.{going_none, going_end, going_open, going_some, going_on}
use Rattle.search.proofs.ask_all.Goals as goal

pub loop-done-init : goal.loop-done-init
loop-done-init c =
    let a = c.args in
    let p = c.requires in
    (refl, p.3, p.4, omega arith, omega arith, omega arith, going_none a.table.now a.view.now a.records.now a.k a.want a.from a.to c.fill.new.self (c.fill.auto.self ∙ p.2) (λ i. rw (c.fill.ensures.after (λ y e. e)) (repeated _ i 0)))

pub answer-reply-requires : goal.answer-reply-requires
answer-reply-requires c =
    let p = c.requires in
    let l = c.loop-done in
    (p.0, p.1, l.invariant.0 ∙ c.fill.auto.self ∙ p.2, l.invariant.1, l.invariant.2, p.5)

pub returns-in_default-clause-bounded : goal.returns-in_default-clause-bounded
returns-in_default-clause-bounded c =
    let a = c.args in
    let l = c.loop-done in
    let told = c.in_default.is in
    ((l.invariant.3, l.invariant.4, l.invariant.5), going_open a.table.now a.view.now a.records.now a.k a.want a.from a.to l.words l.done l.first l.after l.invariant.6 c.loop-done-test.true c.answer-reply.new.words (rw told at c.answer-reply.ensures.answers))

pub returns-then-n-eq0-clause-bounded : goal.returns-then-n-eq0-clause-bounded
returns-then-n-eq0-clause-bounded c =
    let a = c.args in
    let l = c.loop-done in
    ((l.invariant.3, l.invariant.4, l.invariant.5), going_some a.table.now a.view.now a.records.now a.k a.want a.from a.to l.words l.done l.first l.after l.invariant.6 c.loop-done-test.true c.in-Some.batch.bits c.in-Some.batch.count c.available-n.result c.answer-reply.new.words (rw c.in-Some.is at c.answer-reply.ensures.answers) c.available-n.ensures.0 c.if-n-eq0.true)

pub first_of-first-requires : goal.first_of-first-requires
first_of-first-requires c =
    let l = c.loop-done in
    (omega (arith, c.available-n.ensures.0), c.available-n.ensures.1, l.invariant.4)

pub after_no-after-requires : goal.after_no-after-requires
after_no-after-requires c =
    let l = c.loop-done in
    (omega (arith, c.available-n.ensures.0), c.available-n.ensures.1, l.invariant.5)

pub overflow_add-done : goal.overflow_add-done
overflow_add-done c = omega (arith, c.available-n.ensures.1)

pub loop-done-smaller : goal.loop-done-smaller
loop-done-smaller c = omega (arith, c.available-n.ensures.0, c.loop-done-test.true, c.if-n-eq0.false)

pub loop-done-preserved : goal.loop-done-preserved
loop-done-preserved c =
    let a = c.args in
    let l = c.loop-done in (
      c.answer-reply.auto.words ∙ l.invariant.0,
      c.answer-reply.ensures.keeps.0,
      c.answer-reply.ensures.keeps.1,
      omega (arith, c.available-n.ensures.0, l.invariant.3),
      c.first_of-first.ensures.0,
      c.after_no-after.ensures.0,
      going_on a.table.now a.view.now a.records.now a.k a.want a.from a.to l.words l.done l.first l.after l.invariant.6 c.loop-done-test.true c.in-Some.batch.bits c.in-Some.batch.count c.available-n.result c.answer-reply.new.words (rw c.in-Some.is at c.answer-reply.ensures.answers) c.available-n.ensures.0 c.first_of-first.result c.after_no-after.result c.first_of-first.ensures.1 c.after_no-after.ensures.1,
    )

pub returns-clause-bounded : goal.returns-clause-bounded
returns-clause-bounded c =
    let a = c.args in
    let l = c.loop-done in
    ((l.invariant.3, l.invariant.4, l.invariant.5), going_end a.table.now a.view.now a.records.now a.k a.want a.from a.to l.words l.done l.first l.after l.invariant.6 l.invariant.3 c.loop-done-test.false)
