-- `give_all` meets its contract.
use mathlib.Core.Path.{refl}
use native.Mathlib.Omega.{arith}
use Rattle.emit.proofs.Turns.{underway_none, fitting, ended, copyable, writable, fewer, countable, takes_out, turned}
use Rattle.emit.proofs.give_all.Goals as goal

pub loop-answers-init : goal.loop-answers-init
loop-answers-init c =
    let a = c.args in
    (refl, underway_none a.table.now a.tops.now a.most a.view.now a.records.now a.words.now a.sheet.now, c.requires.1, c.requires.2)

pub hold-least-requires : goal.hold-least-requires
hold-least-requires c =
    let p = c.requires in
    let l = c.loop-answers in
    (fitting p.0 l.invariant.1, l.invariant.2, l.invariant.3, p.3)

pub returns-then-count-eq0 : goal.returns-then-count-eq0
returns-then-count-eq0 c =
    let l = c.loop-answers in
    ended c.requires.0 l.invariant.1 c.hold-least.ensures.holds_all (λ some. omega (arith, c.available-count.ensures.0, l.invariant.1.sheet_length))

pub copy_answers-requires : goal.copy_answers-requires
copy_answers-requires c =
    let l = c.loop-answers in
    let (few, inside) = copyable c.requires.0 l.invariant.1 c.hold-least.ensures.holds_all in
    (few, l.invariant.0, inside)

pub write_answers-requires : goal.write_answers-requires
write_answers-requires c =
    let p = c.requires.0 in
    let l = c.loop-answers in
    let (room, word) = writable p l.invariant.1 c.hold-least.ensures.holds_all c.available-count.result c.available-count.ensures.0 (omega arith) in
    (room, word, omega (arith, c.columns_of-columns.ensures, p.formulas, p.small.1))

pub take_verdicts-requires : goal.take_verdicts-requires
take_verdicts-requires c =
    takes_out c.requires.0 c.loop-answers.invariant.1 c.hold-least.ensures.holds_all c.available-count.result c.available-count.ensures.0 (omega arith)

pub overflow_add-done : goal.overflow_add-done
overflow_add-done c =
    record { fits = countable c.requires.0 c.loop-answers.invariant.1 c.hold-least.ensures.holds_all c.available-count.result c.available-count.ensures.0 (omega arith) }

pub loop-answers-smaller : goal.loop-answers-smaller
loop-answers-smaller c =
    fewer c.requires.0 c.loop-answers.invariant.1 c.hold-least.ensures.holds_all c.available-count.result c.available-count.ensures.0 (omega arith) (omega arith)

pub loop-answers-preserved : goal.loop-answers-preserved
loop-answers-preserved c =
    let h = c.hold-least in
    let a = c.copy_answers in (
      a.ensures.long,
      turned c.requires.0 c.loop-answers.invariant.1 h.ensures.holds_all c.available-count.result c.available-count.ensures.0 (omega arith)
          a.new.answers c.columns_of-columns.result c.columns_of-columns.ensures a.ensures _ _ c.take_verdicts.ensures c.write_answers.ensures,
      h.ensures.keeps.0,
      h.ensures.keeps.1,
    )
