-- `hold` meets its contract. The invariant: the first k formulas were asked, and `least` is what each of them holds at least.
use mathlib.Core.Path.{refl, ◌∙◌}
use native.Mathlib.Omega.{arith}
use Rattle.held.proofs.Holding.{asked_none, one_more, all_asked, none_settled}
use Rattle.held.proofs.hold.Goals as goal

pub returns-then-least-eq0-clause-holds_all : goal.returns-then-least-eq0-clause-holds_all
returns-then-least-eq0-clause-holds_all c base fs fits =
    let a = c.args in none_settled (asked_none base fs a.view.now a.records.now a.words.now 0 (omega (arith, c.not_given-least.ensures))) (omega arith)

pub loop-k-init : goal.loop-k-init
loop-k-init c =
    let a = c.args in
    (refl, c.requires.1, c.requires.2, λ base fs fits. asked_none base fs a.view.now a.records.now a.words.now _ c.not_given-least.ensures)

pub loop-k-preserved : goal.loop-k-preserved
loop-k-preserved c =
    let l = c.loop-k in
    let h = c.hold_one-count in (
      h.auto.words ∙ l.invariant.0,
      h.ensures.keeps.0,
      h.ensures.keeps.1,
      λ base fs fits.
          rw c.min-least.ensures
          (one_more fits.header (l.invariant.3 base fs fits) h.result h.new.words (omega (arith, fits.laid.number))
          (h.ensures.holds_one base fs (rw l.invariant.0 fits) (omega (arith, fits.laid.number)))),
    )

pub returns-clause-holds_all : goal.returns-clause-holds_all
returns-clause-holds_all c base fs fits =
    let l = c.loop-k in
    all_asked (l.invariant.3 base fs fits) (omega (arith, fits.laid.number))
