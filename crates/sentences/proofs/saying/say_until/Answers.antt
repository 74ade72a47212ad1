-- `sentences::saying::say_until` meets its contract: the searches give what the until says.
use Prim.Native.Nat.{ℕ, ◌+◌}
use mathlib.Core.Bool.{cond}
use mathlib.Core.Path.{◌≡◌, refl, ◌∙◌, ap, ap₂}
use native.Mathlib.Omega.{arith}
use lib.Dec.{ltb}
use borrow.Author.Tests.{lt-ltb, le-ltb}
use Rattle.mtl.specs.Formula.{Formula}
use Rattle.search.specs.Times.{first_time}
use Rattle.blocks.specs.Kinds.{takes_left}
use Rattle.sentences.proofs.Shapes.{either_small}
use Rattle.sentences.proofs.Operands.{inside_here, fields_here, operands_of, until_formulas}
use Rattle.sentences.proofs.Searched.{until_told}
use Rattle.sentences.proofs.saying.say_until.Goals as goal
use Rattle.sentences.proofs.saying.say_until.Goals.{then-by_left, else-by_left}

pub search-left-requires : goal.search-left-requires
search-left-requires c =
    let lent = c.requires.0 in
    let row = lent.rows c.args.k (omega arith) in
    let (below, same) = row.left (ap takes_left c.requires.2) in
    let at = c.from-operand.ensures in
    let few = lent.entry in
    (omega arith, λ j h. lent.rows j (omega arith), lent.words_room, lent.copy_keeps, lent.waiting_keeps, lent.views)

pub search-right-requires : goal.search-right-requires
search-right-requires c =
    let lent = c.requires.0 in
    let few = lent.entry in
    let room = lent.words_room in
    let kept = c.search-left.auto.words in
    (omega arith, λ j h. lent.rows j (omega arith), omega arith, c.search-left.ensures.keeps.0, c.search-left.ensures.keeps.1, lent.views)

pub returns-clause-shape : goal.returns-clause-shape
returns-clause-shape c =
    let a = c.args in
    let lent = c.requires.0 in
    let few = c.requires.1 in
    let records = lent.few in
    let e = c.say_search.ensures in
    let stop_is : c.if-by_left.stop ≡ cond (ltb c.search-left.result.first c.search-left.result.done) c.search-left.result.first c.first_at-over.result =
    elim c.if-by_left.branch [ then-by_left w ↦ rw (lt-ltb c.search-left.result.first c.search-left.result.done w.if-by_left.true) w.stop-is | else-by_left w ↦ rw (le-ltb c.search-left.result.first c.search-left.result.done (omega (arith, w.if-by_left.false))) w.stop-is ] in (
      rw e (record {
        number = either_small (ltb c.search-right.result.first c.search-right.result.done) c.search-right.result.first c.if-by_left.stop
            (omega (arith, c.search-right.ensures.bounded.0.1, c.search-right.ensures.bounded.0.0, c.min.ensures, c.first_at-over.ensures.0))
            (rw stop_is (either_small (ltb c.search-left.result.first c.search-left.result.done) c.search-left.result.first c.first_at-over.result
            (omega (arith, c.search-left.ensures.bounded.0.1, c.search-left.ensures.bounded.0.0, c.first_at-over.ensures.0)) (omega (arith, c.first_at-over.ensures.0))));
        behind = tt;
      }),
      λ low high φ ψ L an.
          let whole = an.shown.whole in
          let inside = inside_here a.table.now a.view.now a.records.now L (Formula.until low high φ ψ) a.k a.i an in
          let fields = fields_here a.table.now a.view.now a.records.now L (Formula.until low high φ ψ) a.k a.i an in
          let now = c.time_of-now.ensures.1 L whole inside in
          let high_is : c.from-high.result ≡ high = c.from-high.ensures ∙ fields.high in
          let low_is : c.low_of-low.result ≡ low = c.low_of-low.ensures.0 ∙ fields.low in
          let over_is : c.first_at-over.result ≡ first_time L (L.time a.i + high + 1) =
          c.first_at-over.ensures.1 L whole ∙ ap (first_time L) (ap₂ (λ (x y : ℕ). x + y + 1) now high_is) in
          let soon_is : c.first_at-soon.result ≡ first_time L (L.time a.i + low) =
          c.first_at-soon.ensures.1 L whole ∙ ap (first_time L) (ap₂ (λ (x y : ℕ). x + y) now low_is) in
          let (left-answers-it, right-answers-it) = operands_of a.table.now a.view.now a.records.now L (Formula.until low high φ ψ) φ ψ a.k a.i an refl (until_formulas low high φ ψ an.entries a.k an.formula) in
          let lefts = c.search-left.ensures.bounded.1 φ L (rw c.from-operand.ensures left-answers-it.0) an.shown.falls an.shown.agrees (rw c.from-operand.ensures left-answers-it.1) in
          let rights = c.search-right.ensures.bounded.1 ψ L right-answers-it.0 an.shown.falls an.shown.agrees right-answers-it.1 in
          e ∙ until_told low high φ ψ a.table.now a.view.now a.records.now a.k a.i L an c.first_at-over.result c.first_at-soon.result c.if-by_left.stop c.max-from.result c.min.result
          c.search-left.result c.search-right.result over_is soon_is lefts stop_is c.max-from.ensures c.min.ensures rights,
    )
