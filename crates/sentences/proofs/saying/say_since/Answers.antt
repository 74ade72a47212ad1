-- `sentences::saying::say_since` meets its contract: the searches give what the since says.
use Prim.Native.Nat.{ℕ, ◌+◌, ◌-◌}
use mathlib.Core.Bool.{cond}
use mathlib.Core.Path.{◌≡◌, refl, ◌∙◌, ap, ap₂}
use native.Mathlib.Omega.{arith}
use lib.Dec.{ltb}
use borrow.Author.Tests.{lt-ltb, le-ltb}
use Rattle.mtl.specs.Formula.{Formula}
use Rattle.search.specs.Times.{first_time}
use Rattle.blocks.specs.Kinds.{takes_left}
use Rattle.sentences.proofs.Shapes.{either_small}
use Rattle.sentences.proofs.Operands.{inside_here, has_here, fields_here, operands_of, since_formulas}
use Rattle.sentences.proofs.Searched.{since_told}
use Rattle.sentences.proofs.saying.say_since.Goals as goal
use Rattle.sentences.proofs.saying.say_since.Goals.{then-by_left, else-by_left}

pub search-left-requires : goal.search-left-requires
search-left-requires c =
    let lent = c.requires.0 in
    let row = lent.rows c.args.k (omega arith) in
    let (below, same) = row.left (ap takes_left c.requires.2) in
    let at = c.from-operand.ensures in
    let few = lent.entry in
    (omega arith, λ j h. lent.rows j (omega arith), lent.words_room, lent.copy_keeps, lent.waiting_keeps, lent.views)

pub search-right-requires : goal.search-right-requires
search-right-requires c =
    let lent = c.requires.0 in
    let few = lent.entry in
    let room = lent.words_room in
    let kept = c.search-left.auto.words in
    (omega arith, λ j h. lent.rows j (omega arith), omega arith, c.search-left.ensures.keeps.0, c.search-left.ensures.keeps.1, lent.views)

pub returns-clause-shape : goal.returns-clause-shape
returns-clause-shape c =
    let a = c.args in
    let lent = c.requires.0 in
    let few = c.requires.1 in
    let records = lent.few in
    let e = c.say_search.ensures in
    let from_is : c.if-by_left.from ≡ cond (ltb c.first_at-near.result c.search-left.result.after) (c.search-left.result.after - 1) c.first_at-near.result =
    elim c.if-by_left.branch [ then-by_left w ↦ rw (lt-ltb c.first_at-near.result c.search-left.result.after w.if-by_left.true) w.from-is | else-by_left w ↦ rw (le-ltb c.first_at-near.result c.search-left.result.after (omega (arith, w.if-by_left.false))) w.from-is ] in (
      rw e (record {
        number = either_small (ltb c.search-right.result.first c.search-right.result.done) c.search-right.result.first c.if-by_left.from
            (omega (arith, c.search-right.ensures.bounded.0.1, c.search-right.ensures.bounded.0.0, c.min.ensures))
            (rw from_is (either_small (ltb c.first_at-near.result c.search-left.result.after) (c.search-left.result.after - 1) c.first_at-near.result
            (omega (arith, c.search-left.ensures.bounded.0.2, c.search-left.ensures.bounded.0.0)) (omega (arith, c.first_at-near.ensures.0))));
        behind = tt;
      }),
      λ low high φ ψ L an.
          let whole = an.shown.whole in
          let inside = inside_here a.table.now a.view.now a.records.now L (Formula.since low high φ ψ) a.k a.i an in
          let has = has_here a.table.now a.view.now a.records.now L (Formula.since low high φ ψ) a.k a.i an in
          let fields = fields_here a.table.now a.view.now a.records.now L (Formula.since low high φ ψ) a.k a.i an in
          let now = c.time_of-now.ensures.1 L whole inside in
          let small = c.time_of-now.ensures.0 in
          let high_is : c.from-high.result ≡ high = c.from-high.ensures ∙ fields.high in
          let low_is : c.from-low.result ≡ low = c.from-low.ensures ∙ fields.low in
          let near_is : c.first_at-near.result ≡ first_time L (L.time a.i - high) =
          c.first_at-near.ensures.1 L whole ∙ ap (first_time L) (c.saturating_sub.ensures ∙ ap₂ (λ (x y : ℕ). x - y) now high_is) in
          let late_is : c.first_at-late.result ≡ first_time L (L.time a.i + 1 - low) =
          c.first_at-late.ensures.1 L whole ∙ ap (first_time L) (c.saturating_sub-2.ensures ∙ ap₂ (λ (x y : ℕ). x + 1 - y) now low_is) in
          let (left-answers-it, right-answers-it) = operands_of a.table.now a.view.now a.records.now L (Formula.since low high φ ψ) φ ψ a.k a.i an refl (since_formulas low high φ ψ an.entries a.k an.formula) in
          let lefts = c.search-left.ensures.bounded.1 φ L (rw c.from-operand.ensures left-answers-it.0) an.shown.falls an.shown.agrees (rw c.from-operand.ensures left-answers-it.1) in
          let rights = c.search-right.ensures.bounded.1 ψ L right-answers-it.0 an.shown.falls an.shown.agrees right-answers-it.1 in
          e ∙ since_told low high φ ψ a.table.now a.view.now a.records.now a.k a.i L an (omega arith) c.first_at-near.result c.first_at-late.result c.if-by_left.from c.min.result
          c.search-left.result c.search-right.result near_is late_is lefts from_is c.min.ensures rights,
    )
