-- `engine::layout::lay_out` meets its contract: the rows below k are laid out, behind them stands none, and below k the first entries are known.
use mathlib.Core.Path.{◌∙◌, ap}
use native.Mathlib.Omega.{arith}
use lib.ListN.{length-set}
use Rattle.blocks.specs.Kinds.{takes_left, takes_right}
use Rattle.engine.specs.Layout.{subformula_first, first_from}
use Rattle.engine.proofs.Rows.{Next, set_below, first_step, laid_next, left_fits, next_row, next_fits}
use Rattle.engine.proofs.layout.lay_out.Goals as goal
use Rattle.engine.proofs.layout.lay_out.Goals.{After-words_of-right_words}

-- what the row takes from the rows before it
next : (d : After-words_of-right_words) →
    Next d.args.rule.now.entries d.loop-k.k d.left_entry-left.result d.words_of-left_words.result d.words_of-right_words.result
next d =
    let l = d.loop-k in
    let is = d.kind_of-kind.ensures in
    next_row d.args.rule.now.entries d.args.rule.now.count d.requires.0 l.k (omega arith) (omega arith) l.firsts l.table d.takes_left-takes.result d.takes_right.result
    d.left_entry-left.result d.one_less.result d.words_of-left_words.result d.words_of-right_words.result l.invariant.3 l.invariant.1
    (d.takes_left-takes.ensures ∙ ap takes_left is) (d.takes_right.ensures ∙ ap takes_right is)
    d.left_entry-left.ensures d.one_less.ensures d.words_of-left_words.ensures d.words_of-right_words.ensures

pub row_of-requires : goal.row_of-requires
row_of-requires c =
    let l = c.loop-k in
    let row = next (goal.at.row_of-requires c).After-words_of-right_words in (
      c.kind_of-kind.ensures,
      left_fits c.args.rule.now.entries c.args.rule.now.count c.requires.0 l.k (omega arith) (omega arith) c.left_entry-left.result row.at_is,
      next_fits c.args.rule.now.entries c.args.rule.now.count c.requires.0 l.k (omega arith) (omega arith) _ _ _ row,
    )

pub loop-k-preserved : goal.loop-k-preserved
loop-k-preserved c =
    let l = c.loop-k in
    let g = c.loop-k-test in
    let row = next (goal.at.loop-k-preserved c).After-words_of-right_words in (
      simp length-set l.invariant.0,
      laid_next c.args.rule.now.entries c.args.rule.now.count c.requires.0 l.table l.k _ _ _ c.row_of.result (omega arith) l.invariant.1 row c.row_of.ensures,
      simp length-set l.invariant.2,
      set_below (subformula_first c.args.rule.now.entries) l.firsts l.k c.first_entry.result (omega arith) l.invariant.3
          (c.first_entry.ensures ∙ ap (λ n. first_from n l.k l.firsts) c.kind_of-kind.ensures ∙
          first_step c.args.rule.now.entries c.args.rule.now.count c.requires.0 l.firsts l.k (omega arith) l.invariant.3),
    )
