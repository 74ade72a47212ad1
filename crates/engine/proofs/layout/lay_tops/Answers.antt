-- `engine::layout::lay_tops` meets its contract: the rows before k say where the formulas before formula k stand.
use Prim.Native.Nat.{ℕ, ◌<◌}
use mathlib.Core.Path.{◌≡◌, refl}
use mathlib.Core.List.{List}
use native.Mathlib.Omega.{arith}
use lib.ListN.{length-set}
use Rattle.mtl.specs.Formula.{Formula}
use Rattle.rule.specs.declared.Entry.{Entry}
use Rattle.engine.specs.Table.{row_at}
use Rattle.engine.specs.Tops.{LaidAs}
use Rattle.engine.proofs.Places.{Turn, before_none, before_next, turn_of, tops_of}
use Rattle.engine.proofs.layout.lay_tops.Goals as goal
use Rattle.engine.proofs.layout.lay_tops.Goals.{After-one_less-entry}

-- the turn of the loop in which the last entry of the next formula was read
turn_at : (d : After-one_less-entry) (t : List Entry) (n : ℕ) (fs : List Formula) →
    let a = d.args in
    let l = d.loop-k in
    let last = d.one_less-entry.result in
    LaidAs t n a.table.now a.ends.now.at a.ends.now.number fs →
    Turn n a.base l.from fs l.k last (row_at a.table.now last).words (row_at a.table.now last).left_words (row_at a.table.now last).right_words
turn_at d t n fs is =
    let a = d.args in
    let l = d.loop-k in
    let g = d.loop-k-test in
    turn_of is l.k (omega (arith, is.ended.number)) a.base l.from d.one_less-entry.result (l.invariant.1 t n fs is).begins d.one_less-entry.ensures

-- the same of the formulas that the entries are known to make
turn : (d : After-one_less-entry) →
    let a = d.args in
    let l = d.loop-k in
    let last = d.one_less-entry.result in
    let known = d.requires.1 in
    Turn known.1 a.base l.from known.2 l.k last (row_at a.table.now last).words (row_at a.table.now last).left_words (row_at a.table.now last).right_words
turn d = let (t, n, fs, is) = d.requires.1 in turn_at d t n fs is

below : (d : After-one_less-entry) → d.one_less-entry.result < 128
below d = let (t, n, fs, is) = d.requires.1 in omega (arith, (turn d).below, is.few)

pub loop-k-init : goal.loop-k-init
loop-k-init c = (refl, λ t n fs is. before_none fs _ c.args.base)

pub bounds-table-entry : goal.bounds-table-entry
bounds-table-entry c = below (goal.at.bounds-table-entry c).After-one_less-entry

pub overflow_add-to : goal.overflow_add-to
overflow_add-to c = omega (arith, (turn (goal.at.overflow_add-to c).After-one_less-entry).fits)

pub overflow_add-tops : goal.overflow_add-tops
overflow_add-tops c = let u = turn (goal.at.overflow_add-tops c).After-one_less-entry in omega (arith, u.inside, u.fits)

pub offset_bounds-table-entry : goal.offset_bounds-table-entry
offset_bounds-table-entry c = let b = below (goal.at.offset_bounds-table-entry c).After-one_less-entry in omega arith

pub overflow_add-tops-in-loop-k : goal.overflow_add-tops-in-loop-k
overflow_add-tops-in-loop-k c = let u = turn (goal.at.overflow_add-tops-in-loop-k c).After-one_less-entry in omega (arith, u.inside, u.fits)

pub loop-k-preserved : goal.loop-k-preserved
loop-k-preserved c =
    let l = c.loop-k in (
      simp length-set l.invariant.0,
      λ t n fs is.
          rw (c.from.ensures, c.own_at.ensures)
          (before_next fs l.tops c.args.base l.from l.k c.one_less-entry.result _ _ _ (omega (arith, is.ended.number, is.ended.few)) (l.invariant.1 t n fs is) (turn_at (goal.at.loop-k-preserved c).After-one_less-entry t n fs is)),
    )

pub returns : goal.returns
returns c t n fs is =
    let l = c.loop-k in
    let e : l.k ≡ c.args.ends.now.number = omega arith in
    tops_of is l.tops c.args.base l.from (omega (arith, is.ended.number, is.ended.few, l.invariant.0)) (rw e at (l.invariant.1 t n fs is))
