-- `explain::all_answered` meets its contract.
use Prim.Native.Nat.{◌<◌}
use mathlib.Core.Path.{◌≡◌, ◌∙◌}
use native.Mathlib.Omega.{arith}
use Rattle.explain.proofs.Formulas.{reached_next, all_reached, not_reached}
use Rattle.explain.proofs.all_answered.Goals as goal

pub search-scan-requires : goal.search-scan-requires
search-scan-requires c =
    let p = c.requires.0 in
    let l = c.loop-k in
    let (some, few) = p.some l.k (omega arith) in
    let room = p.words_room in
    let kept = l.invariant.0 in
    (omega arith, p.rows l.k (omega arith), omega arith, l.invariant.1, l.invariant.2, p.views)

pub returns-then-scan-position : goal.returns-then-scan-position
returns-then-scan-position c =
    let a = c.args in
    let l = c.loop-k in
    record { all_answered = not_reached a.table.now a.view.now a.records.now a.ends.now.at a.ends.now.number a.position l.k (omega arith) c.search-scan.result c.search-scan.ensures.bounded.1 c.if-scan-position.true; keeps = c.search-scan.ensures.keeps }

pub loop-k-preserved : goal.loop-k-preserved
loop-k-preserved c =
    let a = c.args in
    let l = c.loop-k in
    let h : l.k < a.ends.now.number = omega arith in (
      c.search-scan.auto.words ∙ l.invariant.0,
      c.search-scan.ensures.keeps.0,
      c.search-scan.ensures.keeps.1,
      reached_next a.table.now a.view.now a.records.now a.ends.now.at a.ends.now.number a.position l.k h l.invariant.3 c.search-scan.result c.search-scan.ensures.bounded.1 (omega (arith, c.if-scan-position.false)),
    )

pub returns : goal.returns
returns c =
    let a = c.args in
    let l = c.loop-k in
    let e : l.k ≡ a.ends.now.number = omega arith in
    record { all_answered = all_reached a.table.now a.view.now a.records.now a.ends.now.at a.ends.now.number a.position (rw e at l.invariant.3); keeps = (l.invariant.1, l.invariant.2) }
