-- `engine::advance` meets its contract: the operator's step on the part of the words that is its own block.
use mathlib.Core.Path.{refl}
use Rattle.engine.specs.Table.{kind_at}
use Rattle.engine.proofs.Drive.{RowRead, advanced}
use Rattle.engine.proofs.advance.Goals as goal
use Rattle.engine.proofs.advance.Goals.{After-from-2}

-- the row, once it is read
reading : (d : After-from-2) →
    let a = d.args in RowRead a.table.now a.k (kind_at a.table.now a.k) d.from.result d.from-2.result a.own a.words.now
reading d =
    let pre = d.requires in
    record {
      is_kind = refl;
      is_low = d.from.ensures;
      is_high = d.from-2.ensures;
      rows = pre.1;
      some = pre.2;
      at = pre.3;
      all = pre.4;
    }

pub returns-clause-advances : goal.returns-clause-advances
returns-clause-advances c =
    let a = c.args in
    let step = c.advance in
    advanced (reading (goal.at.returns-clause-advances c).After-from-2) a.view.now a.records.now step.result step.new.block step.ensures.ends step.ensures.steps
