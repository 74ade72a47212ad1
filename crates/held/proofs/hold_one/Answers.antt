-- `hold_one` meets its contract: what `engine::ask` promises of its part of the words.
use mathlib.Core.Path.{refl}
use native.Mathlib.Omega.{arith}
use lib.ListN.{length}
use Rattle.held.proofs.Places.{may_ask}
use Rattle.held.proofs.Holding.{filled_holds}
use Rattle.held.proofs.hold_one.Goals as goal

pub ask-requires : goal.ask-requires
ask-requires c =
    let a = c.args in
    let m = may_ask a.table.now a.tops.now a.k (length a.words.now) c.requires.0 c.requires.1 in
    (m.0, m.1, m.2, m.3, m.4, c.requires.2, c.requires.3, c.requires.4)

pub offset_bounds-words-top : goal.offset_bounds-words-top
offset_bounds-words-top c =
    let a = c.args in
    omega (arith, (may_ask a.table.now a.tops.now a.k (length a.words.now) c.requires.0 c.requires.1).4)

pub bounds-words-top : goal.bounds-words-top
bounds-words-top c =
    let a = c.args in
    omega (arith, (may_ask a.table.now a.tops.now a.k (length a.words.now) c.requires.0 c.requires.1).4, c.ask.auto)

pub returns-clause-holds_one : goal.returns-clause-holds_one
returns-clause-holds_one c base fs fits h =
    let a = c.args in
    let y = c.ask in
    filled_holds a.view.now a.records.now a.k a.words.now y.result _ y.new.words fits h refl y.ensures.fills
