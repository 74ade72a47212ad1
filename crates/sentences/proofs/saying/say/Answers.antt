-- `sentences::saying::say` meets its contract: each kind says its own.
use mathlib.Core.Path.{ap}
use native.Mathlib.Omega.{arith}
use Rattle.rule.specs.Kinds.{number_of_kind}
use Rattle.sentences.proofs.Sayings.{said_letter, said_not, said_or, said_previous, said_next, said_search}
use Rattle.sentences.proofs.saying.say.Goals as goal

pub returns-in-Letter-clause-saids : goal.returns-in-Letter-clause-saids
returns-in-Letter-clause-saids c =
    let a = c.args in
    said_letter a.table.now a.view.now a.records.now a.k a.i c.say_letter.result c.from-letter.result c.from-letter.ensures (ap number_of_kind c.in-Letter.is) c.say_letter.ensures.0 c.say_letter.ensures.1

pub returns-in-Not-clause-saids : goal.returns-in-Not-clause-saids
returns-in-Not-clause-saids c =
    let a = c.args in said_not a.table.now a.view.now a.records.now a.k a.i c.say_connective.result (ap number_of_kind c.in-Not.is) c.say_connective.ensures

pub returns-in-Or-clause-saids : goal.returns-in-Or-clause-saids
returns-in-Or-clause-saids c =
    let a = c.args in said_or a.table.now a.view.now a.records.now a.k a.i c.say_connective-in-Or.result (ap number_of_kind c.in-Or.is) c.say_connective-in-Or.ensures

pub returns-in-Previous-clause-saids : goal.returns-in-Previous-clause-saids
returns-in-Previous-clause-saids c =
    let a = c.args in
    said_previous a.table.now a.view.now a.records.now a.k a.i c.say_previous.result c.from-low.result c.from-high.result c.from-low.ensures c.from-high.ensures (ap number_of_kind c.in-Previous.is)
    c.say_previous.ensures.0 c.say_previous.ensures.1

pub returns-in-Next-clause-saids : goal.returns-in-Next-clause-saids
returns-in-Next-clause-saids c =
    let a = c.args in
    said_next a.table.now a.view.now a.records.now a.k a.i c.say_next.result c.from-low.result c.from-high.result c.from-low.ensures c.from-high.ensures (ap number_of_kind c.in-Next.is)
    c.say_next.ensures.0 c.say_next.ensures.1

pub returns-in-Since-clause-saids : goal.returns-in-Since-clause-saids
returns-in-Since-clause-saids c =
    let a = c.args in
    said_search a.table.now a.view.now a.records.now a.k a.i c.say_since.result 5 (ap number_of_kind c.in-Since.is) (omega arith) c.say_since.ensures.shape.0 (λ e. c.say_since.ensures.shape.1) (λ e. absurd (omega arith))

pub returns-in-Until-clause-saids : goal.returns-in-Until-clause-saids
returns-in-Until-clause-saids c =
    let a = c.args in
    said_search a.table.now a.view.now a.records.now a.k a.i c.say_until.result 6 (ap number_of_kind c.in-Until.is) (omega arith) c.say_until.ensures.shape.0 (λ e. absurd (omega arith)) (λ e. c.say_until.ensures.shape.1)
