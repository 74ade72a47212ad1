-- `measuring::own_words` meets its contract: the tests on kind and high are those of `own`.
use borrow.Author.Tests.{eq-eqb, ne_eqb}
use borrow.Author.Rules.{rules}
use Rattle.rule.proofs.measuring.own_words.Goals as goal

pub returns-then-e-eq-UNBOUNDED : goal.returns-then-e-eq-UNBOUNDED
returns-then-e-eq-UNBOUNDED c = search (rules, eq-eqb)

pub returns-else-e-eq-UNBOUNDED : goal.returns-else-e-eq-UNBOUNDED
returns-else-e-eq-UNBOUNDED c = search (rules, eq-eqb, ne_eqb)

pub returns-then-e-eq6 : goal.returns-then-e-eq6
returns-then-e-eq6 c = search (rules, eq-eqb, ne_eqb)

pub returns-else-e-eq6 : goal.returns-else-e-eq6
returns-else-e-eq6 c = search (rules, ne_eqb)
