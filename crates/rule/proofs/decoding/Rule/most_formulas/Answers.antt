-- `decoding::Rule::most_formulas` meets its contract: it makes the test on the version that its definition makes.
use borrow.Author.Tests.{eq-eqb, ne_eqb}
use borrow.Author.Rules.{rules}
use Rattle.rule.proofs.decoding.Rule.most_formulas.Goals as goal

pub returns-then-self-eq1 : goal.returns-then-self-eq1
returns-then-self-eq1 c = search (rules, eq-eqb)

pub returns-else-self-eq1 : goal.returns-else-self-eq1
returns-else-self-eq1 c = search (rules, ne_eqb)
