-- `measuring::operands_of` meets its contract: below 7 the array has the column's number, and from 7 on the column has its default.
use borrow.Author.Rules.{rules}
use mathlib.Core.List.{[], ◌∷◌}
use mathlib.Core.Path.{sym}
use lib.ListN.{get_or-eq_default}
use Rattle.rule.proofs.Laws.{get_d_default}
use Rattle.rule.proofs.measuring.operands_of.Goals as goal

pub returns-then-k-lt7 : goal.returns-then-k-lt7
returns-then-k-lt7 c = rw c.from-k.ensures (get_d_default (0 ∷ 1 ∷ 2 ∷ 1 ∷ 1 ∷ 2 ∷ 2 ∷ []) c.args.kind 0 200 (search rules))

pub returns-else-k-lt7 : goal.returns-else-k-lt7
returns-else-k-lt7 c = sym (get_or-eq_default (0 ∷ 1 ∷ 2 ∷ 1 ∷ 1 ∷ 2 ∷ 2 ∷ []) 200 {n = c.args.kind} (search (rules, c.from-k.ensures)))
