-- The invariants of `text::token::any_unknown`.
use Prim.Native.Nat.{◌-◌}
use mathlib.Core.Path.{◌≡◌}
use lib.ListN.{length, drop}
use Rattle.text.specs.Tokens.{tokens, some_unknown}
use Rattle.text.proofs.token.any_unknown.Given as goal

abbrev pub invariant-loop-lexeme : goal.invariant-loop-lexeme
invariant-loop-lexeme l = some_unknown (tokens (drop l.at l.text)) ≡ some_unknown (tokens l.text)

abbrev pub decreases-loop-lexeme : goal.decreases-loop-lexeme
decreases-loop-lexeme l = length l.text - l.at
