-- The invariants of `text::token::number`: the bytes that are left give the number from the value so far.
use mathlib.Core.Path.{◌≡◌}
use lib.ListN.{drop}
use Rattle.std.specs.Prelude.{Some}
use Rattle.text.specs.Tokens.{numeral, numeral_from}
use Rattle.text.proofs.token.number.Given as goal

abbrev pub invariant-loop-b : goal.invariant-loop-b
invariant-loop-b l = numeral_from (Some l.value) (drop l.b-index l.rest) ≡ numeral l.run
