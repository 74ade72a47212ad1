use Prim.Native.Nat.{◌+◌}
use mathlib.Core.Path.{◌≡◌, sym, ap, ◌∙◌}
use lib.ListN.{drop}
use Rattle.std.specs.Prelude.{None, Some}
use Rattle.std.proofs.lemmas.List.{drop_more}
use Rattle.text.specs.Tokens.{numeral_from}
use Rattle.text.proofs.Lexing.{none_from}
use Rattle.text.proofs.token.number.Goals as goal

pub returns-in_err-value-2 : goal.returns-in_err-value-2
unfolding numeral_from
returns-in_err-value-2 c =
    let l = c.loop-b in
    let rest = c.in_ok-first.rest.now in
    let lost : numeral_from (Some l.value) (drop l.b-index rest) ≡ None =
    ap (numeral_from (Some l.value)) (drop_more rest l.b-index 0 c.loop-b-test.true)
    ∙ ap (λ o. numeral_from o (drop (l.b-index + 1) rest)) (sym c.in_err-value-2.ensures.0)
    ∙ none_from (drop (l.b-index + 1) rest) in
    rw c.from_residual-in_err-value-2.ensures (sym lost ∙ l.invariant)
