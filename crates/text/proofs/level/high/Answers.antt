use mathlib.Core.Path.{refl, subst}
use Rattle.text.specs.declared.token.Token.{Token}
use Rattle.text.specs.Grammar.End.{at}
use Rattle.text.specs.Reader.{Reads}
use Rattle.text.proofs.level.high.Goals as goal

pub returns-in-Number : goal.returns-in-Number
returns-in-Number c =
    let x = c.in_ok-lexeme.lexeme in
    (at c.in-Number.value, subst (λ (t : Token). Reads c.args.text.now c.args.at t x.next) c.in-Number.is c.in_ok-lexeme.ensures, refl)
