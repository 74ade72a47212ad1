-- The grammar derives from each worked text (specs/Examples) what its row says, a formula or none.
use Prim.Native.Nat.{◌*◌}
use native.Mathlib.Omega.{arith}
use mathlib.Core.Path.{◌≡◌, refl, subst}
use mathlib.Core.List.{List, [], ◌∷◌}
use lib.ListN.{length}
use Rattle.std.specs.Prelude.{None}
use Rattle.mtl.specs.Formula.Formula.{letter, until}
use Rattle.rule.specs.Postfix.{postfix}
use Rattle.rule.specs.Encoding.{body, encoded, rule_of}
use Rattle.text.specs.Tokens.{numeral_from, token_of, sign, tokens_from, tokens}
use Rattle.text.specs.Grammar.{Level, meaning, Derived}
use Rattle.text.specs.Reader.{timing, phrase}
use Rattle.text.specs.Ascii.{ascii}
use Rattle.text.specs.Examples.{Row, repeated, nots, rows}
use Rattle.text.proofs.Complete.{found, decides}

pub record IsDerived (r : Row) : Type 0 where
  pub is : Derived (tokens r.text) r.derives

derived : (r : Row) → found (phrase (4 * length (tokens r.text)) Level.ors None (tokens r.text)) ≡ r.derives → IsDerived r
derived r e =
    let ts = tokens r.text in
    record { is = subst (Derived ts) e (decides ts (4 * length ts) (omega arith) _ refl) }

unfoldable pub AllDerived : List Row → Type 0
AllDerived [] = Unit {0}
AllDerived (r ∷ rs) = IsDerived r × AllDerived rs

pub every_text : AllDerived rows
unfolding AllDerived rows repeated nots ascii tokens_from numeral_from token_of sign phrase timing meaning
every_text = (derived _ refl, (derived _ refl, (derived _ refl, (derived _ refl, (derived _ refl, (derived _ refl, (derived _ refl, (derived _ refl, (derived _ refl, (derived _ refl, (derived _ refl, (derived _ refl, (derived _ refl, (derived _ refl, (derived _ refl, (derived _ refl, (derived _ refl, (derived _ refl, (derived _ refl, (derived _ refl, (derived _ refl, (derived _ refl, (derived _ refl, (derived _ refl, (derived _ refl, (derived _ refl, (derived _ refl, (derived _ refl, (derived _ refl, (derived _ refl, (derived _ refl, (derived _ refl, (derived _ refl, (derived _ refl, (derived _ refl, (derived _ refl, (derived _ refl, (derived _ refl, (derived _ refl, (derived _ refl, (derived _ refl, (derived _ refl, tt))))))))))))))))))))))))))))))))))))))))))

-- the bytes of document 01's full run
pub full_run :
    rule_of (until 0 2 (letter 0) (letter 1))
    ≡ 0x4B ∷ 0x52 ∷ 0x4C ∷ 0 ∷ 1 ∷ 3 ∷ 0 ∷ 0
    ∷ 0 ∷ 0 ∷ 0 ∷ 0 ∷ 0 ∷ 0 ∷ 0 ∷ 0 ∷ 0 ∷ 0
    ∷ 0 ∷ 1 ∷ 0 ∷ 0 ∷ 0 ∷ 0 ∷ 0 ∷ 0 ∷ 0 ∷ 0
    ∷ 6 ∷ 0 ∷ 0 ∷ 0 ∷ 0 ∷ 0 ∷ 0 ∷ 0 ∷ 0 ∷ 2 ∷ []
unfolding encoded body postfix
full_run = refl
