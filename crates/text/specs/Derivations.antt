-- Worked derivations: what the grammar derives from texts that precedence and grouping decide, each with its derivation. A grammar
-- that would read such a text otherwise is refused here, at that text.
use Rattle.std.specs.Prelude.{ℕ, refl, Some}
use Prim.Native.String.{String}
use Rattle.mtl.specs.Formula.{Formula}
use Rattle.mtl.specs.Formula.Formula.{letter, not, or, since, until}
use Rattle.text.specs.Ascii.{ascii}
use Rattle.text.specs.Tokens.{numeral_from, token_of, sign, tokens_from, tokens}
use Rattle.text.specs.Grammar.{Prefix, Infix, Tree, spell, meaning, Derived}
use Rattle.text.specs.Grammar.Level.{prefixed}
use Rattle.text.specs.Grammar.End.{at}
use Rattle.text.specs.Grammar.Tree.{brackets, tight, one, untimed, two, sole}

-- a text, and the formula that the grammar derives from it
abbrev pub Row : String → Formula → Type 0
Row s φ = Derived (tokens (ascii s)) (Some φ)

abbrev e : ℕ → Tree prefixed
e k = tight (Tree.letter k)

-- "The words not, prev, next bind tightest, then since and until, grouping to the right, then or, grouping to the left; round
-- brackets override."
pub rows :
    Row "e0 since[0,1] e1 until[0,2] e2" (since 0 1 (letter 0) (until 0 2 (letter 1) (letter 2)))
    × Row "e0 or e1 until[0,1] e2" (or (letter 0) (until 0 1 (letter 1) (letter 2)))
    × Row "e0 until[0,1] e1 or e2" (or (until 0 1 (letter 0) (letter 1)) (letter 2))
    × Row "e0 or e1 or e2" (or (or (letter 0) (letter 1)) (letter 2))
    × Row "not e0 until[0,1] e1" (until 0 1 (not (letter 0)) (letter 1))
    × Row "(e0 or e1) until[0,1] e2" (until 0 1 (or (letter 0) (letter 1)) (letter 2))
unfolding ascii tokens_from numeral_from token_of sign spell meaning
rows = (
  record {
    tree = sole (two (e 0) (Infix.since 0 (at 1)) (two (e 1) (Infix.until 0 (at 2)) (untimed (e 2))));
    spells = refl;
    means = refl;
  },
  record {
    tree = Tree.or (sole (untimed (e 0))) (two (e 1) (Infix.until 0 (at 1)) (untimed (e 2)));
    spells = refl;
    means = refl;
  },
  record {
    tree = Tree.or (sole (two (e 0) (Infix.until 0 (at 1)) (untimed (e 1)))) (untimed (e 2));
    spells = refl;
    means = refl;
  },
  record {
    tree = Tree.or (Tree.or (sole (untimed (e 0))) (untimed (e 1))) (untimed (e 2));
    spells = refl;
    means = refl;
  },
  record {
    tree = sole (two (one Prefix.not (e 0)) (Infix.until 0 (at 1)) (untimed (e 1)));
    spells = refl;
    means = refl;
  },
  record {
    tree = sole (two (tight (brackets (Tree.or (sole (untimed (e 0))) (untimed (e 1))))) (Infix.until 0 (at 1)) (untimed (e 2)));
    spells = refl;
    means = refl;
  },
)
