-- Entries by their kind: which operands a kind takes, and whose last operator an entry's fields are.
use Rattle.std.specs.Prelude.{ℕ, Bool, ◌||◌, not as negate, ◌≡◌, eqb}
use Rattle.mtl.specs.Formula.{Formula}
use Rattle.blocks.specs.Block.{kind_of, letter_of, low_of, high_of}

-- the entry takes a left operand: or, since, until
abbrev pub takes_left : ℕ → Bool
takes_left kind = eqb kind 2 || (eqb kind 5 || eqb kind 6)

-- the entry takes a right operand, or an only one: every kind but letter
abbrev pub takes_right : ℕ → Bool
takes_right kind = negate (eqb kind 0)

-- the fields of an entry are those of the formula's last operator
pub record Fields (φ : Formula) (k c l h : ℕ) : Type 0 where
  pub kind : k ≡ kind_of φ
  pub letter : c ≡ letter_of φ
  pub low : l ≡ low_of φ
  pub high : h ≡ high_of φ
