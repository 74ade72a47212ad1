-- The grammar of a rule typed as text. Paper 1: "The words not, prev, next bind tightest, then since and until, grouping to
-- the right, then or, grouping to the left; round brackets override. The four timed words carry [low,high], each end one to
-- four digits without needless leading zeros, or inf as high."
use Rattle.std.specs.Prelude.{ℕ, ◌≡◌, List, [], ◌∷◌, ◌++◌, Option, None, Some}
use Rattle.mtl.specs.Formula.{Formula, unbounded}
use Rattle.text.specs.declared.token.Token.{Token}
use Rattle.text.specs.declared.token.Token.TheVariants.{Letter, Number, Not, Or, Prev, Next, Since, Until, Inf, Opening, Closing, From, To, Comma}

-- the levels of precedence, the loosest first
pub data Level : Type 0 where
  ors timed prefixed atom : Level

-- the high end of an interval
pub data End : Type 0 where
  at : ℕ → End
  inf : End

-- the words that stand before their operand, and those that stand between their operands, with their intervals
pub data Prefix : Type 0 where
  not : Prefix
  prev next : ℕ → End → Prefix

pub data Infix : Type 0 where
  since until : ℕ → End → Infix

-- The derivations of each level.
pub data Tree : Level → Type 0 where
  letter : ℕ → Tree atom
  brackets : Tree ors → Tree atom
  tight : Tree atom → Tree prefixed
  one : Prefix → Tree prefixed → Tree prefixed
  untimed : Tree prefixed → Tree timed
  -- "grouping to the right"
  two : Tree prefixed → Infix → Tree timed → Tree timed
  sole : Tree timed → Tree ors
  -- "grouping to the left"
  or : Tree ors → Tree timed → Tree ors

-- the tokens that a derivation derives
abbrev pub end_token : End → Token
end_token (at n) = Number n
end_token inf = Inf

-- [low,high]
abbrev pub interval : ℕ → End → List Token
interval low high = From ∷ Number low ∷ Comma ∷ end_token high ∷ To ∷ []

abbrev pub spell_prefix : Prefix → List Token
spell_prefix not = Not ∷ []
spell_prefix (prev low high) = Prev ∷ interval low high
spell_prefix (next low high) = Next ∷ interval low high

abbrev pub spell_infix : Infix → List Token
spell_infix (since low high) = Since ∷ interval low high
spell_infix (until low high) = Until ∷ interval low high

unfoldable pub spell : {l : Level} → Tree l → List Token
spell (letter k) = Letter k ∷ []
spell (brackets t) = Opening ∷ spell t ++ (Closing ∷ [])
spell (tight t) = spell t
spell (one o t) = spell_prefix o ++ spell t
spell (untimed t) = spell t
spell (two t o u) = spell t ++ (spell_infix o ++ spell u)
spell (sole t) = spell t
spell (or t u) = spell t ++ (Or ∷ spell u)

-- the formula that a derivation stands for
abbrev pub bound : End → ℕ
bound (at n) = n
bound inf = unbounded

abbrev pub prefix_meaning : Prefix → Formula → Formula
prefix_meaning not φ = Formula.not φ
prefix_meaning (prev low high) φ = Formula.previous low (bound high) φ
prefix_meaning (next low high) φ = Formula.next low (bound high) φ

abbrev pub infix_meaning : Infix → Formula → Formula → Formula
infix_meaning (since low high) φ ψ = Formula.since low (bound high) φ ψ
infix_meaning (until low high) φ ψ = Formula.until low (bound high) φ ψ

unfoldable pub meaning : {l : Level} → Tree l → Formula
meaning (letter k) = Formula.letter k
meaning (brackets t) = meaning t
meaning (tight t) = meaning t
meaning (one o t) = prefix_meaning o (meaning t)
meaning (untimed t) = meaning t
meaning (two t o u) = infix_meaning o (meaning t) (meaning u)
meaning (sole t) = meaning t
meaning (or t u) = Formula.or (meaning t) (meaning u)

-- "the grammar derives it": the tokens ts as a phrase of level l that stands for φ
pub record Derives (l : Level) (ts : List Token) (φ : Formula) : Type 0 where
  pub tree : Tree l
  pub spells : spell tree ≡ ts
  pub means : meaning tree ≡ φ

-- what the grammar derives from the tokens of a whole text: a formula, or none
abbrev pub Derived : List Token → Option Formula → Type 0
Derived ts None = (φ : Formula) → Derives ors ts φ → ⊥
Derived ts (Some φ) = Derives ors ts φ

-- "in one way only": what is proved of the tokens of every text (proofs/Complete)
pub record InOneWay (ts : List Token) : Type 0 where
  -- they have no two derivations,
  pub one_derivation : (t u : Tree ors) → spell t ≡ ts → spell u ≡ ts → t ≡ u
  -- so they stand for no two formulas, and not for one and for none
  pub one_formula : (φ ψ : Formula) → Derives ors ts φ → Derives ors ts ψ → φ ≡ ψ
  pub one_outcome : (o p : Option Formula) → Derived ts o → Derived ts p → o ≡ p
