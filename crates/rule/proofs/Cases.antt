-- The measuring rows of document 01, and those of an empty rule and of several formulas, worked out by the definitions.
use Prim.Native.Nat.{ℕ}
use mathlib.Core.Path.{◌≡◌, refl}
use mathlib.Core.List.{List, [], ◌∷◌, ◌++◌}
use lib.ListN.{length, set, replicate}
use Rattle.mtl.specs.Formula.{Formula, unbounded, reach, has_next, largest}
use Rattle.mtl.specs.Formula.Formula.{letter, not, next, since, until}
use Rattle.mtl.specs.Satisfaction.{any}
use Rattle.rule.specs.Entries.{first_entries}
use Rattle.rule.specs.Words.{offset}
use Rattle.rule.specs.Postfix.{push_kind, read, postfix, postfixes}
use Rattle.rule.specs.Encoding.{body, encoded, rule_of}
use Rattle.rule.specs.Refusal.{header_refusal, entries_refusal}
use Rattle.rule.specs.Measure.{measured}

-- the rule with nothing in it
abbrev no_entry : List ℕ
no_entry = 0x4B ∷ 0x52 ∷ 0x4C ∷ 0 ∷ 1 ∷ 0 ∷ 0 ∷ 0 ∷ []

-- the rule of version 2 that has these formulas
abbrev pub rules_of : List Formula → List ℕ
rules_of fs = set (encoded (postfixes fs)) 4 2

-- as many formulas, each the letter 0
abbrev letters : ℕ → List Formula
letters n = replicate n (letter 0)

-- the answer of weighing
abbrev pub Weighs : List ℕ → ℕ → ℕ → ℕ → Type 0
Weighs s number words far = measured s ≡ record { number = number; words = words; reach = far }

abbrev pub P1 : Formula
P1 = until 0 2 (letter 0) (letter 1)

abbrev pub P10 : ℕ → Formula
P10 high = until 0 high (until 0 3600 (letter 0) (letter 1)) (letter 2)

-- one more second is one more word
abbrev kept : ℕ → Formula
kept high = since 0 high (until 0 3600 (letter 0) (letter 1)) (letter 2)

pub rows :
    (length (rule_of P1) ≡ 38)
    × Weighs (rule_of P1) 0 70 2
    × Weighs (rule_of (P10 446)) 0 8192 4046
    × Weighs (rule_of (P10 447)) 8 0 0
    × Weighs (rule_of (until 0 3600 (letter 0) (letter 1))) 0 7266 3600
    × Weighs (rule_of (until 0 3601 (letter 0) (letter 1))) 6 0 0
    × Weighs (set (rule_of P1 ++ (0 ∷ [])) 4 3) 2 0 0
    × Weighs (set (rule_of P1 ++ (0 ∷ [])) 4 2) 4 0 0
    × Weighs (rule_of (next 1 unbounded (letter 0))) 0 48 unbounded
    × Weighs (rule_of (until 0 unbounded (letter 0) (letter 1))) 6 0 0
    × Weighs no_entry 0 16 0
    × Weighs (no_entry ++ body (postfix (letter 0))) 4 0 0
    × Weighs (rules_of (P1 ∷ [])) 0 78 2
    × Weighs (rules_of (P1 ∷ not P1 ∷ [])) 0 148 2
    × Weighs (rules_of (letters 8)) 0 152 0
    × Weighs (rules_of (letters 9)) 7 0 0
    × Weighs (rules_of []) 7 0 0
    × Weighs (rules_of (letter 0 ∷ kept 869 ∷ [])) 0 8192 3600
    × Weighs (rules_of (letter 0 ∷ kept 870 ∷ [])) 8 0 0
    × Weighs (rules_of (P1 ∷ next 1 unbounded (letter 0) ∷ [])) 0 110 unbounded
    × Weighs (encoded (postfixes (letters 2))) 7 0 0
unfolding encoded body postfix postfixes header_refusal entries_refusal first_entries any offset read push_kind reach has_next largest
rows =
    (refl, refl, refl, refl, refl, refl, refl, refl, refl, refl, refl, refl, refl, refl, refl, refl, refl, refl, refl, refl, refl)
