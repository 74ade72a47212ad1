-- The bytes of a rule: document 01, "Rule and log as bytes", from the formula.
use Rattle.std.specs.Prelude.{ℕ, ◌/◌, ◌%◌, List, [], ◌∷◌, ◌++◌, length}
use Rattle.mtl.specs.Formula.{Formula}
use Rattle.rule.specs.declared.Entry.{Entry}
use Rattle.rule.specs.Postfix.{postfix}

-- "Numbers wider than a byte are big-endian and unsigned": the four bytes of a 32-bit number
abbrev pub number_bytes : ℕ → List ℕ
number_bytes n = n / 16777216 ∷ n / 65536 % 256 ∷ n / 256 % 256 ∷ n % 256 ∷ []

-- "kind (8 bits), letter (8 bits), low (32 bits), high (32 bits)"
abbrev pub entry_bytes : Entry → List ℕ
entry_bytes e = e.kind ∷ e.letter ∷ number_bytes e.low ++ number_bytes e.high

-- the entries' bytes, one entry behind the other
unfoldable pub body : List Entry → List ℕ
body [] = []
body (e ∷ es) = entry_bytes e ++ body es

-- "KRL (hexadecimal 4B 52 4C), then a 16-bit version, 1, an 8-bit entry count and two zero bytes"
abbrev pub rule_header : (count : ℕ) → List ℕ
rule_header n = 0x4B ∷ 0x52 ∷ 0x4C ∷ 0 ∷ 1 ∷ n ∷ 0 ∷ 0 ∷ []

-- the rule that has these entries
unfoldable pub encoded : List Entry → List ℕ
encoded es = rule_header (length es) ++ body es

-- the rule of a formula
abbrev pub rule_of : Formula → List ℕ
rule_of φ = encoded (postfix φ)
