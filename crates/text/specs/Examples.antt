-- Worked texts: the precedence of the words, and every refusal, in their order: what `refusal` gives where the grammar derives what a row
-- says. That it derives that, and nothing else, is shown in proofs/Texts.
use Rattle.std.specs.Prelude.{ℕ, zero, suc, cond, ◌≡◌, refl, List, [], ◌∷◌, ◌++◌, eqb, Option, None, Some}
use Prim.Native.String.{String}
use Rattle.mtl.specs.Formula.{Formula}
use Rattle.mtl.specs.Formula.Formula.{letter, not, or, previous, next, since, until}
use Rattle.mtl.specs.Satisfaction.{any}
use Rattle.rule.specs.Words.{offset}
use Rattle.rule.specs.Postfix.{postfix}
use Rattle.text.specs.Ascii.{ascii}
use Rattle.text.specs.Tokens.{numeral_from, token_of, sign, tokens_from, some_unknown}
use Rattle.text.specs.Parse.{parsed_refusal, text_refusal}

-- a text, the bytes of the lent buffer, the number of the refusal that it meets or 0, and what the grammar derives from it
pub record Row : Type 0 where
  pub text : List ℕ
  pub room : ℕ
  pub number : ℕ
  pub derives : Option Formula

-- a text that is read, with a buffer that holds every rule
abbrev accepted : String → Formula → Row
accepted s φ = record { text = ascii s; room = 1288; number = 0; derives = Some φ }

-- one from which the grammar derives nothing: 16 or 17
abbrev unread : String → (number : ℕ) → Row
unread s number = record { text = ascii s; room = 1288; number = number; derives = None }

-- one whose formula is refused
abbrev stopped : String → (room number : ℕ) → Formula → Row
stopped s room number φ = record { text = ascii s; room = room; number = number; derives = Some φ }

-- one that begins with the same bytes so many times
unfoldable pub repeated : ℕ → (s behind : String) → List ℕ
repeated zero s behind = ascii behind
repeated (suc n) s behind = ascii s ++ repeated n s behind

abbrev long : ℕ → (s behind : String) (number : ℕ) → Formula → Row
long n s behind number φ = record { text = repeated n s behind; room = 1288; number = number; derives = Some φ }

-- so many not, and then a formula
unfoldable pub nots : ℕ → Formula → Formula
nots zero φ = φ
nots (suc n) φ = not (nots n φ)

unfoldable pub rows : List Row
rows =
    -- 1 to 9: "The words not, prev, next bind tightest, then since and until, grouping to the right, then or, grouping to the left; round
    -- brackets override."
    accepted "e0 since[0,1] e1 until[0,2] e2" (since 0 1 (letter 0) (until 0 2 (letter 1) (letter 2)))
    ∷ accepted "e0 or e1 or e2" (or (or (letter 0) (letter 1)) (letter 2))
    ∷ accepted "not e0 until[0,1] e1" (until 0 1 (not (letter 0)) (letter 1))
    ∷ accepted "prev[0,1] not next[0,1] e0" (previous 0 1 (not (next 0 1 (letter 0))))
    ∷ accepted "(e0 since[0,1] e1) until[0,2] e2" (until 0 2 (since 0 1 (letter 0) (letter 1)) (letter 2))
    ∷ accepted "e0 or (e1 or e2)" (or (letter 0) (or (letter 1) (letter 2)))
    ∷ accepted "not(e0 until[0,1] e1)" (not (until 0 1 (letter 0) (letter 1)))
    ∷ accepted "e0 or e1 until[0,1] e2" (or (letter 0) (until 0 1 (letter 1) (letter 2)))
    ∷ accepted "e0 until[0,1] e1 or e2" (or (until 0 1 (letter 0) (letter 1)) (letter 2))
    -- 10 to 12: "Spaces separate freely"; the largest need; "inf as high"
    ∷ accepted "  e31 since [ 10 , inf ]((e9))" (since 10 4294967295 (letter 31) (letter 9))
    ∷ accepted "e0 until[0,3600] e1 until[0,446] e2" (until 0 3600 (letter 0) (until 0 446 (letter 1) (letter 2)))
    ∷ accepted "next[0,inf] e0" (next 0 4294967295 (letter 0))
    -- 13 to 21: "16 when a word, sign or form of number is unknown", also where the grammar derives nothing
    ∷ unread "e0or e1" 16
    ∷ unread "e00" 16
    ∷ unread "e32" 16
    ∷ unread "e0 until[007,9] e1" 16
    ∷ unread "e0 until[0,12345] e1" 16
    ∷ unread "e0 & e1" 16
    ∷ unread "E0" 16
    ∷ unread "e0\te1" 16
    ∷ unread "e0 e32" 16
    -- 22 to 31: "17 when the grammar does not derive it"
    ∷ unread "e0 e1" 17
    ∷ unread "" 17
    ∷ unread "   " 17
    ∷ unread "(e0" 17
    ∷ unread "e0)" 17
    ∷ unread "not" 17
    ∷ unread "prev e0" 17
    ∷ unread "e0 or" 17
    ∷ unread "until[0,1] e0" 17
    ∷ unread "e0 until[inf,3] e1" 17
    -- 32 and 33: "A text of up to 1,024 ASCII bytes": 1,024 of them, and 1,025
    ∷ long 1022 " " "e0" 0 (letter 0)
    ∷ long 1023 " " "e0" 16 (letter 0)
    -- 34 and 35: "then 4 for more than 128 entries": 128 of them, and 129
    ∷ long 127 "not " "e0" 0 (nots 127 (letter 0))
    ∷ long 128 "not " "e0" 4 (nots 128 (letter 0))
    -- 36: 129 entries and a wrong interval: 4 comes before 6
    ∷ long 127 "not " "prev[5,3] e0" 4 (nots 127 (previous 5 3 (letter 0)))
    -- 37 to 39: "then 6"
    ∷ stopped "e0 until[5,3] e1" 1288 6 (until 5 3 (letter 0) (letter 1))
    ∷ stopped "e0 until[0,inf] e1" 1288 6 (until 0 4294967295 (letter 0) (letter 1))
    ∷ stopped "prev[3601,3601] e0" 1288 6 (previous 3601 3601 (letter 0))
    -- 40: a wrong interval and too large a need: 6 comes before 8
    ∷ stopped "e0 until[0,3601] e1 until[0,3600] e2" 1288 6 (until 0 3601 (letter 0) (until 0 3600 (letter 1) (letter 2)))
    -- 41: "and 8", before 18
    ∷ stopped "e0 until[0,3600] e1 until[0,447] e2" 0 8 (until 0 3600 (letter 0) (until 0 447 (letter 1) (letter 2)))
    -- 42: "last 18 when the lent rule buffer is short"
    ∷ stopped "e0 until[0,2] e1" 37 18 (until 0 2 (letter 0) (letter 1))
    ∷ []

-- 0, or the number n of a row that does not compute
unfoldable pub wrong : ℕ → Row → ℕ
wrong n r = cond (eqb (text_refusal r.text r.derives r.room) r.number) 0 n

-- none of the rows is wrong, the first of them having number n
unfoldable pub Right : ℕ → List Row → Type 0
Right n [] = Unit {0}
Right n (r ∷ rs) = (wrong n r ≡ 0) × Right (suc n) rs

-- every row computes; an edit of the definitions that breaks a row has its number in an error
pub every_row : Right 1 rows
unfolding Right wrong rows repeated nots ascii tokens_from numeral_from token_of sign some_unknown postfix parsed_refusal any offset
every_row = (refl, (refl, (refl, (refl, (refl, (refl, (refl, (refl, (refl, (refl, (refl, (refl, (refl, (refl, (refl, (refl, (refl, (refl, (refl, (refl, (refl, (refl, (refl, (refl, (refl, (refl, (refl, (refl, (refl, (refl, (refl, (refl, (refl, (refl, (refl, (refl, (refl, (refl, (refl, (refl, (refl, (refl, tt))))))))))))))))))))))))))))))))))))))))))
