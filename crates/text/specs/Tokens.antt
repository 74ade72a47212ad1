-- The tokens of a text. Paper 1: "Spaces separate freely; a word or number is a longest run of small letters and digits."
use Rattle.std.specs.Prelude.{ℕ, ◌+◌, ◌-◌, ◌*◌, Bool, true, false, cond, ◌&&◌, ◌||◌, List, [], ◌∷◌, ◌++◌, ltb, leb, eqb, length, Option, None, Some}
use Rattle.std.specs.Str.{bytes_eq}
use Rattle.text.specs.Ascii.{ascii}
-- the words and numbers, the signs ( ) [ ] and the comma; `Unknown` is any other run or sign
use Rattle.text.specs.declared.token.Token.{Token}
use Rattle.text.specs.declared.token.Token.TheVariants.{Letter, Number, Not, Or, Prev, Next, Since, Until, Inf, Opening, Closing, From, To, Comma, Unknown}

-- a small letter or a digit
abbrev pub runs : ℕ → Bool
runs b = (leb 97 b && leb b 122) || (leb 48 b && leb b 57)

-- the value of a digit; none for any other byte
abbrev pub digit : ℕ → Option ℕ
digit b = cond (leb 48 b && leb b 57) (Some (b - 48)) None

-- the value of a number with one digit more: at most "four digits without needless leading zeros"
abbrev pub with_digit : ℕ → Option ℕ → Option ℕ
with_digit front None = None
with_digit front (Some last) = cond (eqb front 0 || leb 1000 front) None (Some (front * 10 + last))

abbrev pub extended : Option ℕ → ℕ → Option ℕ
extended None b = None
extended (Some front) b = with_digit front (digit b)

-- the value of a number with these bytes more
unfoldable pub numeral_from : Option ℕ → List ℕ → Option ℕ
numeral_from front [] = front
numeral_from front (b ∷ rest) = numeral_from (extended front b) rest

-- the value of a run of one to four digits; none for any other run
abbrev pub numeral : List ℕ → Option ℕ
numeral [] = None
numeral (b ∷ rest) = numeral_from (digit b) rest

-- "Letters are e0 to e31."
abbrev pub lettered : Option ℕ → Token
lettered None = Unknown
lettered (Some value) = cond (ltb value 32) (Letter value) Unknown

-- a number of at most four digits
abbrev pub numbered : Option ℕ → Token
numbered None = Unknown
numbered (Some value) = Number value

-- an e (hexadecimal 65) with its digits, or a number
abbrev pub letter_or_number : List ℕ → Token
letter_or_number [] = Unknown
letter_or_number (b ∷ rest) = cond (eqb b 0x65) (lettered (numeral rest)) (numbered (numeral (b ∷ rest)))

-- the token that a run is: not, or, prev, next, since, until or inf; else a letter or a number
unfoldable pub token_of : List ℕ → Token
token_of run =
    cond (bytes_eq run (ascii "not")) Not
    (cond (bytes_eq run (ascii "or")) Or
    (cond (bytes_eq run (ascii "prev")) Prev
    (cond (bytes_eq run (ascii "next")) Next
    (cond (bytes_eq run (ascii "since")) Since
    (cond (bytes_eq run (ascii "until")) Until
    (cond (bytes_eq run (ascii "inf")) Inf
    (letter_or_number run)))))))

-- ( ) [ ] and the comma in ASCII
unfoldable pub sign : ℕ → Token
sign b =
    cond (eqb b 40) Opening
    (cond (eqb b 41) Closing (cond (eqb b 91) From (cond (eqb b 93) To (cond (eqb b 44) Comma Unknown))))

-- the run that has ended here, if there is one
abbrev pub ended : List ℕ → List Token → List Token
ended [] ts = ts
ended (b ∷ run) ts = token_of (b ∷ run) ∷ ts

-- a byte that is in no run: a space is no token
abbrev pub signed : ℕ → List Token → List Token
signed b ts = cond (eqb b 32) ts (sign b ∷ ts)

-- the tokens of these bytes, which stand behind a run that may go on
unfoldable pub tokens_from : List ℕ → List ℕ → List Token
tokens_from run [] = ended run []
tokens_from run (b ∷ rest) =
    let on = tokens_from (run ++ (b ∷ [])) rest in
    let off = ended run (signed b (tokens_from [] rest)) in
    cond (runs b) on off

-- the tokens of a text
abbrev pub tokens : List ℕ → List Token
tokens text = tokens_from [] text

-- the token that 16 looks for, and whether it is among these
abbrev pub is_unknown : Token → Bool
is_unknown Unknown = true
is_unknown t = false

unfoldable pub some_unknown : List Token → Bool
some_unknown [] = false
some_unknown (t ∷ ts) = is_unknown t || some_unknown ts

-- "A text of up to 1,024 ASCII bytes". 16: "a word, sign or form of number is unknown or the text is too long"
abbrev pub unreadable : List ℕ → Bool
unreadable text = ltb 1024 (length text) || some_unknown (tokens text)
