-- Texts as lists of bytes: words, numbers, yes and no; and what a call that writes one promises.
use Rattle.std.specs.Prelude.{ℕ, zero, suc, ◌+◌, ◌/◌, ◌%◌, Bool, cond, ◌≡◌, List, [], ◌∷◌, ◌++◌, length, take, drop, ltb}
use Prim.Native.Char.{code}
use Prim.Native.String.{String}
use Prim.Native.String.{[] as no_more, ◌∷◌ as ◌then◌}

-- the bytes of a text; every character here is ASCII, one byte
unfoldable pub ascii : String → List ℕ
ascii no_more = []
ascii (c then s) = code c ∷ ascii s

-- a number in decimal, in at most so many places: the digits of its tenth, where it has one, and its last digit
unfoldable pub decimal_in : (places n : ℕ) → List ℕ
decimal_in zero n = []
decimal_in (suc k) n = cond (ltb n 10) [] (decimal_in k (n / 10)) ++ ((48 + n % 10) ∷ [])

-- n + 1 places are enough for n
abbrev pub decimal : ℕ → List ℕ
decimal n = decimal_in (suc n) n

-- one space, and yes or no
abbrev pub verdict_word : (holds : Bool) → List ℕ
verdict_word holds = cond holds (ascii " yes") (ascii " no")

-- a call that writes bytes into a lent text from one place on, and gives the place behind them: "the bytes behind what a call
-- writes are kept", and so are those before
pub record Writes (text : List ℕ) (from : ℕ) (bytes : List ℕ) (to : ℕ) (text' : List ℕ) : Type 0 where
  pub ends : to ≡ from + length bytes
  pub content : text' ≡ take from text ++ bytes ++ drop to text
