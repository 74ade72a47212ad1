-- Verdict bytes, made from words of answers: bit i of word k is the answer of formula k at the i-th of up to 64 positions.
use Rattle.std.specs.Prelude.{ℕ, zero, suc, ◌+◌, ◌*◌, Bool, List, [], ◌∷◌, ◌++◌}
use Rattle.bits.specs.Packed.{bit, number}

-- "bit k of the verdict byte is formula k's answer, in rule order from 0"
unfoldable pub byte_of : List Bool → ℕ
byte_of [] = 0
byte_of (b ∷ bs) = number b + 2 * byte_of bs

-- bit i of each word of answers, in order
unfoldable pub answers_at : (words : List ℕ) (i : ℕ) → List Bool
answers_at [] i = []
answers_at (w ∷ ws) i = bit w i ∷ answers_at ws i

-- the first n verdicts of words of answers
unfoldable pub bytes_of : (words : List ℕ) (n : ℕ) → List ℕ
bytes_of words zero = []
bytes_of words (suc n) = bytes_of words n ++ (byte_of (answers_at words n) ∷ [])
