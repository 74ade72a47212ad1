-- What inner functions promise: words whose eight bytes are numbers below 256.
use Rattle.std.specs.Prelude.{ℕ, zero, suc, ◌+◌, ◌*◌, ◌/◌, ◌%◌, ◌^◌, List, [], ◌∷◌, ◌++◌}
use Rattle.bits.specs.Packed.{bit, number}
use Rattle.verdicts.specs.Bytes.{byte_of, answers_at}

-- f 0 to f (n - 1) as the bytes of one number, the first in the lowest
unfoldable pub packed : (f : ℕ → ℕ) (n : ℕ) → ℕ
packed f zero = 0
packed f (suc n) = f 0 + 256 * packed (λ i. f (suc i)) n

-- the bits of a byte, each in a byte of its own
abbrev pub spread_bits : ℕ → ℕ
spread_bits b = packed (λ i. number (bit b i)) 8

-- the verdicts of eight positions from i on
abbrev pub eight_verdicts : (words : List ℕ) (i : ℕ) → ℕ
eight_verdicts words i = packed (λ r. byte_of (answers_at words (i + r))) 8

-- the first n bytes of a word, the lowest first
unfoldable pub first_bytes : (n word : ℕ) → List ℕ
first_bytes zero word = []
first_bytes (suc n) word = first_bytes n word ++ (word / 2 ^ (8 * n) % 256 ∷ [])
