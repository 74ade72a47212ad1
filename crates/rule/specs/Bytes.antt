-- Numbers in a list of bytes. "Numbers wider than a byte are big-endian and unsigned." A byte past the end reads as 0.
use Rattle.std.specs.Prelude.{ℕ, ◌+◌, ◌*◌, List, get_or}

abbrev pub byte : List ℕ → ℕ → ℕ
byte s at = get_or s at 0

abbrev pub word16 : List ℕ → ℕ → ℕ
word16 s at = byte s at * 256 + byte s (at + 1)

abbrev pub word32 : List ℕ → ℕ → ℕ
word32 s at = byte s at * 16777216 + byte s (at + 1) * 65536 + byte s (at + 2) * 256 + byte s (at + 3)
