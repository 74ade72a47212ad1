-- A letter at many records, as the code reads it: each record as one number, and every other of them at a time.
use Rattle.std.specs.Prelude.{ℕ, ◌+◌, ◌-◌, ◌*◌, ◌/◌, ◌%◌, ◌<◌, ◌^◌, Bool, ◌&&◌, List, ◌≡◌, eqb, get_or}
use Rattle.bits.specs.Packed.{Packed}

-- record i as one number, its first byte the least
abbrev pub whole_at : List ℕ → (i : ℕ) → ℕ
whole_at s i =
    get_or s (i * 8) 0 + get_or s (i * 8 + 1) 0 * 256 + get_or s (i * 8 + 2) 0 * 65536 + get_or s (i * 8 + 3) 0 * 16777216
    + get_or s (i * 8 + 4) 0 * 4294967296
    + get_or s (i * 8 + 5) 0 * 1099511627776
    + get_or s (i * 8 + 6) 0 * 281474976710656
    + get_or s (i * 8 + 7) 0 * 72057594037927936

-- the place of a letter's bit there: the event set is the last four bytes, big-endian
abbrev pub place_of : (letter : ℕ) → ℕ
place_of letter = (7 - letter / 8) * 8 + letter % 8

-- what f says of every other position from `from` on, and no of those between
abbrev pub every_other : (f : ℕ → Bool) (from i : ℕ) → Bool
every_other f from i = eqb (i % 2) 0 && f (from + i)

-- a word whose bits from place `up` on are the first n that f says; the last of them is no
pub record Raised (f : ℕ → Bool) (n up word : ℕ) : Type 0 where
  pub answers : ℕ
  pub small : answers * 2 < 2 ^ n
  pub packed : Packed f 0 n answers
  pub told : word ≡ answers * 2 ^ up
