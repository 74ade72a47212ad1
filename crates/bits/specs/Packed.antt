-- Words of answers: bit i of a word answers the i-th of up to 64 positions.
use Rattle.std.specs.Prelude.{ℕ, zero, suc, ◌+◌, ◌-◌, ◌*◌, ◌/◌, ◌%◌, ◌^◌, ◌≤◌, ◌<◌, Bool, true, false, cond, ◌&&◌, ◌||◌, ◌≡◌, leb, ltb, eqb}

-- bit i, the one worth 2 to the i
abbrev pub bit : (word i : ℕ) → Bool
bit word i = eqb (word / 2 ^ i % 2) 1

-- 1 for true
abbrev pub number : Bool → ℕ
number true = 1
number false = 0

-- a word of n bits with one more behind them
abbrev pub with_bit : (word n : ℕ) (x : Bool) → ℕ
with_bit word n x = word + number x * 2 ^ n

-- how many of the first n bits are 0
unfoldable pub zeros : (n word : ℕ) → ℕ
zeros zero word = 0
zeros (suc n) word = zeros n word + cond (bit word n) 0 1

-- one more than the place of the last of the first n bits that is 0; 0 where none is
unfoldable pub last_zero : (n word : ℕ) → ℕ
last_zero zero word = 0
last_zero (suc n) word = cond (bit word n) (last_zero n word) (suc n)

-- the place of the first of the first n bits that is 0; n where none is
pub record FirstZero (word n at : ℕ) : Type 0 where
  pub most : at ≤ n
  pub ones : (i : ℕ) → i < at → bit word i ≡ true
  pub ends : at < n → bit word at ≡ false

-- the first n bits are what f says of the n positions from p on
pub record Packed (f : ℕ → Bool) (p n word : ℕ) : Type 0 where
  pub few : n ≤ 64
  pub same : (i : ℕ) → i < n → f (p + i) ≡ bit word i

-- bit i of a word, where right holds at some j ≥ i and left from i up to j - 1: right holds at i, or left does and the bit behind it is one
abbrev pub FilledDown : (left right word : ℕ) → Type 0
FilledDown left right word = (i : ℕ) → i < 64 → bit word i ≡ bit right i || (bit left i && bit word (suc i))

-- where right holds at some j ≤ i and left from j + 1 up to i: right holds at i, or left does and the bit before it is one
abbrev pub FilledUp : (left right word : ℕ) → Type 0
FilledUp left right word =
    (bit word 0 ≡ bit right 0) × ((i : ℕ) → suc i < 64 → bit word (suc i) ≡ bit right (suc i) || (bit left (suc i) && bit word i))

-- a word with the n bits of another in front of its own
pub record Prolonged (word front n longer : ℕ) : Type 0 where
  pub front_bits : (i : ℕ) → i < n → bit longer i ≡ bit front i
  pub own : (i : ℕ) → n ≤ i → i < 64 → bit longer i ≡ bit word (i - n)

-- the bits from `from` to `end` are one, and no others
abbrev pub OnesBetween : (from end word : ℕ) → Type 0
OnesBetween from end word = (i : ℕ) → i < 64 → bit word i ≡ leb from i && ltb i end
