-- Positions: which records are positions, and how a reading head finds them. Document 02, paper 10: "From log version 2, a record with
-- letter 31 is a service record and no position .. Positions are numbered over the others". `skips` says whether the log's version has them.
use Rattle.std.specs.Prelude.{ℕ, zero, suc, ◌+◌, ◌-◌, ◌<◌, Bool, cond, List}
use Rattle.trace.specs.Format.{record_count, has_letter}

abbrev pub is_service : List ℕ → ℕ → Bool
is_service s i = has_letter s 31 i

-- the first of n records from r on that is no service record; the record behind them where all are
unfoldable pub passing : List ℕ → (n r : ℕ) → ℕ
passing s zero r = r
passing s (suc n) r = cond (is_service s r) (passing s n (suc r)) r

-- the record at r or behind it that holds a position; where none does, the number of records, or r where it lies behind them
abbrev pub seek : List ℕ → ℕ → ℕ
seek s r = passing s (record_count s - r) r

-- the record of the i-th position, from 0, that stands at record r or behind it: each is the first behind the one before
unfoldable pub spot : List ℕ → (r i : ℕ) → ℕ
spot s r zero = seek s r
spot s r (suc i) = seek s (suc (spot s r i))

-- the same of a log in which every record is a position, or every one but service records
abbrev pub place : (skips : Bool) → List ℕ → (r i : ℕ) → ℕ
place skips s r i = cond skips (spot s r i) (r + i)

-- where a head at record r stands after n positions: behind the record of the last of them
unfoldable pub moved : (skips : Bool) → List ℕ → (r n : ℕ) → ℕ
moved skips s r zero = r
moved skips s r (suc n) = suc (place skips s r n)

-- how many of the first n records are positions
unfoldable pub positions : List ℕ → ℕ → ℕ
positions s zero = 0
positions s (suc n) = cond (is_service s n) (positions s n) (suc (positions s n))

-- how many positions stand before record n
abbrev pub before : (skips : Bool) → List ℕ → ℕ → ℕ
before skips s n = cond skips (positions s n) n

-- the records have n positions from record r on
abbrev pub Inside : (skips : Bool) → List ℕ → (r n : ℕ) → Type 0
Inside skips s r n = (i : ℕ) → i < n → place skips s r i < record_count s
