-- What is counted in the bytes of a sheet, for formula k: "The stored and tallied counts, the latest positions .. become one per formula."
use Rattle.std.specs.Prelude.{ℕ, zero, suc, ◌+◌, Bool, false, cond, ◌&&◌, List, [], ◌∷◌, ◌++◌, eqb, leb, length, get_or}
use Rattle.std.specs.Bool.{beq}
use Rattle.std.proofs.Math.Option.{Option, none, some}
use Rattle.bits.specs.Packed.{bit}

-- how many of the first n bytes have the answer x in bit k
unfoldable pub count_of : (x : Bool) (k : ℕ) → List ℕ → (n : ℕ) → ℕ
count_of x k s zero = 0
count_of x k s (suc n) = count_of x k s n + cond (beq (bit (get_or s n 0) k) x) 1 0

-- the position of formula k's latest no among the first n bytes, by a scan
unfoldable pub latest_no : (k : ℕ) → List ℕ → (n : ℕ) → Option ℕ
latest_no k s zero = none
latest_no k s (suc n) = cond (bit (get_or s n 0) k) (latest_no k s n) (some n)

-- one number for each of the first n formulas, that of formula 0 first
unfoldable pub listed : (f : ℕ → ℕ) (n : ℕ) → List ℕ
listed f zero = []
listed f (suc k) = listed f k ++ (f k ∷ [])

-- the counts of the first formulas over a whole sheet
abbrev pub counts : (x : Bool) (formulas : ℕ) → List ℕ → List ℕ
counts x formulas s = listed (λ k. count_of x k s (length s)) formulas

-- the count of no and the latest of them
pub record Noes : Type 0 where
  pub count : ℕ
  pub latest : Option ℕ

-- "what tally and a scan give over" the first n bytes, for formula k
abbrev pub noes_in : (k : ℕ) → List ℕ → (n : ℕ) → Noes
noes_in k s n = record { count = count_of false k s n; latest = latest_no k s n }

-- bytes laid behind d others: the counts are added, and where one of these bytes is no, the latest is theirs
abbrev pub later : Option ℕ → (d : ℕ) → Option ℕ → Option ℕ
later old d none = old
later old d (some i) = some (d + i)

abbrev pub laid_behind : Noes → (d : ℕ) → Noes → Noes
laid_behind old d new = record { count = old.count + new.count; latest = later old.latest d new.latest }

-- HOW A CHECKPOINT STORES THEM: the count, and one more than the position of the latest, or 0 for none

abbrev pub latest_of : (after : ℕ) → Option ℕ
latest_of zero = none
latest_of (suc i) = some i

-- that number, once `last` is one more than the place of the latest among the verdicts from d on
abbrev pub later_end : (old d last : ℕ) → ℕ
later_end old d last = cond (eqb last 0) old (d + last)

-- of the d verdicts given no more are no than there are, the latest is one of them, and there is none exactly where none is counted
abbrev pub noes_in_range : (d count after : ℕ) → Bool
noes_in_range d count after = leb count d && leb after d && beq (eqb count 0) (eqb after 0)
