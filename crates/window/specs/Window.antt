-- A window: the records of the next positions from a reading head on, and no others.
use Rattle.std.specs.Prelude.{ℕ, ◌+◌, ◌-◌, ◌*◌, ◌≤◌, ◌<◌, ◌^◌, max, Bool, true, false, cond, ◌&&◌, not as negate, ◌≡◌, List, length, take, drop, leb, ltb, eqb}
use Rattle.mtl.specs.Satisfaction.{any}
use Rattle.bits.specs.Packed.{Packed}
use Rattle.trace.specs.Format.{record_count, time_at, has_letter, SameRecord}
use Rattle.trace.specs.Positions.{is_service, spot, place, moved, positions, before, Inside}
use Rattle.window.specs.View.{slice_first, skips, in_slice}
use Rattle.window.specs.declared.Kept.{Kept}
use Rattle.window.specs.declared.KeptCopy.{KeptCopy}
use Rattle.window.specs.declared.Letters.{Letters}
use Rattle.window.specs.declared.Picked.{Picked}
use Rattle.window.specs.declared.Window.{Window}
use Rattle.window.specs.declared.view.View.{View}

-- one of the n records from `from` on is a service record
abbrev pub some_service : List ℕ → (from n : ℕ) → Bool
some_service s from n = any n (λ i. is_service s (from + i))

-- the n records from `from` on are all there, and all positions
abbrev pub dense : (skips : Bool) → List ℕ → (from n : ℕ) → Bool
dense skips s from n = leb (from + n) (record_count s) && negate (skips && some_service s from n)

-- where the log has these positions, service records are passed over
abbrev pub Mixed : (skips : Bool) → List ℕ → (at n : ℕ) → Type 0
Mixed skips s at n = Inside skips s at n → 0 < n → skips ≡ true

-- the bytes of a window: the records' own part, or the copy
abbrev pub window_of : Window → (s : List ℕ) (copy : KeptCopy) → List ℕ
window_of w s copy = cond w.dense (drop (w.at * 8) s) copy.bytes

-- the window that is the records' own part
abbrev pub own_part : (at n : ℕ) → Window
own_part at n = record { at = at; end = at + n; count = n; dense = true; shared = false }

-- the window of positions that a copy has
abbrev pub copied : (at : ℕ) → Kept → (shared : Bool) → Window
copied at held shared = record { at = at; end = held.end; count = held.count; dense = false; shared = shared }

-- the copy in which a window stands: another window's, or its own
abbrev pub either_of : Window → (other copy : KeptCopy) → KeptCopy
either_of w other copy = cond w.shared other copy

-- the bytes of record i
abbrev pub record_of : List ℕ → ℕ → List ℕ
record_of s i = take 8 (drop (i * 8) s)

-- of n records from `from` on, r are positions
pub record Counted (s : List ℕ) (from n r : ℕ) : Type 0 where
  pub few : r ≤ n
  pub sum : positions s from + r ≡ positions s (from + n)

-- n records from `from` on, copied as they are as the records from number k on
pub record Transcribed (s : List ℕ) (from n : ℕ) (copy : List ℕ) (k : ℕ) (copy' : List ℕ) : Type 0 where
  pub long : length copy' ≡ length copy
  pub before : (j : ℕ) → j < k → SameRecord copy' j copy j
  pub here : (j : ℕ) → j < n → SameRecord copy' (k + j) s (from + j)
  pub after : (j : ℕ) → k + n ≤ j → SameRecord copy' j copy j

-- the r positions of n records from `from` on, copied as the records from number k on
pub record Copied (s : List ℕ) (from n : ℕ) (copy : List ℕ) (k : ℕ) (copy' : List ℕ) (r : ℕ) : Type 0 where
  pub counted : Counted s from n r
  pub long : length copy' ≡ length copy
  pub before : (j : ℕ) → j < k → SameRecord copy' j copy j
  pub here : (j : ℕ) → j < r → SameRecord copy' (k + j) s (spot s from j)
  pub after : (j : ℕ) → k + n ≤ j → SameRecord copy' j copy j

-- a letter at the i-th position that stands at record r or behind it
abbrev pub letter_at : (skips : Bool) → List ℕ → (letter r i : ℕ) → Bool
letter_at skips s letter r i = has_letter s letter (place skips s r i)

-- a letter at the positions among n records from `from` on
pub record Picks (s : List ℕ) (letter from n : ℕ) (r : Picked) : Type 0 where
  pub counted : Counted s from n r.count
  pub small : r.bits < 2 ^ r.count
  pub packed : Packed (letter_at true s letter from) 0 r.count r.bits

-- a letter at n positions from record `at` of the slice on, and the head behind them
pub record Lettered (skips : Bool) (s : List ℕ) (letter at n : ℕ) (r : Letters) : Type 0 where
  pub answers : Inside skips s at n → Packed (letter_at skips s letter at) 0 n r.bits
  pub onward : at ≤ r.end
  pub bounded : r.end ≤ max at (record_count s)
  pub end : Inside skips s at n → r.end ≡ moved skips s at n

-- KEPT COPIES

-- the positions from record `from` on whose records stand in a copy one behind the other, and a record behind them
pub record Holds (s : List ℕ) (from : ℕ) (copy : List ℕ) (r : Kept) : Type 0 where
  pub few : r.count ≤ 65
  pub onward : from ≤ r.end
  pub bounded : r.end ≤ max from (record_count s)
  pub counted : positions s from + r.count ≡ positions s r.end
  pub at : (i : ℕ) → i < r.count → SameRecord copy i s (place true s from i)

-- 65 positions, or all that the records have from there on
pub record Gathered (s : List ℕ) (from : ℕ) (copy : List ℕ) (r : Kept) : Type 0 where
  pub long : length copy ≡ 520
  pub holds : Holds s from copy r
  pub most : (n : ℕ) → n ≤ 65 → Inside true s from n → n ≤ r.count

-- what a copy says it keeps it has; a new one says that it keeps none
pub record Keeps (s : List ℕ) (copy : KeptCopy) : Type 0 where
  pub long : length copy.bytes ≡ 520
  pub holds : 0 < copy.kept.count → Holds s copy.from copy.bytes copy.kept

-- a copy that keeps n positions from this record on
abbrev pub is_kept : (copy : KeptCopy) (at n : ℕ) → Bool
is_kept copy at n = ltb 0 copy.kept.count && (eqb copy.from at && leb n copy.kept.count)

-- n positions from record `at` on, and more where the copy has them
pub record Held (s : List ℕ) (at n : ℕ) (copy : List ℕ) (r : Kept) : Type 0 where
  pub enough : n ≤ r.count
  pub onward : at ≤ r.end
  pub bounded : r.end ≤ max at (record_count s)
  pub counted : Inside true s at n → positions s at + r.count ≡ positions s r.end
  pub shows : Inside true s at n → (i : ℕ) → i < n → SameRecord copy i s (place true s at i)

-- OPENING

-- a window of n positions from record `at` of the slice on
pub record Opened (skips : Bool) (s : List ℕ) (at n : ℕ) (w : Window) (copy : KeptCopy) : Type 0 where
  pub start : w.at ≡ at
  pub size : n ≤ w.count
  -- the log's own part has no service records that are passed over; where the log has the positions, it is copied only if some are in the slice
  pub own : w.dense ≡ true → dense skips s at n ≡ true
  pub mixed : w.dense ≡ false → Mixed skips s at n
  -- it has n records, whatever the words hold from which the head was taken; they are the log's where the log has them
  pub long : n ≤ record_count (window_of w s copy)
  pub keeps : Keeps s copy
  pub shows : Inside skips s at n → (i : ℕ) → i < n → SameRecord (window_of w s copy) i s (place skips s at i)
  -- a copy may have more positions than were asked for; its end stands behind them all
  pub onward : at ≤ w.end
  pub bounded : w.end ≤ max at (record_count s)
  pub counted : w.dense ≡ false → Inside skips s at n → 0 < n → positions s at + w.count ≡ positions s w.end

-- the record behind n positions from `from` on, service records passed over; the end of the records where they have not so many
pub record Behind (s : List ℕ) (from n r : ℕ) : Type 0 where
  pub onward : from ≤ r
  pub bounded : r ≤ max from (record_count s)
  pub end : Inside true s from n → r ≡ moved true s from n

-- where `end` stands behind m + n positions from `from` on, the record behind the first m of them
pub record BehindBut (s : List ℕ) (from end n r : ℕ) : Type 0 where
  pub onward : from ≤ r
  pub bounded : r ≤ end
  pub at : (m : ℕ) → 0 < m → positions s from + (m + n) ≡ positions s end → r ≡ moved true s from m

-- the record behind n positions from `from` on, where `end` stands behind these and so many more
pub record BehindSome (s : List ℕ) (from end n more r : ℕ) : Type 0 where
  pub onward : from ≤ r
  pub bounded : r ≤ max from (record_count s)
  pub at : 0 < n → Inside true s from n → positions s from + (n + more) ≡ positions s end → r ≡ moved true s from n

-- a window opened from this head on, of n positions at least
abbrev pub Windowed : (v : View) (s : List ℕ) (head n : ℕ) → Window → Type 0
Windowed v s head n w =
    (m : ℕ) × (copy : KeptCopy) × (n ≤ m) × Opened (skips v) s (in_slice (slice_first v) head) m w copy

-- the head after n of its positions
pub record Passed (v : View) (s : List ℕ) (head n : ℕ) (w : Window) (r : ℕ) : Type 0 where
  pub onward : head ≤ r
  pub still : n ≡ 0 → r ≡ head
  pub behind : (m : ℕ) (copy : KeptCopy) → n ≤ m → Opened (skips v) s (in_slice (slice_first v) head) m w copy →
      Inside (skips v) s (in_slice (slice_first v) head) m → 0 < n → r ≡ slice_first v + moved (skips v) s (in_slice (slice_first v) head) n

-- the record that holds the position from which on there are n, "or the record after all seen where no seen record holds it"
pub record Found (skips : Bool) (s : List ℕ) (n r : ℕ) : Type 0 where
  pub bounded : r ≤ record_count s
  pub at : n ≤ before skips s (record_count s) → r ≡ place skips s 0 (before skips s (record_count s) - n)

-- the time of the first position from this head on, where the slice has one
abbrev pub FirstTime : (v : View) (s : List ℕ) (head r : ℕ) → Type 0
FirstTime v s head r =
    Inside (skips v) s (in_slice (slice_first v) head) 1 → r ≡ time_at s (place (skips v) s (in_slice (slice_first v) head) 0)
