-- What a call knows of its log, and the part of the records that the reading heads are handed: those from record `from` on. Records
-- before it may have been overwritten or dropped.
use Rattle.std.specs.Prelude.{ℕ, ◌+◌, ◌-◌, ◌/◌, ◌%◌, ◌<◌, ◌^◌, max, Bool, true, ◌||◌, ◌≡◌, List, [], length, get_or, leb, ltb}
use Rattle.mtl.specs.Log.{Log, head_of}
use Rattle.bits.specs.Packed.{bit}
use Rattle.trace.specs.Format.{record_count, time_at, has_letter}
use Rattle.trace.specs.Positions.{is_service, place, before}
use Rattle.window.specs.declared.view.View.{View}

-- the record with which the slice begins; how many positions the log has, those before the slice included; whether service records are
-- passed over in the slice, which is needed only where one lies there; whether the log is closed
abbrev pub slice_first : View → ℕ
slice_first v = v.first

abbrev pub total : View → ℕ
total v = v.total

abbrev pub skips : View → Bool
skips v = v.skips

abbrev pub closed : View → Bool
closed v = v.closed

-- these of a slice that begins with record `from`, before which stand q positions, without marks
abbrev pub view_of : (from q : ℕ) (skips closed : Bool) → List ℕ → View
view_of from q skipping ended s =
    record { first = from; total = q + before skipping s (record_count s); skips = skipping; closed = ended; marks = [] }

-- a head at record r, in a slice that begins with record `from`: what lies before was passed, or is service records
abbrev pub in_slice : (from r : ℕ) → ℕ
in_slice from r = max r from - from

-- the slice shows position i of the log, which the head of position i finds
pub record Shows (skips : Bool) (s : List ℕ) (from : ℕ) (L : Log) (i : ℕ) : Type 0 where
  pub inside : place skips s (in_slice from (head_of L i)) 0 < record_count s
  pub time : time_at s (place skips s (in_slice from (head_of L i)) 0) ≡ L.time i
  pub letters : (k : ℕ) → has_letter s k (place skips s (in_slice from (head_of L i)) 0) ≡ L.letters i k
  pub place : L.place i ≡ from + place skips s (in_slice from (head_of L i)) 0

-- MARKS

-- 62 words of marks, a bit for each block of 256 records of the slice: whether the block may have a service record. Blocks behind those,
-- which lie beyond 1,000,000 records, count as marked.
abbrev pub block_marked : (marks : List ℕ) (block : ℕ) → Bool
block_marked marks block = leb 3968 block || bit (get_or marks (block / 64) 0) (block % 64)

-- every service record lies in a marked block. A mark too many costs time and no answer.
abbrev pub BlockMarks : (marks s : List ℕ) → Type 0
BlockMarks marks s = (i : ℕ) → i < record_count s → is_service s i ≡ true → block_marked marks (i / 256) ≡ true

-- a block marked, if it has to be, beside those that were
pub record MarkedToo (marks : List ℕ) (block : ℕ) (needed : Bool) (marks' : List ℕ) : Type 0 where
  pub long : length marks' ≡ 62
  pub this : needed ≡ true → block_marked marks' block ≡ true
  pub kept : (b : ℕ) → block_marked marks b ≡ true → block_marked marks' b ≡ true

-- a view that windows can be opened by: the records' numbers have 32 bits, and where service records are passed over, they are marked
pub record Views (v : View) (s : List ℕ) : Type 0 where
  pub numbered : slice_first v + record_count s < 2 ^ 32
  pub marks : skips v ≡ true → BlockMarks v.marks s

-- service records lie in the slice
abbrev pub served : (skips : Bool) → List ℕ → Bool
served skipping s = ltb (before skipping s (record_count s)) (record_count s)

-- the view that a call makes of its slice: service records are passed over only where one lies in the slice, and where they are, they are marked
pub record ViewOf (from q : ℕ) (skipping ended : Bool) (s : List ℕ) (v : View) : Type 0 where
  pub first : slice_first v ≡ from
  pub total : total v ≡ q + before skipping s (record_count s)
  pub skips : skips v ≡ served skipping s
  pub closed : closed v ≡ ended
  pub marks : v.skips ≡ true → BlockMarks v.marks s
