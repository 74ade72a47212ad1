-- until's parts: what settles the next position to answer, and a walk that answers and takes many of them. Positions are counted here from
-- the first that waits and from the first to take, which lies `lead` behind that; start and next are their times.
use Rattle.std.specs.Prelude.{ℕ, zero, suc, ◌+◌, ◌-◌, ◌≤◌, ◌<◌, ◌^◌, min, max, Bool, true, false, cond, ◌&&◌, ◌||◌, not as negate, ◌≡◌, leb, ltb, eqb, Option, None, Some}
use Rattle.mtl.specs.Formula.{Formula, unbounded}
use Rattle.mtl.specs.Formula.Formula.{until as until_formula}
use Rattle.mtl.specs.Log.{Log, NeverFalls}
use Rattle.mtl.specs.Satisfaction.{sat}
use Rattle.bits.specs.Packed.{bit, number}
use Rattle.blocks.specs.Block.{Until, Buffer}
use Rattle.walks.specs.declared.Last.{Last}
use Rattle.walks.specs.declared.Walked.{Walked}

-- right holds at the last position taken, at least low after the start
abbrev pub is_met : (low start : ℕ) → Last → Bool
is_met low start last = last.right && leb low (last.time - start)

-- left fails at the last position taken, or the next one lies more than high after the start
abbrev pub is_over : (high start : ℕ) → Last → (next : ℕ) → Bool
is_over high start last next = negate last.left || ltb high (next - start)

abbrev pub settle_spec : (low high start : ℕ) → Last → (next : ℕ) → Option Bool
settle_spec low high start last next =
    cond (is_met low start last || is_over high start last next) (Some (is_met low start last)) None

-- the time that stands for the next position's where there is none: later than all where the log is closed, else not later than any
abbrev pub time_of_none : (closed : Bool) → ℕ
time_of_none closed = cond closed 8589934592 0

-- the time of position i of n, and `after` for the one behind them
abbrev pub next_of : (time : ℕ → ℕ) (n after i : ℕ) → ℕ
next_of time n after i = cond (ltb i n) (time i) after

-- what is known of a position that waits, where the one `at` is the next to take
abbrev pub look_spec : (low high : ℕ) (start next : ℕ → ℕ) (lead waiting at : ℕ) → Last → Option Bool
look_spec low high start next lead waiting at last =
    cond (leb (lead + at) waiting) None (settle_spec low high (start waiting) last (next at))

-- position i out of the operands' words
abbrev pub take_spec : (next : ℕ → ℕ) (i left right : ℕ) → Last
take_spec next i left right = record { left = bit left i; right = bit right i; time = next i }

-- the times are those of the log's positions from g on, which wait, and of the n from `at` on, which may be taken, and the one behind them
pub record ReadsTimes (start next : ℕ → ℕ) (L : Log) (g at n : ℕ) : Type 0 where
  pub bound : (i : ℕ) → g ≤ i → i < L.size → L.time i < 2 ^ 32
  pub waiting : (i : ℕ) → i < 64 → g + i < at + n → start i ≡ L.time (g + i)
  pub ahead : (i : ℕ) → i ≤ n → at + i < L.size → next i ≡ L.time (at + i)
  pub none : at + n ≡ L.size → next n ≡ time_of_none L.closed

-- count positions from g on are answered, and `took` positions from `at` on are taken
pub record Reached (low high : ℕ) (φ ψ : Formula) (L : Log) (g at bits count took : ℕ) (last : Last) : Type 0 where
  pub heads :
      Until low high L.time (sat φ L) (sat ψ L) (g + count) (at + took) (number last.left) (number last.right) last.time
  pub answers : Buffer (until_formula low high φ ψ) L g count bits

-- what a walk promises where it starts from a block that stands for the formula on some log; `most` is high, or no upper end where high is
-- even longer: no two times lie that far apart
abbrev pub Walks : (low most : ℕ) (start next : ℕ → ℕ) (lead n left right : ℕ) → Last → (bits count took : ℕ) → Last → Type 0
Walks low most start next lead n left right from bits count took last =
    (high : ℕ) (φ ψ : Formula) (L : Log) (g at : ℕ) → most ≡ min high unbounded → at ≡ g + lead → NeverFalls L →
    ReadsTimes start next L g at n → Buffer φ L at n left → Buffer ψ L at n right →
    Reached low high φ ψ L g at 0 0 0 from → Reached low high φ ψ L g at bits count took last

-- what it promises on any words
pub record Limits (lead n bits count took : ℕ) (from last : Last) : Type 0 where
  pub few : count ≤ 64
  pub most : took ≤ n
  pub behind : count ≤ lead + took
  pub bound : from.time < 2 ^ 32 → last.time < 2 ^ 32

-- where a walk answers none and takes none: there is none to take, and the next to answer waits
pub record StillWaits (low most : ℕ) (start next : ℕ → ℕ) (lead n count took : ℕ) (last : Last) : Type 0 where
  pub all : took ≡ n
  pub unknown : look_spec low most start next lead count took last ≡ None

-- a whole walk
pub record Walk (low most : ℕ) (start next : ℕ → ℕ) (lead n left right : ℕ) (from : Last) (w : Walked) : Type 0 where
  pub limits : Limits lead n w.bits w.count w.took from w.last
  pub waiting : w.count ≡ 0 → w.took ≡ 0 → StillWaits low most start next lead n w.count w.took w.last
  pub walks : Walks low most start next lead n left right from w.bits w.count w.took w.last

-- the times of the first n positions never fall
abbrev pub Rising : (time : ℕ → ℕ) (n : ℕ) → Type 0
Rising time n = (i j : ℕ) → i ≤ j → j < n → time i ≤ time j

-- the time of the latest right that left leads to, among n positions from i on; 0 where there is none
unfoldable pub latest_right : (time : ℕ → ℕ) (left right n i : ℕ) → ℕ
latest_right time left right zero i = 0
latest_right time left right (suc n) i =
    max (cond (bit left i) (latest_right time left right n (suc i)) 0) (cond (bit right i) (time i) 0)

-- it lies at least low after position i of n
abbrev pub is_late : (low : ℕ) (time : ℕ → ℕ) (left right n i : ℕ) → Bool
is_late low time left right n i = leb (time i + low) (latest_right time left right (n - i) i)

-- the words: `own` has those of n positions at which right holds or from which left leads on to it, `leads` these alone
pub record Words (left right n own leads : ℕ) : Type 0 where
  pub none : (i : ℕ) → n ≤ i → i ≤ 64 → bit own i ≡ false
  pub here : (i : ℕ) → i < n → bit own i ≡ bit right i || bit leads i
  pub led : (i : ℕ) → bit leads i ≡ bit left i && bit own (suc i)

-- of the positions from `from` to `end` those up to r lie at least low before a time, and no others, where times never fall
pub record LastMet (low to : ℕ) (time : ℕ → ℕ) (from end r : ℕ) : Type 0 where
  pub behind : from ≤ r
  pub within : r ≤ end
  pub there : from < r → time (r - 1) + low ≤ to
  pub after : (i : ℕ) → r ≤ i → i < end → to < time i + low

-- the first `met` of n positions lie at least low before a time, and no more of them from the first on
pub record Met (low : ℕ) (start : ℕ → ℕ) (to n met : ℕ) : Type 0 where
  pub most : met ≤ n
  pub far : (i : ℕ) → i < met → start i + low ≤ to
  pub next : met < n → to < start met + low

-- what was taken settles none of those that wait
abbrev pub Quiet : (low start lead : ℕ) → Last → Type 0
Quiet low start lead last = 0 < lead → (last.left ≡ true) × (is_met low start last ≡ false)

-- a walk can go by whole words: the last of n positions to take lies no more than high after the first that waits
pub record ByWords (low high : ℕ) (start time : ℕ → ℕ) (lead n : ℕ) (from : Last) : Type 0 where
  pub some : 0 < n
  pub few : lead < 64
  pub small : low < 2 ^ 32
  pub quiet : Quiet low (start 0) lead from
  pub inside : time (n - 1) - start 0 ≤ high

-- the time of the first right among n positions from i on; later than any where there is none
unfoldable pub first_right : (time : ℕ → ℕ) (right n i : ℕ) → ℕ
first_right time right zero i = 8589934592
first_right time right (suc n) i = cond (bit right i) (time i) (first_right time right n (suc i))

-- it lies at most high after position i of n
abbrev pub is_soon : (high : ℕ) (time : ℕ → ℕ) (right n i : ℕ) → Bool
is_soon high time right n i = leb (first_right time right (n - i) i) (time i + high)

-- the first `far` of n positions lie more than high before the last of them, and no others
pub record Far (high : ℕ) (time : ℕ → ℕ) (n far : ℕ) : Type 0 where
  pub below : far < n
  pub over : 0 < far → time (far - 1) + high < time (n - 1)
  pub near : (i : ℕ) → far ≤ i → i < n → time (n - 1) ≤ time i + high

-- those to take reach further than high, and what was taken settles none of those that wait
pub record Outreaches (high : ℕ) (time : ℕ → ℕ) (lead n : ℕ) (from : Last) : Type 0 where
  pub some : 0 < n
  pub few : lead < 64
  pub small : high + 1 < 2 ^ 32
  pub quiet : 0 < lead → (from.left ≡ true) × (from.right ≡ false)
  pub longer : high < time (n - 1) - time 0

-- the last position taken settles all that wait: left fails there, or right holds and low is 0; a time and low can be added
abbrev pub is_told : (low lead : ℕ) → Last → Bool
is_told low lead last = (ltb 0 lead && leb low 4294967295) && (negate last.left || (last.right && eqb low 0))

-- none of n positions settles one that waits: at all of them left holds and right does not, as at the last one taken, and the last of them
-- lies no more than high after the first that waits
pub record Calm (high : ℕ) (start time : ℕ → ℕ) (lead n left right : ℕ) (from : Last) : Type 0 where
  pub waiting : 0 < lead
  pub some : 0 < n
  pub quiet : (from.left ≡ true) × (from.right ≡ false)
  pub still : (i : ℕ) → i < n → (bit left i ≡ true) × (bit right i ≡ false)
  pub inside : time (n - 1) - start 0 ≤ high
