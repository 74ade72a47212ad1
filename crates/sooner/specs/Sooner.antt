-- Document 02, paper 14: "For a rule that is one next or until over letters, show that a position is open only if two accepted
-- lengthenings, each by one record, settle it differently." Here the logic's part: a log with one position more.
use Rattle.std.specs.Prelude.{ℕ, suc, ◌+◌, ◌-◌, ◌≤◌, ◌<◌, max, Bool, false, ◌||◌, ◌≡◌, eqb}
use Rattle.mtl.specs.Formula.{Formula}
use Rattle.mtl.specs.Formula.Formula.{letter, not, or, previous, next, since, until}
use Rattle.mtl.specs.Log.{Log, NeverFalls, Agree}
use Rattle.mtl.specs.Satisfaction.{sat}
use Rattle.mtl.specs.Progress.{progress}
use Rattle.mtl.specs.Reading.{AtMost}

-- "one next or until over letters"
pub data OneTimed : Formula → Type 0 where
  one_next : {low high k : ℕ} → OneTimed (next low high (letter k))
  one_until : {low high k l : ℕ} → OneTimed (until low high (letter k) (letter l))

-- its interval
abbrev pub timed_low : {φ : Formula} → OneTimed φ → ℕ
timed_low (one_next {low} {high} {k}) = low
timed_low (one_until {low} {high} {k} {l}) = low

abbrev pub timed_high : {φ : Formula} → OneTimed φ → ℕ
timed_high (one_next {low} {high} {k}) = high
timed_high (one_until {low} {high} {k} {l}) = high

-- the letter that can make it true: next's, or until's right one
abbrev pub timed_letter : {φ : Formula} → OneTimed φ → ℕ
timed_letter (one_next {low} {high} {k}) = k
timed_letter (one_until {low} {high} {k} {l}) = l

-- letter l is one of the formula's
unfoldable pub letter_in : Formula → (l : ℕ) → Bool
letter_in (letter k) l = eqb l k
letter_in (not φ) l = letter_in φ l
letter_in (or φ ψ) l = letter_in φ l || letter_in ψ l
letter_in (previous low high φ) l = letter_in φ l
letter_in (next low high φ) l = letter_in φ l
letter_in (since low high φ ψ) l = letter_in φ l || letter_in ψ l
letter_in (until low high φ ψ) l = letter_in φ l || letter_in ψ l

-- an interval as refusal 6 lets it pass
pub record Interval (low high : ℕ) : Type 0 where
  pub small : low ≤ 3600
  pub order : AtMost high low

-- "a time of at most 4,294,963,695": the last to which a low of 3,600 seconds can be added in 32 bits
abbrev pub latest : ℕ
latest = 4294963695

-- the time of the log's last position
abbrev pub last_of : Log → ℕ
last_of L = L.time (L.size - 1)

-- The time of the record that settles position i: the first that is not below the last, and low after the position. An open position's
-- gap to it is not above high: of a next the position is the last; of an until the last lies at most high after it.
abbrev pub settling_time : {φ : Formula} → OneTimed φ → Log → (i : ℕ) → ℕ
settling_time one L i = max (last_of L) (L.time i + timed_low one)

-- K is L and one position more, of this time: it has the letter, or it has no letter at all
pub record Adds (L : Log) (time letter : ℕ) (holds : Bool) (K : Log) : Type 0 where
  pub size : K.size ≡ suc L.size
  pub same : Agree L K 0 L.size
  pub at : K.time L.size ≡ time
  pub has : K.letters L.size letter ≡ holds
  pub no_other : holds ≡ false → (k : ℕ) → K.letters L.size k ≡ false

-- position i is settled with this verdict on the log K
pub record SettledAs (φ : Formula) (K : Log) (i : ℕ) (verdict : Bool) : Type 0 where
  pub in_order : NeverFalls K
  pub answered : i < progress φ K
  pub says : sat φ K i ≡ verdict

-- What paper 14 says of an open position: two records of one time, which is not below the last and has 32 bits, settle it: with the letter
-- yes, with none no.
pub record BothWays {φ : Formula} (one : OneTimed φ) (L : Log) (i : ℕ) : Type 0 where
  pub order : last_of L ≤ settling_time one L i
  pub fits : settling_time one L i ≤ 4294967295
  pub settles : (holds : Bool) (K : Log) → Adds L (settling_time one L i) (timed_letter one) holds K → SettledAs φ K i holds
