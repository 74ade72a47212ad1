-- What the public functions other than `measure` promise: all that the crates above rely on beside the definitions before it.
use Rattle.std.specs.Prelude.{ℕ, zero, suc, ◌<◌, List, ◌≡◌, length, get_or, set, replicate}
use Rattle.std.proofs.Math.Option.{some}
use Rattle.mtl.specs.Formula.{Formula}
use Rattle.rule.specs.declared.Entry.{Entry}
use Rattle.rule.specs.Entries.{version, entry_of, blank}
use Rattle.rule.specs.declared.measuring.Ends.{Ends}
use Rattle.rule.specs.Postfix.{formulas, start}
use Rattle.rule.specs.Refusal.{entries_refusal}
use Rattle.rule.specs.Measure.{Answer, answer_by}

-- the part of the answer that comes after the header
abbrev pub measured_entries : (version : ℕ) → List Entry → ℕ → Answer
measured_entries version t n = answer_by (entries_refusal version t n) version t n

-- the first n entries in their places, and blank ones behind them
unfoldable pub filled : List ℕ → ℕ → List Entry
filled s zero = replicate 128 blank
filled s (suc n) = set (filled s n) n (entry_of s n)

-- where each formula ends: how many formulas there are, and for each the number of the entries up to and with its last
pub record EndsOf (t : List Entry) (n : ℕ) (r : Ends) : Type 0 where
  pub number : (version : ℕ) (fs : List Formula) → formulas version t n ≡ some fs → r.number ≡ length fs
  pub at : (version : ℕ) (fs : List Formula) → formulas version t n ≡ some fs → (k : ℕ) → k < length fs → get_or r.at k 0 ≡ start fs (suc k)
