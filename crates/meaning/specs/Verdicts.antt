-- The meaning of a rule: its formulas, the number of positions that they have answered together (`joint_progress` of the logic),
-- and their verdict at a position. The promises, both demands and the examples speak of a rule through these.
use Rattle.std.specs.Prelude.{ℕ, zero, suc, ◌*◌, max, Bool, true, false, List, [], ◌∷◌, ◌++◌, map, length, take}
use Rattle.mtl.specs.Formula.{Formula}
use Rattle.mtl.specs.Log.{Log, closing}
use Rattle.mtl.specs.Satisfaction.{sat}
use Rattle.mtl.specs.Progress.{joint_progress}
use Rattle.mtl.specs.Wanted.{wanted, wanted_record}
use Rattle.rule.specs.Entries.{version, count, decoded}
use Rattle.rule.specs.Postfix.{formulas, formulas_or}
use Rattle.trace.specs.Format.{records_of, skips_of}
use Rattle.trace.specs.Log.{log_of}
use Rattle.verdicts.specs.Bytes.{byte_of}

-- the formulas of an accepted rule, in the order of the rule
abbrev pub formulas_of : List ℕ → List Formula
formulas_of rule = formulas_or (formulas (version rule) (decoded rule) (count rule))

-- A rule's answers at a position, from whether each formula holds. An empty rule has no formula and one answer: "every position is
-- yes".
abbrev pub answers_of : (Formula → Bool) → List Formula → List Bool
answers_of holds [] = true ∷ []
answers_of holds (φ ∷ fs) = map holds (φ ∷ fs)

-- how many answers that are: "one per formula", and of an empty rule one
abbrev pub columns : List Formula → ℕ
columns fs = max 1 (length fs)

-- "each byte 1 for yes or 0 for no"; of several formulas "bit k of the verdict byte is formula k's answer, in rule order from 0"
abbrev pub verdict : List Formula → Log → ℕ → ℕ
verdict fs L i = byte_of (answers_of (λ φ. sat φ L i) fs)

-- the first n verdicts on a log
unfoldable pub verdicts : List Formula → Log → ℕ → List ℕ
verdicts fs L zero = []
verdicts fs L (suc n) = verdicts fs L n ++ (verdict fs L n ∷ [])

-- the log that the first n records of a log's bytes are, closed or open
abbrev pub first_records : (closed : Bool) → List ℕ → ℕ → Log
first_records closed log n = closing closed (log_of (skips_of log) (take (8 * n) (records_of log)))

-- the first record still wanted, where d verdicts are given and the first n records were seen
abbrev pub wanted_after : (rule log : List ℕ) (d n : ℕ) → ℕ
wanted_after rule log d n = wanted_record (first_records false log n) n (wanted (formulas_of rule) d)

-- the answered number A of a rule on the first n records
abbrev pub answered_number : (closed : Bool) (rule log : List ℕ) → ℕ → ℕ
answered_number closed rule log n = joint_progress (formulas_of rule) (first_records closed log n)

-- "The verdicts of an untouched log are A bytes": all verdicts of a rule on the first n records
abbrev pub all_verdicts : (closed : Bool) (rule log : List ℕ) → ℕ → List ℕ
all_verdicts closed rule log n = verdicts (formulas_of rule) (first_records closed log n) (answered_number closed rule log n)
