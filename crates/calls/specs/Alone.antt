-- Document 02, paper 8: "Each bit is the verdict that its formula would get in a run of its own; this is shown once for any number of
-- formulas." First over the definitions, then of the calls. proofs/Alone.antt proves both.
use Rattle.std.specs.Prelude.{ℕ, ◌≤◌, ◌<◌, Bool, true, false, ◌≡◌, List, [], ◌∷◌, length, get_or, take, drop}
use Rattle.mtl.specs.Formula.{Formula}
use Rattle.mtl.specs.Log.{Log}
use Rattle.mtl.specs.Progress.{joint_progress}
use Rattle.bits.specs.Packed.{bit, number}
use Rattle.rule.specs.Entries.{version, entries}
use Rattle.rule.specs.Postfix.{size, formula, start}
use Rattle.rule.specs.Encoding.{rule_of}
use Rattle.rule.specs.Refusal.{refusal}
use Rattle.meaning.specs.Verdicts.{formulas_of, verdict, answered_number}
use Rattle.calls.specs.Calls.{Untouched, Call, brought_by, closed_by, laid, Calls}

-- OVER THE DEFINITIONS, for any list of formulas and any log: bit k of the verdict at each position is the verdict of formula k as the only
-- one, which has answered no fewer positions
pub record AloneOn (L : Log) (fs : List Formula) (k : ℕ) : Type 0 where
  pub same : (i : ℕ) → number (bit (verdict fs L i) k) ≡ verdict (formula fs k ∷ []) L i
  pub no_fewer : joint_progress fs L ≤ joint_progress (formula fs k ∷ []) L

-- OF THE CALLS

-- the version 1 rule of formula k alone
abbrev pub rule_alone : (rule : List ℕ) (k : ℕ) → List ℕ
rule_alone rule k = rule_of (formula (formulas_of rule) k)

-- bit k of byte i of the one list is byte i of the other
abbrev pub SameVerdict : (k : ℕ) (h h' : List Call) (i : ℕ) → Type 0
SameVerdict k h h' i = number (bit (get_or (laid h) i 0) k) ≡ get_or (laid h') i 0

-- Every list of calls of the rule, and every list of formula k's own rule, over one untouched log: where both brought the same records,
-- both closed or both open, each verdict that both have given.
abbrev pub SameVerdicts : (k : ℕ) (h h' : List Call) → Type 0
SameVerdicts k h h' =
    brought_by h ≡ brought_by h' → closed_by h ≡ closed_by h' → (i : ℕ) → i < length (laid h) → i < length (laid h') → SameVerdict k h h' i

-- Whether the first n records of a log, closed or open, and its first n' records, closed or open, are two states of one log. "A closing's
-- verdicts are compared with that log alone": what is settled only because a log ends is compared with no longer one.
abbrev pub Comparable : (closed closed' : Bool) (n n' : ℕ) → Type 0
Comparable false false n n' = Unit {0}
Comparable false true n n' = n ≤ n'
Comparable true false n n' = n' ≤ n
Comparable true true n n' = n ≡ n'

-- Two such lists in general: each verdict that both have given, where what the formula has answered can be compared. What it answers
-- without the closing counts as open, also where the closing gave it.
abbrev pub SameWhereComparable : (rule log : List ℕ) (k : ℕ) (h h' : List Call) → Type 0
SameWhereComparable rule log k h h' =
    (closed closed' : Bool) → Comparable closed closed' (brought_by h) (brought_by h') →
    (i : ℕ) → i < answered_number closed (rule_alone rule k) log (brought_by h) → i < answered_number closed' (rule_alone rule k) log (brought_by h') →
    i < length (laid h) → i < length (laid h') → SameVerdict k h h' i

-- formula k of an accepted rule, in a run of its own
pub record Alone (rule : List ℕ) (k : ℕ) : Type 0 where
  -- its rule is of version 1, has the entries of that formula alone, and is accepted
  pub version_is : version (rule_alone rule k) ≡ 1
  pub entries_are : entries (rule_alone rule k) ≡ take (size (formula (formulas_of rule) k)) (drop (start (formulas_of rule) k) (entries rule))
  pub accepted : refusal (rule_alone rule k) ≡ 0
  pub reads : formulas_of (rule_alone rule k) ≡ formula (formulas_of rule) k ∷ []
  -- it has answered each position that has a verdict in the run of all, on every log, closed or open
  pub no_fewer : (closed : Bool) (log : List ℕ) (n : ℕ) → answered_number closed rule log n ≤ answered_number closed (rule_alone rule k) log n
  -- with the same verdict
  pub same : (log : List ℕ) → Untouched log → (h : List Call) (point : List ℕ) → Calls rule log h point →
      (h' : List Call) (point' : List ℕ) → Calls (rule_alone rule k) log h' point' → SameVerdicts k h h'
  -- also where the lists brought different records, or one closed and one did not
  pub same_comparable : (log : List ℕ) → Untouched log → (h : List Call) (point : List ℕ) → Calls rule log h point →
      (h' : List Call) (point' : List ℕ) → Calls (rule_alone rule k) log h' point' → SameWhereComparable rule log k h h'
