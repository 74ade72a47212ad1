-- What `open` promises, for every rule and every lent checkpoint.
use Rattle.std.specs.Prelude.{ℕ, Bool, true, false, ◌≡◌, List, ltb, length, drop, Result, Ok, Err}
use Rattle.mtl.specs.Log.{Log}
use Rattle.checkpoint.specs.Checkpoint.{last, log_kind, need}
use Rattle.checks.specs.Refusal.{open_refusal}
use Rattle.monitor.specs.Stands.{Stands}
use Rattle.refusal.specs.declared.Refusal.{Refusal}
use Rattle.refusal.specs.Number.{number_of}

-- the paper's number for each case, 0 or the refusal's; `refused` tells the cases apart
pub record Answer : Type 0 where
  pub refused : Bool
  pub number : ℕ

abbrev pub done : Answer
done = record { refused = false; number = 0 }

abbrev pub refused_with : ℕ → Answer
refused_with n = record { refused = true; number = n }

abbrev pub answer : Result (Unit {0}) Refusal → Answer
answer (Ok u) = done
answer (Err refusal) = refused_with (number_of refusal)

-- for a rule and so many lent words
abbrev pub opened : (rule : List ℕ) (lent : ℕ) → Answer
opened rule lent = record { refused = ltb 0 (open_refusal rule lent); number = open_refusal rule lent }

-- a fresh point stands for the rule on an open log with no record, with no verdict given, no last time and no log's version, and "words
-- beyond the need are not touched"; a refused call: ".. point .. keep their bytes"
abbrev pub Opening : (refused : Bool) (rule p p' : List ℕ) → Type 0
Opening false rule p p' =
    (drop (need rule) p' ≡ drop (need rule) p) × (last p' ≡ 0) × (log_kind p' ≡ 0) ×
    ((L : Log) → L.size ≡ 0 → L.closed ≡ false → Stands rule L 0 0 p')
Opening true rule p p' = p' ≡ p

-- what the call promises
pub record Opens (rule p : List ℕ) (a : Answer) (p' : List ℕ) : Type 0 where
  pub outcome : a ≡ opened rule (length p)
  pub length : length p' ≡ length p
  pub words : Opening a.refused rule p p'
