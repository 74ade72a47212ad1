-- What `status` promises: what a card has to know of a checkpoint, and before which record everything may be overwritten.
use Rattle.std.specs.Prelude.{ℕ, Bool, true, false, cond, List, eqb, ltb, Result, Ok, Err}
use Rattle.checkpoint.specs.Checkpoint.{given, seen, closed_with, first_wanted}
use Rattle.checks.specs.Refusal.{summary_refusal}
use Rattle.monitor.specs.declared.Standing.{Standing}
use Rattle.refusal.specs.declared.Refusal.{Refusal}
use Rattle.refusal.specs.Number.{number_of}

-- the verdicts given, the records seen, the first record still wanted, and whether a closing was accepted
pub record StatusFacts : Type 0 where
  pub given : ℕ
  pub seen : ℕ
  pub wanted : ℕ
  pub closed : Bool

-- as the checkpoint has them
abbrev pub stored_facts : (point : List ℕ) → StatusFacts
stored_facts p = record { given = given p; seen = seen p; wanted = first_wanted p; closed = ltb 0 (closed_with p) }

-- the number and the values for each case; `refused` tells the cases apart
pub record Answer : Type 0 where
  pub refused : Bool
  pub number : ℕ
  pub facts : StatusFacts

abbrev pub told : StatusFacts → Answer
told f = record { refused = false; number = 0; facts = f }

abbrev pub refused_with : ℕ → Answer
refused_with n = record { refused = true; number = n; facts = record { given = 0; seen = 0; wanted = 0; closed = false } }

abbrev pub answer : Result Standing Refusal → Answer
answer (Ok s) = told (record { given = s.given; seen = s.seen; wanted = s.wanted; closed = s.closed })
answer (Err refusal) = refused_with (number_of refusal)

-- with summary's checks, 1 to 11
abbrev pub known : (rule point : List ℕ) → Answer
known rule p = cond (eqb (summary_refusal rule p) 0) (told (stored_facts p)) (refused_with (summary_refusal rule p))
