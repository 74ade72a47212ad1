-- What `worst_log` promises, for every number and every lent buffer.
use Rattle.std.specs.Prelude.{ℕ, cond, List, ◌++◌, ◌≡◌, eqb, length, drop, Result, Ok, Err}
use Rattle.worst.specs.Written.{worst_bytes}
use Rattle.trace.specs.Making.{log_length}
use Rattle.worst.specs.Refusal.{worst_refusal}
use Rattle.refusal.specs.declared.Refusal.{Refusal}
use Rattle.refusal.specs.Number.{number_of}

-- "a call that writes a rule, a log or a text gives its length too", or a refusal's number
pub record Answer : Type 0 where
  pub number : ℕ
  pub length : ℕ

-- the paper's number and value for each case
abbrev pub answer : Result ℕ Refusal → Answer
answer (Ok l) = record { number = 0; length = l }
answer (Err refusal) = record { number = number_of refusal; length = 0 }

module _ (low high n lent : ℕ) where
  -- x where the call writes the log, else y
  abbrev pub if_written : {A : Type 0} → A → A → A
  if_written x y = cond (eqb (worst_refusal low high n lent) 0) x y

  -- the log's length, or the refusal's number
  abbrev pub the_answer : Answer
  the_answer =
      if_written (record { number = 0; length = log_length n }) (record { number = worst_refusal low high n lent; length = 0 })

-- the lent bytes afterwards: "In every lent buffer the bytes behind what a call writes are kept"; a refused call writes nothing
abbrev pub buffer_after : (low high n : ℕ) (log : List ℕ) → List ℕ
buffer_after low high n log = if_written low high n (length log) (worst_bytes high n ++ drop (log_length n) log) log

-- what the call promises
pub record WritesWorst (low high n : ℕ) (log : List ℕ) (r : Result ℕ Refusal) (log' : List ℕ) : Type 0 where
  pub answer : answer r ≡ the_answer low high n (length log)
  pub bytes : log' ≡ buffer_after low high n log
