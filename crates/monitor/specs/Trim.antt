-- What `trim` (document 02, paper 11's trimming) promises, for every rule, log, checkpoint and lent buffer. The checkpoint is lent to be read:
-- "The point keeps its words."
use Rattle.std.specs.Prelude.{ℕ, Bool, true, false, cond, ◌≡◌, List, length, eqb, Result, Ok, Err}
use Rattle.trace.specs.Making.{trimmed, put}
use Rattle.checkpoint.specs.Checkpoint.{first_wanted}
use Rattle.checks.specs.Refusal.{trim_refusal}
use Rattle.refusal.specs.declared.Refusal.{Refusal}
use Rattle.refusal.specs.Number.{number_of}

-- the paper's number for each case, 0 or the refusal's, and how many bytes were written. `refused` tells the cases apart.
pub record Answer : Type 0 where
  pub refused : Bool
  pub number : ℕ
  pub written : ℕ

abbrev pub wrote : ℕ → Answer
wrote n = record { refused = false; number = 0; written = n }

-- "Every refusal returns its number only"
abbrev pub refused_with : ℕ → Answer
refused_with n = record { refused = true; number = n; written = 0 }

abbrev pub answer : Result ℕ Refusal → Answer
answer (Ok n) = wrote n
answer (Err refusal) = refused_with (number_of refusal)

-- "writes a version 3 log into another lent buffer: .. the records from the first wanted"
abbrev pub trimmed_log : (log p : List ℕ) → List ℕ
trimmed_log log p = trimmed log (first_wanted p)

-- into a buffer of so many bytes
abbrev pub trimming : (rule log p : List ℕ) (lent : ℕ) → Answer
trimming rule log p lent =
    cond (eqb (trim_refusal rule log p lent) 0) (wrote (length (trimmed_log log p))) (refused_with (trim_refusal rule log p lent))

-- what the call promises
pub record Trims (rule log p out : List ℕ) (a : Answer) (out' : List ℕ) : Type 0 where
  pub outcome : a ≡ trimming rule log p (length out)
  -- the buffer's other bytes are kept, and all of them by a refused call
  pub bytes : out' ≡ cond a.refused out (put out 0 (trimmed_log log p))
