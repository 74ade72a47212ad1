-- What `resume` (document 01's carry on) and `close` (document 02, paper 9) promise, for every rule, log, checkpoint and verdict buffer (sheet).
use Rattle.std.specs.Prelude.{ℕ, suc, ◌+◌, ◌-◌, ◌≤◌, ◌<◌, min, Bool, true, false, cond, ◌≡◌, List, length, get_or, drop, ltb, eqb, Result, Ok, Err}
use Rattle.mtl.specs.Log.{Log, Placed, NeverFalls, Continues}
use Rattle.mtl.specs.Progress.{joint_progress}
use Rattle.mtl.specs.Wanted.{wanted}
use Rattle.trace.specs.Format.{skips_of, dropped, records_of, total_records, records_from}
use Rattle.trace.specs.Order.{last_time}
use Rattle.window.specs.View.{view_of}
use Rattle.blocks.specs.Block.{Forward}
use Rattle.blocks.specs.Step.{Agrees}
use Rattle.verdicts.specs.Counts.{noes_in, laid_behind}
use Rattle.rule.specs.Entries.{version, decoded}
use Rattle.rule.specs.Entries.{count as entry_count}
use Rattle.rule.specs.Postfix.{most_formulas}
use Rattle.rule.specs.Words.{header_words}
use Rattle.checkpoint.specs.Checkpoint.{given, seen, last, closed_with, log_kind, kind_of_log, first_wanted, no_count, after_latest, stored_noes, need, block_at, foreign}
use Rattle.checks.specs.Refusal.{resume_refusal}
use Rattle.meaning.specs.Verdicts.{formulas_of, columns, verdict}
use Rattle.monitor.specs.Stands.{Stands}
use Rattle.emit.specs.declared.Emitted.{Emitted}
use Rattle.refusal.specs.declared.Refusal.{Refusal}
use Rattle.refusal.specs.Number.{number_of}

-- the paper's number and values for each case: 0 or the refusal's; c; whether there is "more". `refused` tells the cases apart.
pub record Answer : Type 0 where
  pub refused : Bool
  pub number : ℕ
  pub count : ℕ
  pub more : Bool

abbrev pub gave : (c : ℕ) (more : Bool) → Answer
gave c more = record { refused = false; number = 0; count = c; more = more }

-- "Every refusal returns its number only"
abbrev pub refused_with : ℕ → Answer
refused_with n = record { refused = true; number = n; count = 0; more = false }

abbrev pub answer : Result Emitted Refusal → Answer
answer (Ok r) = gave r.count r.more
answer (Err refusal) = refused_with (number_of refusal)

-- "Each call yields either its result or one refusal": by the refusal's number, or 0
abbrev pub result_or_refusal : (number c : ℕ) (more : Bool) → Answer
result_or_refusal number c more = cond (eqb number 0) (gave c more) (refused_with number)

-- "Carry on writes c verdicts, c the smaller of A - d and the sheet's length .. It gives c and 'more' if A > d + c"
pub record Gives (rule : List ℕ) (L : Log) (n d : ℕ) (sheet : List ℕ) (c : ℕ) (m : Bool) (p' sheet' : List ℕ) : Type 0 where
  pub count : c ≡ min (joint_progress (formulas_of rule) L - d) (length sheet)
  pub bytes : (i : ℕ) → i < c → get_or sheet' i 0 ≡ verdict (formulas_of rule) L (d + i)
  pub more : m ≡ ltb (d + c) (joint_progress (formulas_of rule) L)
  pub stands : Stands rule L n (d + c) p'

-- the block of entry k
abbrev pub block_of : (rule : List ℕ) (k : ℕ) → List ℕ → List ℕ
block_of rule k p = drop (block_at (header_words (version rule)) (decoded rule) k) p

-- the records from the first still wanted on: those before it may have been overwritten or dropped
abbrev pub wanted_records : (log p : List ℕ) → List ℕ
wanted_records log p = records_from log (first_wanted p)

-- an accepted call: what holds on any words, and `meaning`, where the checkpoint stands for the rule and a log as it was last
-- seen, the log brought continues it, and the records from the first still wanted on are its own
pub record AcceptedCall (closing : Bool) (rule log p sheet : List ℕ) (c : ℕ) (more : Bool) (p' sheet' : List ℕ) : Type 0 where
  pub room : c ≤ length sheet
  pub rest : drop c sheet' ≡ drop c sheet
  pub beyond : drop (need rule) p' ≡ drop (need rule) p
  pub count : given p' ≡ given p + c
  pub size : seen p' ≡ total_records log
  pub time : last p' ≡ last_time (records_of log) (seen p - dropped log) (last p)
  pub closed : closed_with p' ≡ cond closing (suc (total_records log)) 0
  pub kind : log_kind p' ≡ kind_of_log (skips_of log)
  -- the first record still wanted does not go back, whatever the words hold
  pub onward : (first_wanted p ≤ first_wanted p') × (first_wanted p' ≤ seen p')
  -- the no of each formula among the bytes written, behind those from before
  pub noes : (k : ℕ) → k < columns (formulas_of rule) →
      stored_noes (most_formulas (version rule)) p' k ≡ laid_behind (stored_noes (most_formulas (version rule)) p k) (given p) (noes_in k sheet' c)
  -- where the rule has no formula k, both words of its counts are kept
  pub unused : (k : ℕ) → columns (formulas_of rule) ≤ k → k < most_formulas (version rule) →
      (no_count p' k ≡ no_count p k) × (after_latest (most_formulas (version rule)) p' k ≡ after_latest (most_formulas (version rule)) p k)
  -- the copy of the rule is kept, whatever else the words hold: as this call does not meet 10, no later one with the rule does
  pub own : foreign (version rule) (decoded rule) (entry_count rule) p' ≡ foreign (version rule) (decoded rule) (entry_count rule) p
  -- no head goes back, whatever the words hold
  pub heads : (k : ℕ) → k < entry_count rule → Forward (block_of rule k p) (block_of rule k p')
  -- (`Placed` says of the log brought what `Stands` says of the one seen)
  pub meaning : (K L : Log) (n d : ℕ) → Stands rule K n d p → Continues K L → NeverFalls L → Placed L (total_records log) →
      Agrees (view_of (first_wanted p) (wanted (formulas_of rule) d) (skips_of log) closing (wanted_records log p)) (wanted_records log p) L (wanted (formulas_of rule) d) →
      Gives rule L (total_records log) d sheet c more p' sheet'

-- an accepted call, or a refused one
abbrev pub Resuming : (refused closing : Bool) (rule log p sheet : List ℕ) (c : ℕ) (more : Bool) (p' sheet' : List ℕ) → Type 0
Resuming false closing rule log p sheet c more p' sheet' = AcceptedCall closing rule log p sheet c more p' sheet'
-- "rule, log, point and sheet keep their bytes"
Resuming true closing rule log p sheet c more p' sheet' = (p' ≡ p) × (sheet' ≡ sheet)

-- what both calls promise
pub record Resumes (closing : Bool) (rule log p sheet : List ℕ) (a : Answer) (p' sheet' : List ℕ) : Type 0 where
  pub outcome : a ≡ result_or_refusal (resume_refusal closing rule log p) a.count a.more
  pub point_length : length p' ≡ length p
  pub sheet_length : length sheet' ≡ length sheet
  pub words : Resuming a.refused closing rule log p sheet a.count a.more p' sheet'
