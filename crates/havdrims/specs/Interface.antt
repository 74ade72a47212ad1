-- What the exported functions promise, in terms of the calls' own definitions: the number returned, and each lent byte, word and
-- number afterwards. Where the number is not 0, the numbers behind the pointers are kept.
use Rattle.std.specs.Prelude.{ℕ, Bool, true, false, cond, ◌≡◌, List, eqb, ltb, length, Result}
use Rattle.refusal.specs.declared.Refusal.{Refusal}
use Rattle.bits.specs.Packed.{number}
use Rattle.rule.specs.Entries.{version}
use Rattle.rule.specs.Postfix.{most_formulas}
use Rattle.rule.specs.Measure.{measured}
use Rattle.verdicts.specs.Counts.{counts}
use Rattle.verdicts.specs.Tally.{tally_refusal, first_or_kept}
use Rattle.checkpoint.specs.Checkpoint.{stored_noes}
use Rattle.trace.specs.Making.{put}
use Rattle.checks.specs.Refusal.{open_refusal, resume_refusal, trim_refusal, summary_refusal}
use Rattle.meaning.specs.Verdicts.{formulas_of, columns}
use Rattle.monitor.specs.Open.{Opening}
use Rattle.monitor.specs.Resume.{Resumes}
use Rattle.monitor.specs.Resume.{Answer as ResumeAnswer}
use Rattle.monitor.specs.Trim.{trimmed_log}
use Rattle.monitor.specs.Summary.{TellsNoes}
use Rattle.monitor.specs.Formulas.{formula_count}
use Rattle.monitor.specs.Status.{known}
use Rattle.text.specs.Parse.{answer, Parses}
use Rattle.worst.specs.Call.{the_answer, buffer_after}
use Rattle.simulation.specs.Simulate.{simulated, log_after}
use Rattle.simulation.specs.declared.Settings.{Settings}
use Rattle.explain.specs.Explain.{reason_text, explain_refusal, text_after}

-- the new value where the call was accepted, else the old one
abbrev pub or_kept : {A : Type 0} → (number : ℕ) (old new : A) → A
or_kept number old new = cond (eqb number 0) new old

-- 1 for more, 0 for caught up; 1 for closed, 0 for open
abbrev pub flag : Bool → ℕ
flag more = number more

pub record MeasureCall (rule : List ℕ) (w far r w' far' : ℕ) : Type 0 where
  pub number : r ≡ (measured rule).number
  pub words : w' ≡ or_kept r w (measured rule).words
  pub reach : far' ≡ or_kept r far (measured rule).reach

pub record OpenCall (rule p : List ℕ) (r : ℕ) (p' : List ℕ) : Type 0 where
  pub number : r ≡ open_refusal rule (length p)
  pub length : length p' ≡ length p
  pub words : Opening (ltb 0 r) rule p p'

-- what a resume or a closing that answers a makes of the numbers behind the last pointers
pub record HandsOver (a : ResumeAnswer) (c m r c' m' : ℕ) : Type 0 where
  pub number : r ≡ a.number
  pub given : c' ≡ cond a.refused c a.count
  pub more : m' ≡ cond a.refused m (flag a.more)

-- a resume, or a closing: its count and its "more" are what `Resumes` says of them
pub record ResumeCall (closing : Bool) (rule log p sheet : List ℕ) (c m r : ℕ) (p' sheet' : List ℕ) (c' m' : ℕ) : Type 0 where
  pub number : r ≡ resume_refusal closing rule log p
  pub answer : ResumeAnswer
  pub resumes : Resumes closing rule log p sheet answer p' sheet'
  pub given : c' ≡ or_kept r c answer.count
  pub more : m' ≡ or_kept r m (flag answer.more)

pub record TrimCall (rule log p out : List ℕ) (w r : ℕ) (out' : List ℕ) (w' : ℕ) : Type 0 where
  pub number : r ≡ trim_refusal rule log p (length out)
  pub bytes : out' ≡ or_kept r out (put out 0 (trimmed_log log p))
  pub written : w' ≡ or_kept r w (length (trimmed_log log p))

pub record ExplainCall (rule log : List ℕ) (k i : ℕ) (out : List ℕ) (w r : ℕ) (out' : List ℕ) (w' : ℕ) : Type 0 where
  pub number : r ≡ explain_refusal rule log k i (length out)
  pub bytes : out' ≡ text_after rule log k i out
  pub written : w' ≡ or_kept r w (length (reason_text rule log k i))

-- for formula k the count of no stands in word k of the one buffer, and that of yes in word k of the other
pub record TallyCall (formulas : ℕ) (sheet nos yeses : List ℕ) (r : ℕ) (nos' yeses' : List ℕ) : Type 0 where
  pub number : r ≡ tally_refusal formulas sheet
  pub no_counts : nos' ≡ first_or_kept r formulas nos (counts false formulas sheet)
  pub yes_counts : yeses' ≡ first_or_kept r formulas yeses (counts true formulas sheet)

-- for formula k the count of no stands in word k of the one buffer, and the position of the latest no in word k of the other
pub record SummaryCall (rule p nos places : List ℕ) (r : ℕ) (nos' places' : List ℕ) : Type 0 where
  pub number : r ≡ summary_refusal rule p
  pub words : TellsNoes r (columns (formulas_of rule)) (stored_noes (most_formulas (version rule)) p) nos places nos' places'

-- how many answers a verdict of the rule has
pub record FormulasCall (rule : List ℕ) (n r n' : ℕ) : Type 0 where
  pub number : r ≡ (formula_count rule).number
  pub formulas : n' ≡ or_kept r n (formula_count rule).formulas

pub record StatusCall (rule p : List ℕ) (d n w ended r d' n' w' ended' : ℕ) : Type 0 where
  pub number : r ≡ (known rule p).number
  pub given : d' ≡ or_kept r d (known rule p).facts.given
  pub seen : n' ≡ or_kept r n (known rule p).facts.seen
  pub wanted : w' ≡ or_kept r w (known rule p).facts.wanted
  pub closed : ended' ≡ or_kept r ended (flag (known rule p).facts.closed)

pub record ParseCall (text rule : List ℕ) (n r : ℕ) (rule' : List ℕ) (n' : ℕ) : Type 0 where
  pub outcome : Result ℕ Refusal
  pub parses : Parses text rule outcome rule'
  pub number : r ≡ (answer outcome).number
  pub written : n' ≡ or_kept r n (answer outcome).written

pub record WorstLogCall (low high n : ℕ) (log : List ℕ) (w r : ℕ) (log' : List ℕ) (w' : ℕ) : Type 0 where
  pub number : r ≡ (the_answer low high n (length log)).number
  pub written : w' ≡ or_kept r w (the_answer low high n (length log)).length
  pub bytes : log' ≡ buffer_after low high n log

-- the four settings, as they are handed over one by one
abbrev pub settings : (warm_up print_time switch_off mean_gap : ℕ) → Settings
settings w p o g = record { warmup = w; print = p; switchoff = o; gap = g }

pub record SimulateCall (s : Settings) (seconds seed : ℕ) (log : List ℕ) (w f p q r : ℕ) (log' : List ℕ) (w' f' p' q' : ℕ) : Type 0 where
  pub number : r ≡ (simulated s seconds seed (length log)).number
  pub bytes : log' ≡ log_after s seconds seed log
  pub written : w' ≡ or_kept r w (simulated s seconds seed (length log)).written
  pub finished : f' ≡ or_kept r f (simulated s seconds seed (length log)).finished
  pub printing : p' ≡ or_kept r p (simulated s seconds seed (length log)).printing
  pub waiting : q' ≡ or_kept r q (simulated s seconds seed (length log)).waiting
