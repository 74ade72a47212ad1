-- What the outcome of a resume, a trimming, an explanation or a summary makes of the exported function's promise.
use Prim.Native.Nat.{ℕ, ◌<◌}
use mathlib.Core.Bool.{Bool, true, false, cond}
use mathlib.Core.Path.{◌≡◌, refl, sym, ◌∙◌, ap}
use mathlib.Core.List.{List}
use native.Mathlib.Omega.{arith}
use borrow.Author.Tests.{eqb-true, eqb-false, ne_eqb}
use lib.Dec.{eqb}
use lib.ListN.{length}
use Rattle.std.specs.Prelude.{Result, Ok, Err}
use Rattle.refusal.specs.declared.Refusal.{Refusal}
use Rattle.refusal.specs.Number.{number_of}
use Rattle.refusal.specs.Number.{number as number_in}
use Rattle.refusal.proofs.Numbers.{number_positive}
use Rattle.rule.specs.Entries.{version}
use Rattle.rule.specs.Postfix.{most_formulas}
use Rattle.trace.specs.Making.{put}
use Rattle.verdicts.specs.Tally.{first_or_kept, Tallies}
use Rattle.verdicts.specs.Tally.{Answer as Tally, answer as tallied_of}
use Rattle.checkpoint.specs.Checkpoint.{stored_noes}
use Rattle.checks.specs.Refusal.{resume_refusal, trim_refusal, summary_refusal}
use Rattle.meaning.specs.Verdicts.{formulas_of, columns}
use Rattle.monitor.specs.Resume.{gave, Resumes}
use Rattle.monitor.specs.Resume.{Answer as ResumeAnswer, refused_with as resume_refused}
use Rattle.monitor.proofs.Answers.{resume_number}
use Rattle.monitor.specs.Trim.{wrote, trimmed_log, Trims}
use Rattle.monitor.specs.Trim.{answer as trimmed_of, refused_with as not_trimmed_with}
use Rattle.monitor.specs.Summary.{counts_of, latest_words, counted, Summarizes}
use Rattle.monitor.specs.Summary.{Answer as SummaryAnswer, answer as summarized_of, refused_with as not_counted_with}
use Rattle.explain.specs.Explain.{reason_text, explain_refusal, Explains}
use Rattle.explain.specs.Explain.{Answer as Explanation}
use Rattle.text.specs.Parse.{Parses}
use Rattle.worst.specs.Call.{WritesWorst}
use Rattle.worst.specs.Call.{Answer as Making}
use Rattle.havdrims.specs.Interface.{or_kept, flag, HandsOver, ResumeCall, TrimCall, ExplainCall, TallyCall, SummaryCall, ParseCall, WorstLogCall}

-- a refusal's number keeps what stood behind the pointer
kept : {A : Type 0} (refusal : Refusal) (old new : A) → old ≡ or_kept (number_of refusal) old new
kept refusal old new = let some = number_positive refusal in rw (ne_eqb (number_of refusal) 0 (omega arith))

-- an answer is refused where its number is not 0
by_number : {A : Type 0} (b : Bool) (n : ℕ) (a : ResumeAnswer) (old new : A) → a ≡ cond b (gave a.count a.more) (resume_refused n) →
    cond a.refused old new ≡ cond b new old
by_number true n a old new e = rw (ap (λ (x : ResumeAnswer). x.refused) e)
by_number false n a old new e = rw (ap (λ (x : ResumeAnswer). x.refused) e)

pub resuming : {closing : Bool} {rule log p sheet : List ℕ} {c m : ℕ} {a : ResumeAnswer} {p' sheet' : List ℕ} {r c' m' : ℕ} →
    Resumes closing rule log p sheet a p' sheet' → HandsOver a c m r c' m' → ResumeCall closing rule log p sheet c m r p' sheet' c' m'
resuming {closing} {rule} {log} {p} {c = c} {m = m} {a = a} h handed =
    let n = resume_refusal closing rule log p in
    let number = handed.number ∙ resume_number h in
    record {
      number = number;
      answer = a;
      resumes = h;
      given = rw number (handed.given ∙ by_number (eqb n 0) n a c a.count h.outcome);
      more = rw number (handed.more ∙ by_number (eqb n 0) n a m (flag a.more) h.outcome);
    }

-- an accepted trimming has the number 0 and what was written, a refused one the refusal's number
trimmed_by : (n l size : ℕ) → wrote l ≡ cond (eqb n 0) (wrote size) (not_trimmed_with n) → (0 ≡ n) × (l ≡ size)
trimmed_by n l size e = grind (arith, eqb-true, eqb-false)

untrimmed_by : (n m size : ℕ) → not_trimmed_with m ≡ cond (eqb n 0) (wrote size) (not_trimmed_with n) → m ≡ n
untrimmed_by n m size e = grind (arith, eqb-true, eqb-false)

module _ {rule log p out : List ℕ} {old : ℕ} {out' : List ℕ} where
  pub is_trimmed : {l : ℕ} → Trims rule log p out (trimmed_of (Ok l)) out' → TrimCall rule log p out old 0 out' l
  is_trimmed {l} h =
      let (number, size) = trimmed_by (trim_refusal rule log p (length out)) l (length (trimmed_log log p)) h.outcome in
      record { number = number; bytes = h.bytes; written = size }

  pub not_trimmed : (refusal : Refusal) {r : ℕ} → Trims rule log p out (trimmed_of (Err refusal)) out' → r ≡ number_of refusal →
      TrimCall rule log p out old r out' old
  not_trimmed refusal h is =
      let n = trim_refusal rule log p (length out) in
      let size = length (trimmed_log log p) in
      rw is
      (record {
        number = untrimmed_by n (number_of refusal) size h.outcome;
        bytes = h.bytes ∙ kept refusal out (put out 0 (trimmed_log log p));
        written = kept refusal old size;
      })

-- an explanation likewise, with the length of its text
abbrev explanation : (number length : ℕ) → Explanation
explanation n l = record { number = n; length = l }

explained_by : (n l size : ℕ) → explanation 0 l ≡ cond (eqb n 0) (explanation 0 size) (explanation n 0) → (0 ≡ n) × (l ≡ size)
explained_by n l size e = grind (arith, eqb-true, eqb-false)

unexplained_by : (n m size : ℕ) → 0 < m → explanation m 0 ≡ cond (eqb n 0) (explanation 0 size) (explanation n 0) → m ≡ n
unexplained_by n m size some e = grind (arith, eqb-true, eqb-false)

module _ {rule log : List ℕ} {k i : ℕ} {out : List ℕ} {old : ℕ} {out' : List ℕ} where
  pub is_explained : {l : ℕ} → Explains rule log k i out (Ok l) out' → ExplainCall rule log k i out old 0 out' l
  is_explained {l} h =
      let (number, size) = explained_by (explain_refusal rule log k i (length out)) l (length (reason_text rule log k i)) h.answer in
      record { number = number; bytes = h.bytes; written = size }

  pub not_explained : (refusal : Refusal) {r : ℕ} → Explains rule log k i out (Err refusal) out' → r ≡ number_of refusal →
      ExplainCall rule log k i out old r out' old
  not_explained refusal h is =
      let n = explain_refusal rule log k i (length out) in
      let size = length (reason_text rule log k i) in
      rw is
      (record {
        number = unexplained_by n (number_of refusal) size (number_positive refusal) h.answer;
        bytes = h.bytes;
        written = kept refusal old size;
      })

-- a parsing likewise, and the making of a worst log
module _ {text rule : List ℕ} {old : ℕ} {rule' : List ℕ} where
  pub is_parsed : {n : ℕ} → Parses text rule (Ok n) rule' → ParseCall text rule old 0 rule' n
  is_parsed {n} h = record { outcome = Ok n; parses = h; number = refl; written = refl }

  pub not_parsed : (refusal : Refusal) {r : ℕ} → Parses text rule (Err refusal) rule' → r ≡ number_of refusal →
      ParseCall text rule old r rule' old
  not_parsed refusal h is = rw is (record { outcome = Err refusal; parses = h; number = refl; written = kept refusal old 0 })

module _ {low high n : ℕ} {log : List ℕ} {old : ℕ} {log' : List ℕ} where
  pub is_made : {l : ℕ} → WritesWorst low high n log (Ok l) log' → WorstLogCall low high n log old 0 log' l
  is_made h =
      record { number = ap (λ (a : Making). a.number) h.answer; bytes = h.bytes; written = ap (λ (a : Making). a.length) h.answer }

  pub not_made : (refusal : Refusal) {r : ℕ} → WritesWorst low high n log (Err refusal) log' → r ≡ number_of refusal →
      WorstLogCall low high n log old r log' old
  not_made refusal h is =
      rw is (record { number = ap (λ (a : Making). a.number) h.answer; bytes = h.bytes; written = kept refusal old _ })

-- the counts stand in the first words where the number is 0, and all words are kept where it is not
pub tallying : {formulas : ℕ} {s nos yeses : List ℕ} (o : Result (Unit {0}) Refusal) {nos' yeses' : List ℕ} {r : ℕ} →
    Tallies formulas s nos yeses (tallied_of o) nos' yeses' → r ≡ number_in o → TallyCall formulas s nos yeses r nos' yeses'
tallying (Ok done) h is = record { number = is ∙ ap (λ (a : Tally). a.number) h.outcome; no_counts = rw is h.no_counts; yes_counts = rw is h.yes_counts }
tallying (Err refusal) h is = record { number = is ∙ ap (λ (a : Tally). a.number) h.outcome; no_counts = rw is h.no_counts; yes_counts = rw is h.yes_counts }

-- the number of a summary, and what it tells: by whether its refusal's number n is 0
summarized_by : (b : Bool) (n f : ℕ) (a : SummaryAnswer) → eqb n 0 ≡ b → a ≡ cond b (counted f) (not_counted_with n) → a.number ≡ n
summarized_by true n f a z e = ap (λ (x : SummaryAnswer). x.number) e ∙ sym (eqb-true n 0 z)
summarized_by false n f a z e = ap (λ (x : SummaryAnswer). x.number) e

told_by : (b : Bool) (n f : ℕ) (a : SummaryAnswer) (old : List ℕ) (first : ℕ → List ℕ) → eqb n 0 ≡ b →
    a ≡ cond b (counted f) (not_counted_with n) → first_or_kept a.number a.formulas old (first a.formulas) ≡ first_or_kept n f old (first f)
told_by true n f a old first z e = rw (e, z)
told_by false n f a old first z e = rw (e, z)

numbered : (o : Result ℕ Refusal) → number_in o ≡ (summarized_of o).number
numbered (Ok f) = refl
numbered (Err refusal) = refl

pub summarizing : {s p nos latest : List ℕ} (o : Result ℕ Refusal) {nos' latest' : List ℕ} {r : ℕ} →
    Summarizes s p nos latest (summarized_of o) nos' latest' → r ≡ number_in o → SummaryCall s p nos latest r nos' latest'
summarizing {s} {p} {nos} {latest} o {r = r} h is =
    let n = summary_refusal s p in
    let f = columns (formulas_of s) in
    let noes = stored_noes (most_formulas (version s)) p in
    let number : r ≡ n = is ∙ numbered o ∙ summarized_by (eqb n 0) n f (summarized_of o) refl h.outcome in
    record {
      number = number;
      words = rw number (
        h.words.0 ∙ told_by (eqb n 0) n f (summarized_of o) nos (counts_of noes) refl h.outcome,
        h.words.1 ∙ told_by (eqb n 0) n f (summarized_of o) latest (latest_words noes) refl h.outcome,
      );
    }
