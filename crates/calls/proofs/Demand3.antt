-- The theorem of demand 3, stated in specs/Calls.antt, by induction on the list of calls. Assumes nothing.
use Prim.Native.Nat.{ℕ, suc, ◌+◌, ◌*◌, ◌-◌, ◌≤◌, ◌<◌, min}
use mathlib.Core.Bool.{Bool, true, false, cond, false≢true}
use mathlib.Core.Bool.{not as negate}
use mathlib.Core.Logic.{◌⊎◌, inl, inr, ⊎_elim, ⊎_map}
use mathlib.Core.Path.{◌≡◌, refl, sym, ◌∙◌, ap, ap₂, subst}
use mathlib.Core.List.{List, [], ◌∷◌, ◌++◌}
use native.Mathlib.Nat.{le_of_eq, zero-add}
use native.Mathlib.Omega.{arith}
use lib.ListN.{length, take, drop, take-append-drop}
use lib.Seq.{get_or-take, length-take-le, take-take, take_all, drop_at}
use lib.Dec.{leb, ltb, eqb}
use borrow.Author.Tests.{le-leb, leb-true, le-ltb, lt-ltb, ltb-true, ltb-false, eq-eqb, eqb-true}
use Rattle.mtl.specs.Log.{Log, closing, Placed, NeverFalls, Agree, Continues}
use Rattle.mtl.specs.Wanted.{wanted, wanted_record}
use Rattle.mtl.proofs.Bounded.{same_test, le_or_lt}
use Rattle.verdicts.specs.Counts.{noes_in}
use Rattle.rule.specs.Entries.{version, count, decoded}
use Rattle.rule.specs.Postfix.{most_formulas}
use Rattle.rule.specs.Refusal.{first, or_else as numbered_before, refusal}
use Rattle.rule.specs.Measure.{measured}
use Rattle.rule.proofs.Headers.{before_none}
use Rattle.trace.specs.Format.{record_count, time_at, skips_of, dropped, records_of, total_records, records_from}
use Rattle.trace.specs.Positions.{place, before}
use Rattle.trace.specs.Log.{log_of}
use Rattle.trace.specs.Order.{disordered, last_time}
use Rattle.window.specs.View.{view_of, Shows}
use Rattle.trace.specs.Making.{trimmed}
use Rattle.trace.proofs.Laws.{well_formed_iff, Keeps, ordered_iff, same_time, count_prefix}
use Rattle.trace.proofs.Positions.{before_few, log_placed, positions_keep, wanted_place, wanted_counts}
use Rattle.trace.proofs.Parts.{Part, Cut, prefix_part, time_part, keeps_part, before_cut}
use Rattle.window.proofs.Slices.{slice_shows, closing_shows}
use Rattle.trace.proofs.Growing.{before_stays, grown_continues}
use Rattle.trace.proofs.Trimming.{trimmed_again, cut_behind}
use Rattle.blocks.specs.Step.{Agrees}
use Rattle.checkpoint.specs.Checkpoint.{seen, last, closed_with, log_kind, kind_of_log, first_wanted, stored_noes, need, foreign, words_outside}
use Rattle.checks.specs.Refusal.{open_refusal, resumes_closed, closes_more, other_version, version_refusal, records_refusal, words_refusal, resume_refusal, trim_refusal, summary_refusal}
use Rattle.checks.proofs.Sizes.{enough_words}
use Rattle.meaning.specs.Verdicts.{formulas_of, columns, verdicts, first_records, wanted_after, answered_number, all_verdicts}
use Rattle.monitor.specs.Stands.{Stands}
use Rattle.monitor.specs.Open.{done, Opening, Opens}
use Rattle.monitor.specs.Open.{Answer as OpenAnswer}
use Rattle.monitor.specs.Resume.{Answer, gave, refused_with, result_or_refusal, wanted_records, Gives, Resuming, Resumes}
use Rattle.monitor.specs.Trim.{trimmed_log, Trims}
use Rattle.monitor.specs.Trim.{Answer as TrimAnswer}
use Rattle.monitor.specs.Summary.{counted, TellsNoes, Summarizes}
use Rattle.monitor.specs.Summary.{Answer as SummaryAnswer}
use Rattle.monitor.specs.Status.{known}
use Rattle.monitor.specs.Status.{told as known_told}
use Rattle.monitor.proofs.Answers.{open_unrefused, resume_number, resume_unrefused}
use Rattle.monitor.proofs.Summarizing.{told_same}
use Rattle.monitor.proofs.OwnCheckpoint.{own_given, own_within, not_outside}
use Rattle.monitor.proofs.VerdictBytes.{length_verdicts, verdicts_more, take_verdicts, verdicts_stay}
use Rattle.calls.specs.Calls.{Untouched, Call, given_by, brought_by, closed_by, closed_at, laid, the_call, Brings, BringsAfter, Lends, point_after, OneCall, Calls, Each, AllWhenCaughtUp, StillBrings, OneRun, Keeps as KeepsBehind, expected_refusal, grown_by, expected_trim_refusal, Demand3}
use Rattle.calls.specs.Calls.OneCall.{refused, accepted, trimming}
use Rattle.calls.specs.Calls.Calls.{opened, and_then}
use Rattle.calls.proofs.Trimming.{trim_number, trim_writes, later_brings, length_trimmed, trimmed_brings}
use Rattle.calls.proofs.Lengthened.{never_trimmed}
use Rattle.calls.proofs.Lending.{after_unchanged, after_whole, same_header, same_lent, same_alone, given_settled, stands_on}

-- REFUSALS

-- open accepts an accepted rule on enough words
open_enough : (rule : List ℕ) (lent : ℕ) → refusal rule ≡ 0 → need rule ≤ lent → open_refusal rule lent ≡ 0
open_enough rule lent fine enough = rw (eq-eqb (refusal rule) 0 fine, le-ltb lent (need rule) enough)

-- "A point of exactly the words that weigh gave is enough"
pub exactly_enough : (rule : List ℕ) → refusal rule ≡ 0 → (open_refusal rule (need rule) ≡ 0) × ((measured rule).words ≡ need rule)
exactly_enough rule fine = (open_enough rule (need rule) fine (omega arith), rw (eq-eqb (refusal rule) 0 fine))

open_accepts : (rule lent : List ℕ) (a : OpenAnswer) (p : List ℕ) → refusal rule ≡ 0 → need rule ≤ length lent → Opens rule lent a p → a ≡ done
open_accepts rule lent a p fine enough opens = rw (open_enough rule (length lent) fine enough) at opens.outcome

-- a checkpoint that stands for its rule meets none of refusals 1 to 11
words_passed : (rule : List ℕ) (K : Log) (n d : ℕ) (p : List ℕ) → refusal rule ≡ 0 → Stands rule K n d p →
    (other : ℕ) → numbered_before (open_refusal rule (length p)) (words_refusal (version rule) (decoded rule) (count rule) p other) ≡ other
words_passed rule K n d p fine stands other =
    rw (open_enough rule (length p) fine stands.enough, stands.own, not_outside rule K n d p fine stands) refl

-- refusal 9 is met before what the words, the log and the sheet hold is looked at
nine : (closing : Bool) (rule log p sheet : List ℕ) (a : Answer) (p' sheet' : List ℕ) → refusal rule ≡ 0 → length p < need rule →
    Resumes closing rule log p sheet a p' sheet' → a ≡ refused_with 9
nine closing rule log p sheet a p' sheet' fine short resumes =
    rw (eq-eqb (refusal rule) 0 fine, lt-ltb (length p) (need rule) short) at resumes.outcome

-- 20 and 21 of a point that stands for m records, closed or open, where n records are brought and no other refusal applies
number_by : (closing was : Bool) (m n w records : ℕ) → w ≡ cond was (suc m) 0 → records ≡ n →
    first 20 (resumes_closed closing w) (first 21 (closes_more closing w records) 0) ≡ expected_refusal closing was m n
number_by false false m n w records e f = rw e
number_by false true m n w records e f = rw (e, lt-ltb 0 (suc m) (omega arith))
number_by true false m n w records e f = rw e
number_by true true m n w records e f = rw (e, f, lt-ltb 0 (suc m) (omega arith), same_test (leb (suc m) n) (ltb m n) (λ h. lt-ltb m n (leb-true (suc m) n h), λ h. le-leb (suc m) n (ltb-true m n h)))

-- what is not refused brings as many records to a closed point, and closes
allowed_by : (closing was : Bool) (m n : ℕ) → m ≤ n → expected_refusal closing was m n ≡ 0 → was ≡ true → (closing ≡ true) × (m ≡ n)
allowed_by closing false m n le e c = absurd (false≢true c)
allowed_by false true m n le e c = absurd (omega arith)
allowed_by true true m n le e c =
    ⊎_elim
    (λ (some : n ≤ m). (refl, omega arith))
    (λ (more : m < n). let met : ◌≡◌ {A = ℕ} 21 0 = rw (lt-ltb m n more) at e in absurd (omega arith))
    (le_or_lt n m)

-- an open point
fresh_allowed : (closing : Bool) (m n : ℕ) → expected_refusal closing false m n ≡ 0
fresh_allowed false m n = refl
fresh_allowed true m n = refl

expected_at : (closing was : Bool) (a m n : ℕ) → (was ≡ true → a ≡ m) → expected_refusal closing was m n ≡ expected_refusal closing was a n
expected_at closing true a m n same = rw (same refl)
expected_at false false a m n same = refl
expected_at true false a m n same = refl

-- logs of the same records, closed or open
closings_agree : {K L : Log} {a b : ℕ} (was closed : Bool) → Agree K L a b → Agree (closing was K) (closing closed L) a b
closings_agree was closed same i lo hi = let at = same i lo hi in record { time = at.time; letters = at.letters; place = at.place }

-- 23 of a trimming
first_negated : (b : Bool) (n other : ℕ) → first n (negate b) other ≡ cond b other n
first_negated true n other = refl
first_negated false n other = refl

-- what is trimmed has service records
has_service : (skips : Bool) (lent size : ℕ) → expected_trim_refusal skips lent size ≡ 0 → skips ≡ true
has_service true lent size e = refl
has_service false lent size e = absurd (omega arith)

-- the version noted is this log's
kind_same : (log : List ℕ) (skips : Bool) → skips_of log ≡ skips → other_version log (kind_of_log skips) ≡ false
kind_same log true e = rw e
kind_same log false e = rw e

-- THE UNTOUCHED LOG

module _ (rule log : List ℕ) (untouched : Untouched log) where
  abbrev records : List ℕ
  records = records_of log

  -- whether service records are among them
  abbrev skips : Bool
  skips = skips_of log

  -- the first of them
  abbrev first_bytes : ℕ → List ℕ
  first_bytes n = take (8 * n) records

  first_count : (n : ℕ) → n ≤ record_count records → record_count (first_bytes n) ≡ n
  first_count n h = let eight : 8 * n ≡ n * 8 = omega arith in ap (λ k. record_count (take k records)) eight ∙ count_prefix records n h

  first_part : (m n : ℕ) → m ≤ n → Part (first_bytes n) (first_bytes m) 0
  first_part m n h = subst (λ s. Part (first_bytes n) s 0) (take-take (8 * m) (8 * n) records (omega arith)) (prefix_part (first_bytes n) (8 * m))

  first_time : (n i : ℕ) → n ≤ record_count records → i < n → time_at (first_bytes n) i ≡ time_at records i
  first_time n i h l =
      time_part records (first_bytes n) 0 (prefix_part records (8 * n)) i (omega (arith, first_count n h)) ∙ ap (time_at records) (zero-add i)

  pub first_longer : (was closed : Bool) (m n : ℕ) → m ≤ n → (was ≡ true → (closed ≡ true) × (m ≡ n)) →
      Continues (first_records was log m) (first_records closed log n)
  first_longer was closed m n h allowed =
      let grown = grown_continues (first_bytes n) (first_bytes m) (first_part m n h) skips in
      record {
        longer = grown.longer;
        same = closings_agree was closed grown.same;
        ended = λ e. let only = allowed e in (only.0, ap (λ k. (first_records false log k).size) (sym only.1));
      }

  -- no record's time lies below that of a record before it
  all_keep : Keeps records
  all_keep i j le h =
      let at : (k : ℕ) → time_at records (0 + k) ≡ time_at records k = λ k. ap (time_at records) (zero-add k) in
      let kept : time_at records (0 + i) ≤ time_at records (0 + j) = untouched.never_falls i j le h in
      omega (arith, at i, at j)

  first_keep : (n : ℕ) → Keeps (first_bytes n)
  first_keep n = keeps_part records (first_bytes n) 0 (prefix_part records (8 * n)) all_keep

  pub first_falls : (closed : Bool) (n : ℕ) → NeverFalls (first_records closed log n)
  first_falls closed n = positions_keep skips (first_bytes n) (first_keep n)

  -- they are not too many
  few_records : record_count records ≤ 1000000
  few_records = omega (arith, untouched.undropped, ((well_formed_iff log).0 untouched.well_formed).few)

  -- what a call answers after d verdicts on the first m records, where it brings n, and the sheet as it leaves it
  abbrev answer_after : (closed was : Bool) (d m n : ℕ) (sheet : List ℕ) → Answer
  answer_after closed was d m n sheet =
      let c = min (answered_number closed rule log n - d) (length sheet) in
      result_or_refusal (expected_refusal closed was m n) c (ltb (d + c) (answered_number closed rule log n))

  abbrev sheet_after : (closed was : Bool) (d m n : ℕ) (sheet : List ℕ) → List ℕ
  sheet_after closed was d m n sheet =
      let c = min (answered_number closed rule log n - d) (length sheet) in
      cond (eqb (expected_refusal closed was m n) 0) (drop d (verdicts (formulas_of rule) (first_records closed log n) (d + c)) ++ drop c sheet) sheet

  -- WHAT A CHECKPOINT HAS REACHED

  -- it was brought the first m records, closed or open, and has given d verdicts: what it stands for, the time of the last of them, and the
  -- version noted
  pub record Reached (was : Bool) (m d : ℕ) (p : List ℕ) : Type 0 where
    pub stands : Stands rule (first_records was log m) m d p
    pub time : last p ≡ cond (ltb 0 m) (time_at records (m - 1)) 0
    pub kind : (log_kind p ≡ 0) ⊎ (log_kind p ≡ kind_of_log skips)

  -- by the words that the rule needs
  module _ (fine : refusal rule ≡ 0) (was : Bool) (m d : ℕ) where
    reached_on : (p q : List ℕ) → take (need rule) p ≡ take (need rule) q → need rule ≤ length q → Reached was m d p → Reached was m d q
    reached_on p q e enough r =
        record {
          stands = stands_on rule fine (first_records was log m) m d p q e enough r.stands;
          time = same_header rule p q e 3 (omega arith) ∙ r.time;
          kind = ⊎_map (λ zero. same_header rule p q e 6 (omega arith) ∙ zero) (λ own. same_header rule p q e 6 (omega arith) ∙ own) r.kind;
        }

    reached_alone : (p : List ℕ) → Reached was m d p → Reached was m d (take (need rule) p)
    reached_alone p r =
        let enough = r.stands.enough in
        reached_on p (take (need rule) p) (same_alone rule p enough) (omega (arith, length-take-le (need rule) p enough)) r

    pub reached_lent : (point p : List ℕ) → length point ≡ need rule → Lends point p → length point ≤ length p → Reached was m d point → Reached was m d p
    reached_lent point p size lends enough r = reached_on point p (same_lent rule point p size lends enough) (omega arith) r

  -- A CALL'S LOG, where the first m records were brought and d verdicts given before it
  module _ (closed : Bool) (d m n : ℕ) (log' : List ℕ) (more : m ≤ n) (brings : Brings log (wanted_after rule log d m) n log') where
    -- the first record still wanted
    abbrev from : ℕ
    from = wanted_after rule log d m

    all_size : record_count (first_bytes n) ≡ n
    all_size = first_count n brings.within

    -- a checkpoint that has reached the first m records
    module _ (was : Bool) (p : List ℕ) (fine : refusal rule ≡ 0) (reached : Reached was m d p) where
      abbrev old : Log
      old = first_records was log m

      abbrev new : Log
      new = first_records closed log n

      stands : Stands rule old m d p
      stands = reached.stands

      -- the first position still wanted, and the records from its own on
      abbrev first_position : ℕ
      first_position = wanted (formulas_of rule) d

      abbrev slice : List ℕ
      slice = wanted_records log' p

      first_is : first_wanted p ≡ from
      first_is = stands.wanted

      -- it is not dropped
      undropped : dropped log' ≤ first_wanted p
      undropped = omega (arith, brings.kept, first_is)

      -- the positions before it are passed
      begins : (first_wanted p ≤ m) × (before skips (first_bytes n) (first_wanted p) ≡ first_position)
      begins =
          let within = (own_within rule old m d p fine stands).0 in
          let seen = first_count m (omega (arith, brings.within)) in
          let passed : first_position ≤ before skips (first_bytes m) (record_count (first_bytes m)) = omega arith in
          let at : first_wanted p ≡ place skips (first_bytes m) 0 first_position =
          first_is ∙ ap (λ k. wanted_record (log_of skips (first_bytes m)) k first_position) (sym seen) ∙ wanted_place skips (first_bytes m) first_position passed in
          let (inside, counts) = wanted_counts skips (first_bytes m) first_position passed in
          let low : first_wanted p ≤ record_count (first_bytes m) = omega arith in (
            omega arith,
            sym (before_stays (first_bytes n) (first_bytes m) (first_part m n more) skips (first_wanted p) low) ∙
                ap (before skips (first_bytes m)) at ∙ counts,
          )

      cut : Cut (first_bytes n) slice (first_wanted p)
      cut =
          let all = all_size in
          let low = begins.0 in
          let is = first_is in
          cut_behind (first_bytes n) (records_of log') (dropped log') (first_wanted p) (brings.size ∙ sym all_size) undropped (omega arith)
          (λ i lo hi b few. brings.same i (omega arith) (omega arith) b few ∙ sym (get_or-take (8 * n) records (i * 8 + b) 0 (omega arith)))

      brought_agrees : Agrees (view_of (first_wanted p) first_position (skips_of log') closed slice) slice new first_position
      brought_agrees =
          let counts = begins.1 in
          record {
            ends = refl;
            size =
                ap (λ b. first_position + before b slice (record_count slice)) brings.kind ∙
                ap (λ k. k + before skips slice (record_count slice)) (sym counts) ∙
                sym (before_cut (first_bytes n) slice (first_wanted p) cut skips);
            shows = λ i lo hi.
                subst (λ b. Shows b slice (first_wanted p) new i) (sym brings.kind)
                (closing_shows closed skips slice (first_wanted p) (log_of skips (first_bytes n)) i
                (slice_shows skips (first_bytes n) slice (first_wanted p) cut i (omega arith) hi));
          }

      new_placed : Placed new (total_records log')
      new_placed =
          let placed = log_placed skips (first_bytes n) in
          let same : record_count (first_bytes n) ≡ total_records log' = all_size ∙ sym brings.size in
          record { rising = placed.rising; below = λ i h. omega (arith, placed.below i h) }

      -- "the first new record's time" is not below "the last time seen"
      last_not_above : seen p - first_wanted p < record_count slice → last p ≤ time_at slice (seen p - first_wanted p)
      last_not_above h =
          let size = stands.size in
          let whole = cut.whole in
          let all = all_size in
          let low = begins.0 in
          let within = brings.within in
          let fresh : m < n = omega arith in
          let at : first_wanted p + (seen p - first_wanted p) ≡ m = omega arith in
          let here : time_at slice (seen p - first_wanted p) ≡ time_at records m =
          time_part (first_bytes n) slice (first_wanted p) cut.part (seen p - first_wanted p) h ∙ ap (time_at (first_bytes n)) at ∙
          first_time n m within fresh in
          ⊎_elim
          (λ (some : 1 ≤ m).
          let last_is : last p ≡ time_at records (m - 1) = rw (lt-ltb 0 m some) at reached.time in
          let kept = all_keep (m - 1) m (omega arith) (omega arith) in
          omega arith)
          (λ (none : m < 1).
          let last_is : last p ≡ 0 = rw (le-ltb 0 m (omega arith)) at reached.time in
          omega arith)
          (le_or_lt 1 m)

      -- refusal 14 is not met
      brought_ordered : disordered slice (seen p - first_wanted p) (last p) ≡ false
      brought_ordered =
          (ordered_iff slice (seen p - first_wanted p) (last p)).1
          (keeps_part (first_bytes n) slice (first_wanted p) cut.part (first_keep n), last_not_above)

      -- nor 22
      same_version : other_version log' (log_kind p) ≡ false
      same_version =
          ⊎_elim (λ none. ap (other_version log') none) (λ own. ap (other_version log') own ∙ kind_same log' skips brings.kind) reached.kind

      -- nor any other of those that look at the log, but 21
      version_passed : (other : ℕ) → version_refusal log' p other ≡ other
      version_passed other = rw (brings.well_formed, same_version) refl

      records_passed : (extra : Bool) (other : ℕ) → records_refusal extra log' p other ≡ first 21 extra other
      records_passed extra other =
          let size = stands.size in
          let counts = brings.size in
          rw (
            le-ltb (total_records log') (seen p) (omega arith),
            le-ltb (first_wanted p) (dropped log') undropped,
            brought_ordered,
          )
          refl

      -- no refusal is met but 20 and 21
      number_met : resume_refusal closed rule log' p ≡ expected_refusal closed was m n
      number_met =
          words_passed rule old m d p fine stands _ ∙
          ap (first 20 (resumes_closed closed (closed_with p))) (version_passed _ ∙ records_passed (closes_more closed (closed_with p) (total_records log')) 0) ∙
          number_by closed was m n (closed_with p) (total_records log') stands.closed brings.size

      allowed : resume_refusal closed rule log' p ≡ 0 → was ≡ true → (closed ≡ true) × (m ≡ n)
      allowed none = allowed_by closed was m n more (sym number_met ∙ none)

      gives : (sheet : List ℕ) (c : ℕ) (b : Bool) (p' sheet' : List ℕ) → Resumes closed rule log' p sheet (gave c b) p' sheet' →
          Gives rule new n d sheet c b p' sheet'
      gives sheet c b p' sheet' resumes =
          subst (λ k. Gives rule new k d sheet c b p' sheet') brings.size
          (resumes.words.meaning old new m d stands (first_longer was closed m n more (allowed (resume_unrefused resumes))) (first_falls closed n) new_placed
          brought_agrees)

      -- what the checkpoint has reached then
      reaches : (sheet : List ℕ) (c : ℕ) (b : Bool) (p' sheet' : List ℕ) → Resumes closed rule log' p sheet (gave c b) p' sheet' → Reached closed n (d + c) p'
      reaches sheet c b p' sheet' resumes =
          record {
            stands = (gives sheet c b p' sheet' resumes).stands;
            time = resumes.words.time ∙ ap (λ k. last_time (records_of log') (k - dropped log') (last p)) stands.size ∙ last_brought;
            kind = inr (resumes.words.kind ∙ ap kind_of_log brings.kind);
          }
        where
          last_brought : last_time (records_of log') (m - dropped log') (last p) ≡ cond (ltb 0 n) (time_at records (n - 1)) 0
          last_brought =
              let size = brings.size in
              let kept = undropped in
              let low = begins.0 in
              let is = first_is in
              let here = record_count (records_of log') in
              ⊎_elim
              (λ (old_ones : n ≤ m).
              let same : m ≡ n = omega arith in
              rw (le-ltb (m - dropped log') here (omega arith)) (reached.time ∙ ap (λ k. cond (ltb 0 k) (time_at records (k - 1)) 0) same))
              (λ (new_ones : m < n).
              let at : here - 1 ≡ n - 1 - dropped log' = omega arith in
              rw (lt-ltb (m - dropped log') here (omega arith), lt-ltb 0 n (omega arith), at)
              (same_time (records_of log') records (n - 1 - dropped log') (n - 1) (brings.same (n - 1) (omega arith) (omega arith))))
              (le_or_lt n m)

      -- the bytes of an accepted call, behind those of the verdicts before it
      gives_bytes : (sheet : List ℕ) (c : ℕ) (b : Bool) (p' sheet' : List ℕ) → Resumes closed rule log' p sheet (gave c b) p' sheet' →
          verdicts (formulas_of rule) old d ++ take c sheet' ≡ verdicts (formulas_of rule) new (d + c)
      gives_bytes sheet c b p' sheet' resumes =
          let settled = given_settled rule fine old m d p stands in
          let room = resumes.words.room in
          let kept = resumes.sheet_length in
          let bytes = (gives sheet c b p' sheet' resumes).bytes in
          ap (λ vs. vs ++ take c sheet') (verdicts_stay (formulas_of rule) old new (first_longer was closed m n more (allowed (resume_unrefused resumes))) (first_falls closed n) d (omega arith)) ∙
          verdicts_more (formulas_of rule) new d c sheet' (omega arith) bytes

      -- its answer and its sheet, which are the same whichever log it brings of those that may be brought
      determined : (sheet : List ℕ) (a : Answer) (p' sheet' : List ℕ) → Resumes closed rule log' p sheet a p' sheet' →
          (a ≡ answer_after closed was d m n sheet) × (sheet' ≡ sheet_after closed was d m n sheet)
      determined sheet a p' sheet' resumes = by (eqb number 0) refl
        where
          number : ℕ
          number = expected_refusal closed was m n

          all : ℕ
          all = answered_number closed rule log n

          c : ℕ
          c = min (all - d) (length sheet)

          by : (b : Bool) → eqb number 0 ≡ b →
              (a ≡ cond b (gave c (ltb (d + c) all)) (refused_with number)) ×
              (sheet' ≡ cond b (drop d (verdicts (formulas_of rule) new (d + c)) ++ drop c sheet) sheet)
          by true e =
              let is : a ≡ gave a.count a.more = rw (number_met ∙ eqb-true number 0 e) at resumes.outcome in
              let given = subst (λ (x : Answer). Resumes closed rule log' p sheet x p' sheet') is resumes in
              let step = gives sheet a.count a.more p' sheet' given in
              let bytes = gives_bytes sheet a.count a.more p' sheet' given in
              let size = length_verdicts (formulas_of rule) old d in
              let now : take a.count sheet' ≡ drop d (verdicts (formulas_of rule) new (d + a.count)) =
              sym (drop_at (verdicts (formulas_of rule) old d) (take a.count sheet') d size) ∙ ap (drop d) bytes in (
                is ∙ ap₂ gave step.count (step.more ∙ ap (λ k. ltb (d + k) all) step.count),
                sym (take-append-drop a.count sheet') ∙ ap₂ (λ s t. s ++ t) now given.words.rest ∙
                    ap (λ k. drop d (verdicts (formulas_of rule) new (d + k)) ++ drop k sheet) step.count,
              )
          by false e =
              let is : a ≡ refused_with number = rw (number_met, e) at resumes.outcome in
              let kept = subst (λ (x : Answer). Resuming x.refused closed rule log' p sheet x.count x.more p' sheet') is resumes.words in
              (is, kept.1)

      -- A TRIMMING of it

      trimmed_size : length (trimmed_log log' p) ≡ 16 + 8 * (n - from)
      trimmed_size =
          ap (λ k. length (trimmed log' k)) first_is ∙ length_trimmed log log' from n brings (omega (arith, begins.0, first_is))

      -- no refusal is met but 23 and 25
      trim_met : (lent : ℕ) → trim_refusal rule log' p lent ≡ expected_trim_refusal skips lent (16 + 8 * (n - from))
      trim_met lent =
          words_passed rule old m d p fine stands _ ∙ version_passed _ ∙
          ap₂ (λ b other. first 23 (negate b) other) brings.kind (records_passed false _ ∙ ap (λ k. first 25 (ltb lent k) 0) trimmed_size) ∙
          first_negated skips 23 _

      module _ (out : List ℕ) (a : TrimAnswer) (out' : List ℕ) (trims : Trims rule log' p out a out') where
        trim_numbered : a.number ≡ expected_trim_refusal skips (length out) (16 + 8 * (n - from))
        trim_numbered = trim_number trims ∙ trim_met (length out)

        -- not refused, it wrote the log from the first wanted record on
        trim_wrote : a.number ≡ 0 → take a.written out' ≡ trimmed log' from
        trim_wrote none = (trim_writes trims none).1 ∙ ap (trimmed log') first_is

        -- which may be brought, also when it has grown
        trim_brings : a.number ≡ 0 → (k : ℕ) → n ≤ k → k ≤ record_count records → Brings log from k (take a.written out' ++ grown_by log n k)
        trim_brings none k most_formulas within =
            let kind = has_service skips (length out) _ (sym trim_numbered ∙ none) in
            let inside : from ≤ n = omega (arith, begins.0, first_is) in
            rw (trim_wrote none) (trimmed_brings log log' from n brings inside few_records kind k most_formulas within)

        -- trimmed again it is what it was
        trim_same : a.number ≡ 0 → (out₂ : List ℕ) (a₂ : TrimAnswer) (out₂' : List ℕ) →
            Trims rule (take a.written out') p out₂ a₂ out₂' → a₂.number ≡ 0 → take a₂.written out₂' ≡ take a.written out'
        trim_same none out₂ a₂ out₂' again none₂ =
            let first = first_wanted p in
            let few : first ≤ 1000000 = omega (arith, begins.0, few_records, brings.within) in
            (trim_writes again none₂).1 ∙ ap (λ s. trimmed s first) (trim_writes trims none).1 ∙
            trimmed_again first (records_from log' first) few ∙ sym (trim_writes trims none).1

  -- what holds after every list of calls
  pub record Invariant (h : List Call) (point : List ℕ) : Type 0 where
    pub fine : refusal rule ≡ 0
    pub size : length point ≡ need rule
    pub within : brought_by h ≤ record_count (records_of log)
    pub reached : Reached (closed_by h) (brought_by h) (given_by h) point
    pub bytes : laid h ≡ verdicts (formulas_of rule) (first_records (closed_by h) log (brought_by h)) (given_by h)
    pub at_first : closed_by h ≡ true → closed_at h ≡ brought_by h
    pub all : AllWhenCaughtUp rule log h
    pub each : Each rule log h
    pub still : StillBrings rule log h

  -- on an opened checkpoint
  module _ (lent p : List ℕ) (opens : Opens rule lent done p) where
    opened_fine : refusal rule ≡ 0
    opened_fine = (before_none (refusal rule) _ (open_unrefused opens)).0

    opened_reached : Reached false 0 0 p
    opened_reached =
        let few = before_few skips (first_bytes 0) (record_count (first_bytes 0)) in
        let none = first_count 0 (omega arith) in
        let (beyond, time, kind, stands) = opens.words in
        record { stands = stands (first_records false log 0) (omega arith) refl; time = time; kind = inl kind }

    after_open : Invariant [] (take (measured rule).words p)
    unfolding given_by brought_by closed_by closed_at laid Each AllWhenCaughtUp StillBrings verdicts
    after_open =
        rw (exactly_enough rule opened_fine).1
        (record {
          fine = opened_fine;
          size = length-take-le (need rule) p opened_reached.stands.enough;
          within = omega arith;
          reached = reached_alone opened_fine false 0 0 p opened_reached;
          bytes = refl;
          at_first = λ e. absurd (false≢true e);
          all = refl;
          each = tt;
          still = tt;
        })

  -- after an accepted call on the words p
  module _ (h : List Call) (point p : List ℕ) (before : Invariant h point) (lends : Lends point p)
      (closed : Bool) (n : ℕ) (log' sheet : List ℕ) (c : ℕ) (more : Bool) (p' sheet' : List ℕ)
      (brought : BringsAfter rule log h n log') (resumes : Resumes closed rule log' p sheet (gave c more) p' sheet') where
    accepted_whole : length point ≤ length p
    accepted_whole =
        let size = before.size in
        let enough = enough_words rule (length p) (before_none (open_refusal rule (length p)) _ (resume_unrefused resumes)).0 in
        omega arith

    accepted_reached : Reached (closed_by h) (brought_by h) (given_by h) p
    accepted_reached =
        reached_lent before.fine (closed_by h) (brought_by h) (given_by h) point p before.size lends accepted_whole before.reached

    -- the first closing brought as many records
    accepted_at : cond (closed_by h) (closed_at h) n ≡ n
    accepted_at =
        by (closed_by h) refl
      where
        by : (was : Bool) → closed_by h ≡ was → cond was (closed_at h) n ≡ n
        by false e = refl
        by true e =
            before.at_first e ∙
            (allowed closed (given_by h) (brought_by h) n log' brought.no_fewer brought.brings (closed_by h) p before.fine accepted_reached
            (resume_unrefused resumes) e).1

    after_accepted : Invariant (the_call closed n sheet c more sheet' ∷ h) (point_after point p')
    unfolding given_by brought_by closed_by closed_at laid Each AllWhenCaughtUp StillBrings
    after_accepted =
        let old = brought_by h in
        let d = given_by h in
        let fs = formulas_of rule in
        let all = answered_number closed rule log n in
        let new = first_records closed log n in
        let step = gives closed d old n log' brought.no_fewer brought.brings (closed_by h) p before.fine accepted_reached sheet c more p' sheet' resumes in
        let reached = reaches closed d old n log' brought.no_fewer brought.brings (closed_by h) p before.fine accepted_reached sheet c more p' sheet' resumes in
        let bytes : laid h ++ take c sheet' ≡ verdicts fs new (d + c) =
        ap (λ vs. vs ++ take c sheet') before.bytes ∙
        gives_bytes closed d old n log' brought.no_fewer brought.brings (closed_by h) p before.fine accepted_reached sheet c more p' sheet' resumes in
        let settled = given_settled rule before.fine new n (d + c) p' step.stands in
        let same_length = resumes.sheet_length in
        let whole = accepted_whole in
        let kept = resumes.point_length in
        let point_is : point_after point p' ≡ take (need rule) p' =
        after_whole point p' (omega arith) ∙ ap (λ k. take k p') before.size in
        rw point_is
        (record {
          fine = before.fine;
          size = length-take-le (need rule) p' step.stands.enough;
          within = brought.brings.within;
          reached = reached_alone before.fine closed n (d + c) p' reached;
          bytes = bytes;
          at_first = λ e. rw e accepted_at;
          all = (
            λ e.
                let lengths = ap length (sym bytes ∙ e) in
                let given = length_verdicts fs new (d + c) in
                let whole = length_verdicts fs new all in
                step.more ∙ le-ltb (d + c) all (omega arith),
            λ caught_up.
                let none = ltb-false (d + c) all (sym step.more ∙ caught_up) in
                let sum : d + c ≡ all = omega arith in
                bytes ∙ ap (verdicts fs new) sum,
          );
          each = (
            record { count = step.count; more = step.more; bytes = length-take-le c sheet' (omega (arith, resumes.words.room)) },
            before.each,
          );
          still = λ k log'' enough earlier.
              let onward : wanted_after rule log d old ≤ wanted_after rule log (d + c) n =
              omega (arith, resumes.words.onward.0, accepted_reached.stands.wanted, step.stands.wanted) in
              record { no_fewer = enough; brings = later_brings log log'' (wanted_after rule log d old) k earlier.brings (wanted_after rule log (d + c) n) onward };
        })

  after_call : {h h' : List Call} {p' : List ℕ} (point p : List ℕ) → Invariant h point → Lends point p → OneCall rule log h p h' p' →
      Invariant h' (point_after point p')
  after_call point p before lends (refused closed rule' log' sheet number p' sheet' resumes) =
      rw (resumes.words.0, after_unchanged point p lends) before
  after_call point p before lends (trimming rule' log' out a out' trims) = rw (after_unchanged point p lends) before
  after_call {h} point p before lends (accepted closed n log' sheet c more p' sheet' brought resumes) =
      after_accepted h point p before lends closed n log' sheet c more p' sheet' brought resumes

  pub invariant : {h : List Call} {point : List ℕ} → Calls rule log h point → Invariant h point
  invariant (opened lent p opens) = after_open lent p opens
  invariant (and_then {point = point} calls p p' lends call) = after_call point p (invariant calls) lends call

  -- "One run is a carry on from a fresh point with a sheet of A bytes, and it writes just these."
  one_run_writes : (closed : Bool) (n : ℕ) (a : Answer) (sheet' : List ℕ) → OneRun closed rule log n a sheet' →
      (a ≡ gave (answered_number closed rule log n) false) × (sheet' ≡ all_verdicts closed rule log n)
  unfolding verdicts
  one_run_writes closed n a sheet' run =
      let fine = opened_fine run.lent run.fresh run.opens in
      let reached = opened_reached run.lent run.fresh run.opens in
      let fs = formulas_of rule in
      let all = answered_number closed rule log n in
      let c = a.count in
      let more = a.more in
      let some : 0 ≤ n = omega arith in
      let brings = later_brings log run.brought 0 n run.brings (wanted_after rule log 0 0) (omega arith) in
      let none = number_met closed 0 0 n run.brought some brings false run.fresh fine reached ∙ fresh_allowed closed 0 n in
      let is : a ≡ gave c more = rw none at run.resumes.outcome in
      let resumes = subst (λ (x : Answer). Resumes closed rule run.brought run.fresh run.sheet x run.left sheet') is run.resumes in
      let step = gives closed 0 0 n run.brought some brings false run.fresh fine reached run.sheet c more run.left sheet' resumes in
      let bytes =
      gives_bytes closed 0 0 n run.brought some brings false run.fresh fine reached run.sheet c more run.left sheet' resumes in
      let count = step.count in
      let room = run.room in
      let kept = run.resumes.sheet_length in
      let whole : c ≡ all = omega arith in
      let sum : 0 + c ≡ all = omega arith in
      let caught_up : more ≡ false = step.more ∙ le-ltb (0 + c) all (omega arith) in (
        is ∙ ap₂ gave whole caught_up,
        sym (take_all c sheet' (omega arith)) ∙ bytes ∙ ap (verdicts fs (first_records closed log n)) sum,
      )

-- of each formula the count of no and the latest of them, as a checkpoint has them
own_summary : (rule : List ℕ) (K : Log) (n d : ℕ) (p : List ℕ) → refusal rule ≡ 0 → Stands rule K n d p →
    (nos latest : List ℕ) (a : SummaryAnswer) (nos' latest' : List ℕ) → Summarizes rule p nos latest a nos' latest' →
    (a ≡ counted (columns (formulas_of rule))) ×
    TellsNoes 0 (columns (formulas_of rule)) (λ k. noes_in k (verdicts (formulas_of rule) K d) d) nos latest nos' latest'
own_summary rule K n d p fine stands nos latest a nos' latest' told =
    let is : a ≡ counted (columns (formulas_of rule)) = rw (words_passed rule K n d p fine stands 0) at told.outcome in (
      is,
      told_same (columns (formulas_of rule)) (stored_noes (most_formulas (version rule)) p) _ nos latest nos' latest' stands.noes
          (subst (λ (x : SummaryAnswer). TellsNoes x.number x.formulas (stored_noes (most_formulas (version rule)) p) nos latest nos' latest') is told.words),
    )

-- a closing was accepted exactly where its records were noted
closed_told : (b : Bool) (n w : ℕ) → w ≡ cond b (suc n) 0 → ltb 0 w ≡ b
closed_told true n w e = lt-ltb 0 w (omega arith)
closed_told false n w e = le-ltb 0 w (omega arith)

-- what it tells of the log that it stands for
own_status : (rule : List ℕ) (K : Log) (n d : ℕ) (p : List ℕ) → refusal rule ≡ 0 → Stands rule K n d p →
    known rule p ≡ known_told (record { given = d; seen = n; wanted = wanted_record K n (wanted (formulas_of rule) d); closed = K.closed })
own_status rule K n d p fine stands =
    rw (
      eq-eqb (summary_refusal rule p) 0 (words_passed rule K n d p fine stands 0),
      own_given rule K n d p fine stands,
      stands.size,
      stands.wanted,
      closed_told K.closed n (closed_with p) stands.closed,
    )

-- WORDS BEHIND THE POINT

open_keeps : (rule words : List ℕ) (a : OpenAnswer) (fresh : List ℕ) → refusal rule ≡ 0 → Opens rule words a fresh → KeepsBehind rule words fresh
open_keeps rule words a fresh fine opens = record { behind = by a.refused opens.words; number = opens.length }
  where
    by : (refused : Bool) → Opening refused rule words fresh → drop (measured rule).words fresh ≡ drop (measured rule).words words
    by false (beyond, time, kind, stands) = rw (exactly_enough rule fine).1 beyond
    by true kept = ap (drop (measured rule).words) kept

call_keeps : (rule log : List ℕ) {h h' : List Call} (p : List ℕ) {p' : List ℕ} → refusal rule ≡ 0 → OneCall rule log h p h' p' → KeepsBehind rule p p'
call_keeps rule log p fine (refused closed rule' log' sheet number p' sheet' resumes) =
    record { behind = ap (drop (measured rule).words) resumes.words.0; number = resumes.point_length }
call_keeps rule log p fine (accepted closed n log' sheet c more p' sheet' brought resumes) =
    record { behind = rw (exactly_enough rule fine).1 resumes.words.beyond; number = resumes.point_length }
call_keeps rule log p fine (trimming rule' log' out a out' trims) = record { behind = refl; number = refl }

-- THE THEOREM
pub demand_3 : (rule log : List ℕ) → Untouched log → (h : List Call) (point : List ℕ) → Calls rule log h point → Demand3 rule log h point
demand_3 rule log untouched h point calls =
    let i = invariant rule log untouched calls in
    let fs = formulas_of rule in
    let L = first_records (closed_by h) log (brought_by h) in
    let n = brought_by h in
    let d = given_by h in
    let settled = given_settled rule i.fine L n d point i.reached.stands in
    let size = i.size in
    let lent : (p : List ℕ) → Lends point p → length point ≤ length p → Reached rule log untouched (closed_by h) n d p =
    λ p lends whole. reached_lent rule log untouched i.fine (closed_by h) n d point p size lends whole i.reached in
    record {
      first = rw (i.bytes, length_verdicts fs L (given_by h)) (sym (take_verdicts fs L (given_by h) (answered_number (closed_by h) rule log (brought_by h)) (omega arith)));
      all = i.all;
      each = i.each;
      still = i.still;
      untrimmed = λ u more is fine enough.
          subst (λ l. BringsAfter rule l h (record_count (records_of u)) u) (sym is) (never_trimmed rule u more fine h enough);
      not_refused = λ p lends whole closed m log' sheet brought a p' sheet' resumes.
          resume_number resumes ∙
          number_met rule log untouched closed d n m log' brought.no_fewer brought.brings (closed_by h) p i.fine (lent p lends whole) ∙
          expected_at closed (closed_by h) (closed_at h) n m i.at_first;
      too_few = λ p short closed log' sheet a p' sheet'. nine closed rule log' p sheet a p' sheet' i.fine (omega arith);
      size = size ∙ sym (exactly_enough rule i.fine).1;
      enough = λ words a fresh size opens.
          open_accepts rule words a fresh i.fine (le_of_eq (sym (size ∙ (exactly_enough rule i.fine).1))) opens;
      open_keeps = λ words a fresh. open_keeps rule words a fresh i.fine;
      call_keeps = λ p p' h'. call_keeps rule log p i.fine;
      one_run = one_run_writes rule log untouched;
      summary = λ p lends whole nos latest a nos' latest' told.
          let laid_length : length (laid h) ≡ d = ap length i.bytes ∙ length_verdicts fs L d in
          rw (laid_length, i.bytes) (own_summary rule L n d p i.fine (lent p lends whole).stands nos latest a nos' latest' told);
      status = λ p lends whole r is. is ∙ own_status rule L n d p i.fine (lent p lends whole).stands;
      trims = λ p lends whole m log' out brought a out' trims.
          let reached = lent p lends whole in
          let wrote = trim_writes trims in
          record {
            number = trim_numbered rule log untouched false d n m log' brought.no_fewer brought.brings (closed_by h) p i.fine reached out a out' trims;
            written = λ none. (wrote none).0 ∙ trimmed_size rule log untouched false d n m log' brought.no_fewer brought.brings (closed_by h) p i.fine reached;
            brings = λ none k most_formulas within.
                record {
                  no_fewer = omega (arith, brought.no_fewer);
                  brings = trim_brings rule log untouched false d n m log' brought.no_fewer brought.brings (closed_by h) p i.fine reached out a out' trims none k most_formulas within;
                };
            again = trim_same rule log untouched false d n m log' brought.no_fewer brought.brings (closed_by h) p i.fine reached out a out' trims;
          };
      alike = λ p lends whole closed m log₁ log₂ sheet brought₁ brought₂ a₁ p₁ sheet₁ resumes₁ a₂ p₂ sheet₂ resumes₂.
          let reached = lent p lends whole in
          let one = determined rule log untouched closed d n m log₁ brought₁.no_fewer brought₁.brings (closed_by h) p i.fine reached sheet a₁ p₁ sheet₁ resumes₁ in
          let other = determined rule log untouched closed d n m log₂ brought₂.no_fewer brought₂.brings (closed_by h) p i.fine reached sheet a₂ p₂ sheet₂ resumes₂ in
          (one.0 ∙ sym other.0, one.1 ∙ sym other.1);
    }

-- the bytes of every list are the first bytes of one run
pub bytes_of_one_run : (rule log : List ℕ) → Untouched log → (h : List Call) (point : List ℕ) → Calls rule log h point →
    (a : Answer) (sheet' : List ℕ) → OneRun (closed_by h) rule log (brought_by h) a sheet' → laid h ≡ take (length (laid h)) sheet'
bytes_of_one_run rule log untouched h point calls a sheet' run =
    let claim = demand_3 rule log untouched h point calls in
    rw (claim.one_run (closed_by h) (brought_by h) a sheet' run).1 claim.first

-- "a point that this library left never meets" refusal 11, nor 10 with its rule: in no words that hold it whole
pub own_checkpoint : (rule log : List ℕ) → Untouched log → (h : List Call) (point : List ℕ) → Calls rule log h point →
    (p : List ℕ) → Lends point p → length point ≤ length p →
    (foreign (version rule) (decoded rule) (count rule) p ≡ false) × (words_outside (version rule) (decoded rule) (count rule) p ≡ false)
own_checkpoint rule log untouched h point calls p lends whole =
    let i = invariant rule log untouched calls in
    let L = first_records (closed_by h) log (brought_by h) in
    let reached = reached_lent rule log untouched i.fine (closed_by h) (brought_by h) (given_by h) point p i.size lends whole i.reached in
    (reached.stands.own, not_outside rule L (brought_by h) (given_by h) p i.fine reached.stands)
