-- What one call of `open` and one of `resume` on the fresh checkpoint come to: a refusal by rule and log alone, or all verdicts.
-- Assumes nothing.
use Prim.Native.Nat.{ℕ, ◌+◌, ◌-◌, ◌*◌, ◌≤◌, zero-le}
use mathlib.Core.Bool.{Bool, true, false, cond, false≢true}
use mathlib.Core.Path.{◌≡◌, refl, sym, ◌∙◌, ap}
use mathlib.Core.List.{List, [], ◌++◌}
use native.Mathlib.Omega.{arith}
use lib.Dec.{eqb, ltb}
use lib.ListN.{length, take, length-drop}
use lib.Seq.{take_all, length-take-le}
use borrow.Author.Tests.{le-ltb, ltb-false, eq-eqb, ne_eqb, eqb-true}
use Rattle.std.specs.Prelude.{Ok}
use Rattle.refusal.specs.declared.Refusal.{Refusal}
use Rattle.refusal.specs.Number.{number_of}
use Rattle.refusal.proofs.Numbers.{number_positive}
use Rattle.mtl.specs.Log.{Log, NeverFalls}
use Rattle.mtl.specs.Progress.{joint_progress}
use Rattle.mtl.specs.Wanted.{wanted}
use Rattle.mtl.proofs.Joint.{joint_le_size}
use Rattle.rule.specs.Entries.{version}
use Rattle.rule.specs.Refusal.{first, refusal}
use Rattle.rule.proofs.Headers.{first_zero, before_none, or_right}
use Rattle.rule.proofs.Acceptance.{accepted}
use Rattle.trace.specs.Format.{record_count, skips_of, is_trimmed, dropped, records_of, total_records, malformed}
use Rattle.trace.specs.Log.{log_of}
use Rattle.trace.specs.Order.{disordered}
use Rattle.window.specs.View.{view_of}
use Rattle.trace.proofs.Laws.{well_formed_records, ordered_iff}
use Rattle.trace.proofs.Positions.{before_few, log_placed, positions_keep}
use Rattle.trace.proofs.Parts.{Cut, cut_from, before_cut}
use Rattle.window.proofs.Slices.{slice_shows}
use Rattle.blocks.specs.Step.{Agrees}
use Rattle.checkpoint.specs.Checkpoint.{first_wanted, need}
use Rattle.checks.specs.Refusal.{open_refusal, resume_refusal}
use Rattle.meaning.specs.Verdicts.{formulas_of, columns, verdicts, first_records, all_verdicts}
use Rattle.monitor.specs.Stands.{Stands}
use Rattle.monitor.specs.Open.{done, Opens}
use Rattle.monitor.specs.Open.{refused_with as not_opened_with}
use Rattle.monitor.specs.Resume.{gave, refused_with, wanted_records, Gives, Resumes}
use Rattle.monitor.specs.Formulas.{Answer, answer, formula_count}
use Rattle.monitor.proofs.Answers.{open_number, open_unrefused, resume_number, resume_unrefused}
use Rattle.monitor.proofs.Meaning.{few_columns, most_few}
use Rattle.monitor.proofs.OwnCheckpoint.{wanted_within, not_outside}
use Rattle.monitor.proofs.VerdictBytes.{verdicts_more}
use Rattle.report.specs.Report.{refused_text, first_line, lines, run_refusal, too_long, report}
use Rattle.report.specs.declared.Given.{Given as Counted}
use Rattle.report.specs.Run.{Ran}

-- eight words on a line are the most that an accepted rule takes
pub eight_columns : (rule : List ℕ) → refusal rule ≡ 0 → columns (formulas_of rule) ≤ 8
eight_columns rule fine = omega (arith, few_columns rule fine, most_few (version rule))

-- and `formulas` counts them
pub formulas_counted : (rule : List ℕ) → refusal rule ≡ 0 → (m : ℕ) → answer (Ok m) ≡ formula_count rule → (m ≡ columns (formulas_of rule)) × (m ≤ 8)
formulas_counted rule fine m told =
    let counts : answer (Ok m) ≡ record { number = 0; formulas = columns (formulas_of rule) } = rw (eq-eqb (refusal rule) 0 fine) at told in
    let count = ap (λ (a : Answer). a.formulas) counts in
    (count, omega (arith, eight_columns rule fine))

-- a header has eight bytes or more
eight_at_least : (trimmed : Bool) → 8 ≤ cond trimmed 16 8
eight_at_least true = omega arith
eight_at_least false = omega arith

-- a log with no record
abbrev none_yet : Log
none_yet = log_of false []

-- what an accepted run gives, and the text that comes of it
pub record Told (rule log sheet : List ℕ) (r : Counted) : Type 0 where
  pub ran : Ran rule log sheet r
  pub few : r.verdicts ≤ 8191
  pub text : report rule log ≡
      first_line r.verdicts (record_count (records_of log)) ++ lines r.columns (take r.verdicts sheet) (length (take r.verdicts sheet))

module _ (rule log : List ℕ) (short : too_long rule log ≡ false) where
  -- 8,192 words are enough for every rule that passes 8
  opens_by : open_refusal rule 8192 ≡ refusal rule
  opens_by = go (eqb (refusal rule) 0) refl
    where
      go : (b : Bool) → eqb (refusal rule) 0 ≡ b → cond b (first 9 (ltb 8192 (need rule)) 0) (refusal rule) ≡ refusal rule
      go true p =
          let fine = eqb-true (refusal rule) 0 p in
          rw (le-ltb 8192 (need rule) (accepted rule fine).need) (sym fine)
      go false p = refl

  -- the text of a refusal
  refused_told : (r : Refusal) → run_refusal rule log ≡ number_of r → report rule log ≡ refused_text (number_of r)
  refused_told r e =
      let some = number_positive r in
      rw (short, ne_eqb (run_refusal rule log) 0 (omega arith)) (ap refused_text e)

  -- the text of a run that gave verdicts
  pub verdicts_told : (sheet : List ℕ) (g : Counted) (n : ℕ) → Ran rule log sheet g → n ≡ record_count (records_of log) →
      first_line g.verdicts n ++ lines g.columns (take g.verdicts sheet) (length (take g.verdicts sheet)) ≡ report rule log
  verdicts_told sheet g n r e =
      let size : length (take g.verdicts sheet) ≡ g.verdicts = length-take-le g.verdicts sheet r.fits in
      rw (short, eq-eqb (run_refusal rule log) 0 r.accepts, ← r.bytes, size, r.words, e)

  -- `open` refuses
  pub not_opened : (lent p : List ℕ) (r : Refusal) → length lent ≡ 8192 → Opens rule lent (not_opened_with (number_of r)) p →
      (run_refusal rule log ≡ number_of r) × (report rule log ≡ refused_text (number_of r))
  not_opened lent p r size opens =
      let some = number_positive r in
      let by : refusal rule ≡ number_of r = sym opens_by ∙ ap (open_refusal rule) (sym size) ∙ sym (open_number opens) in
      let is : run_refusal rule log ≡ number_of r = rw (ne_eqb (refusal rule) 0 (omega arith)) by in
      (is, refused_told r is)

  -- the fresh checkpoint
  module _ (lent p : List ℕ) (size : length lent ≡ 8192) (opens : Opens rule lent done p) where
    pub fine : refusal rule ≡ 0
    fine = sym opens_by ∙ ap (open_refusal rule) (sym size) ∙ open_unrefused opens

    stands : Stands rule none_yet 0 0 p
    stands = opens.words.3 none_yet refl refl

    all_wanted : first_wanted p ≡ 0
    all_wanted = omega (arith, stands.wanted, wanted_within none_yet 0 stands.placed (wanted (formulas_of rule) 0))

    -- 9, 10, 11, 13, 20 and 22 are not met
    resumes_by : resume_refusal false rule log p ≡ run_refusal rule log
    resumes_by =
        let none : 0 - dropped log ≡ 0 = omega arith in
        rw (
          eq-eqb (refusal rule) 0 fine,
          le-ltb (length p) (need rule) stands.enough,
          stands.own,
          not_outside rule none_yet 0 0 p fine stands,
          all_wanted,
          stands.size,
          opens.words.1,
          stands.closed,
          opens.words.2,
          le-ltb (total_records log) 0 zero-le,
          none,
        )

    module _ (sheet p' sheet' : List ℕ) where
      -- `resume` refuses
      pub not_resumed : (r : Refusal) → Resumes false rule log p sheet (refused_with (number_of r)) p' sheet' →
          (run_refusal rule log ≡ number_of r) × (report rule log ≡ refused_text (number_of r))
      not_resumed r resumes =
          let is = sym resumes_by ∙ sym (resume_number resumes) in
          (is, refused_told r is)

      -- `resume` gives verdicts
      module _ (c : ℕ) (more : Bool) (given : Resumes false rule log p sheet (gave c more) p' sheet') (room : length sheet ≡ 8191) where
        unrefused : run_refusal rule log ≡ 0
        unrefused = sym resumes_by ∙ resume_unrefused given

        -- 12, 24 and 14 are not met
        log_fine : (malformed log ≡ false) × (dropped log ≡ 0) × (disordered (records_of log) 0 0 ≡ false)
        log_fine =
            let twelfth = first_zero 11 (malformed log) _ (before_none (refusal rule) _ unrefused).1 in
            let dropped_none = first_zero 23 (ltb 0 (dropped log)) _ twelfth.1 in
            let kept = ltb-false 0 (dropped log) dropped_none.0 in
            (twelfth.0, omega arith, (first_zero 13 (disordered (records_of log) 0 0) 0 dropped_none.1).0)

        abbrev records : ℕ
        records = record_count (records_of log)

        abbrev L : Log
        L = log_of (skips_of log) (records_of log)

        never_falls : NeverFalls L
        never_falls = positions_keep (skips_of log) (records_of log) ((ordered_iff (records_of log) 0 0).0 log_fine.2).0

        whole : first_records false log records ≡ L
        whole =
            let bytes = (well_formed_records log log_fine.0).1.whole in
            ap (log_of (skips_of log)) (take_all (8 * records) (records_of log) (omega arith))

        -- the fresh checkpoint wants all records
        agrees : Agrees (view_of (first_wanted p) (wanted (formulas_of rule) 0) (skips_of log) false (wanted_records log p)) (wanted_records log p) L (wanted (formulas_of rule) 0)
        agrees =
            let skips = skips_of log in
            let slice = wanted_records log p in
            let none = all_wanted in
            let start : first_wanted p - dropped log ≡ first_wanted p = omega arith in
            let cut : Cut (records_of log) slice (first_wanted p) =
            rw start (cut_from (records_of log) (records_of log) (first_wanted p) refl (omega arith) (λ k lo hi. refl)) in
            let counts = before_cut (records_of log) slice (first_wanted p) cut skips in
            let few = before_few skips (records_of log) (first_wanted p) in
            record {
              ends = refl;
              size = omega arith;
              shows = λ i lo hi. slice_shows skips (records_of log) slice (first_wanted p) cut i (omega arith) hi;
            }

        all_here : total_records log ≡ records
        all_here = omega (arith, log_fine.1)

        gives : Gives rule L (total_records log) 0 sheet c more p' sheet'
        gives =
            given.words.meaning none_yet L 0 0 stands
            (record { longer = omega arith; same = λ i lo hi. absurd (omega arith); ended = λ e. absurd (false≢true e) })
            never_falls (rw all_here (log_placed (skips_of log) (records_of log))) agrees

        -- a log of 65,536 bytes has 8,191 records
        few_records : records ≤ 8191
        few_records =
            let short_log = ltb-false 65536 (length log) (or_right (ltb 65536 (length rule)) (ltb 65536 (length log)) short) in
            let behind = length-drop (cond (is_trimmed log) 16 8) log in
            let header = eight_at_least (is_trimmed log) in
            omega arith

        -- and the sheet takes all verdicts
        all_given : c ≡ joint_progress (formulas_of rule) L
        all_given =
            let count = gives.count in
            let below = joint_le_size (formulas_of rule) L in
            let positions = before_few (skips_of log) (records_of log) records in
            let few = few_records in
            omega arith

        given_fits : c ≤ length sheet'
        given_fits = omega (arith, given.words.room, given.sheet_length)

        bytes : take c sheet' ≡ verdicts (formulas_of rule) L c
        unfolding verdicts
        bytes =
            let sum : 0 + c ≡ c = omega arith in
            verdicts_more (formulas_of rule) L 0 c sheet' given_fits gives.bytes ∙ ap (verdicts (formulas_of rule) L) sum

        all : all_verdicts false rule log records ≡ take c sheet'
        all =
            ap (λ K. verdicts (formulas_of rule) K (joint_progress (formulas_of rule) K)) whole ∙
            ap (verdicts (formulas_of rule) L) (sym all_given) ∙ sym bytes

        pub resumed : (m : ℕ) → answer (Ok m) ≡ formula_count rule → Told rule log sheet' (record { verdicts = c; columns = m })
        resumed m counted =
            let words = formulas_counted rule fine m counted in
            let ran : Ran rule log sheet' (record { verdicts = c; columns = m }) =
            record {
              accepts = unrefused;
              words = words.0;
              few_words = words.1;
              few_records = few_records;
              fits = given_fits;
              bytes = sym all;
            } in
            record { ran = ran; few = omega (arith, given.words.room); text = sym (verdicts_told sheet' _ records ran refl) }
