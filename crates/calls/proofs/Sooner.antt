-- Paper 14 of bytes and calls: the theorem of specs/Sooner.antt. Assumes nothing.
use Prim.Native.Nat.{ℕ, zero, suc, ◌+◌, ◌-◌, ◌*◌, ◌≤◌, ◌<◌, ◌^◌}
use mathlib.Core.Bool.{Bool, true, false, ◌&&◌}
use mathlib.Core.Logic.{inl, inr, ⊎_elim}
use mathlib.Core.Path.{◌≡◌, refl, sym, ◌∙◌, ap, subst}
use mathlib.Core.List.{List, [], ◌∷◌, ◌++◌}
use native.Mathlib.Nat.{eq-or-lt_of_le}
use native.Mathlib.Omega.{arith}
use lib.Dec.{eqb}
use lib.ListN.{length, get_or, take}
use borrow.Author.Tests.{eq-eqb, lt-ltb, le-ltb}
use Rattle.mtl.specs.Formula.{Formula}
use Rattle.mtl.specs.Formula.Formula.{letter, next, until}
use Rattle.mtl.specs.Log.{Log, closing, NeverFalls, Continues}
use Rattle.mtl.specs.Satisfaction.{any, sat}
use Rattle.mtl.specs.Progress.{progress, joint_progress}
use Rattle.mtl.specs.Wanted.{wanted, wanted_record}
use Rattle.mtl.proofs.Bounded.{true_and_false, or_iff, le_or_lt}
use Rattle.mtl.proofs.Closing.{settled_open}
use Rattle.mtl.proofs.Joint.{joint_one, joint_grows}
use Rattle.sooner.specs.Sooner.{OneTimed, timed_low, timed_high, timed_letter, letter_in, latest, Interval, last_of, settling_time, Adds, SettledAs, BothWays}
use Rattle.sooner.specs.Sooner.OneTimed.{one_next, one_until}
use Rattle.sooner.proofs.Theorem.{both_ways}
use Rattle.bits.specs.Packed.{number}
use Rattle.verdicts.proofs.Bytes.{byte_of_one}
use Rattle.rule.specs.declared.Entry.{Entry}
use Rattle.rule.specs.Entries.{first_entries, count, decoded, entry}
use Rattle.rule.specs.Words.{offset}
use Rattle.rule.specs.Postfix.{push_kind, read, formulas_or, postfix, size, start}
use Rattle.rule.specs.Encoding.{body, encoded, rule_of}
use Rattle.rule.specs.Operands.{FormulaAt}
use Rattle.rule.specs.Accepted.{FieldsInRange, Whole}
use Rattle.rule.specs.Refusal.{header_refusal, entries_refusal, refusal}
use Rattle.rule.proofs.Acceptance.{accepted}
use Rattle.rule.proofs.Order.{some_size, within_whole}
use Rattle.trace.specs.Format.{record_count, time_at, skips_of, dropped, records_of, total_records, malformed}
use Rattle.trace.specs.Positions.{is_service, spot, place, positions, before}
use Rattle.trace.specs.Log.{log_of}
use Rattle.trace.specs.Order.{falls}
use Rattle.trace.specs.Making.{record_bytes}
use Rattle.trace.proofs.Laws.{Keeps, never_falls, falls_never, count_prefix}
use Rattle.trace.proofs.Counting.{count_few, count_position, count_grows, one_record, spot_holds}
use Rattle.trace.proofs.Positions.{log_placed, positions_keep}
use Rattle.trace.proofs.Parts.{prefix_part}
use Rattle.trace.proofs.Growing.{before_stays, place_stays, grown_continues, prefix_continues}
use Rattle.meaning.specs.Verdicts.{formulas_of, verdict, verdicts}
use Rattle.meaning.specs.Verdicts.{first_records, answered_number, all_verdicts}
use Rattle.meaning.proofs.Laws.{verdict_stays}
use Rattle.monitor.proofs.VerdictBytes.{verdict_at}
use Rattle.monitor.specs.Examples.{event_set}
use Rattle.monitor.specs.Resume.{Answer, gave, Resumes}
use Rattle.calls.specs.Calls.{Call, the_call, given_by, brought_by, closed_by, closed_at, laid, Lends, point_after, expected_refusal}
use Rattle.calls.specs.Calls.{AllWhenCaughtUp}
use Rattle.calls.specs.Calls.{Untouched, BringsAfter, Calls}
use Rattle.calls.specs.Calls.OneCall.{accepted as accepted_call}
use Rattle.calls.specs.Calls.Calls.{and_then}
use Rattle.calls.specs.Examples.{until_1, log_7, next_5, log_5}
use Rattle.calls.specs.Sooner.{records, positions_of, Conditions, Accepts, Settles, SettledBothWays, settling_record, ToldSooner}
use Rattle.calls.proofs.Lending.{given_settled}
use Rattle.calls.proofs.Demand3.{invariant, demand_3}
use Rattle.calls.proofs.Appended.{first_of, more_keeps, more_adds}
use Rattle.calls.proofs.Lengthened.{same_dropped, more_records, whole_records, more_well_formed, records_keep, all_first, more_first, calls_more, longer_length, brings_after_longer}

-- THE RULE

-- the interval and the letter of a formula whose entries are in their ranges
in_ranges : {φ : Formula} (one : OneTimed φ) (t : List Entry) (n : ℕ) → ((k : ℕ) → k < n → FieldsInRange (entry t k)) →
    (at : ℕ) → at < n → FormulaAt t at φ → Interval (timed_low one) (timed_high one) × (timed_letter one ≤ 31)
unfolding FormulaAt
in_ranges (one_next {low} {high} {k}) t n ranges at h (root, some, leaf) =
    let low_is : (entry t at).low ≡ low = ap (λ (e : Entry). e.low) root in
    let high_is : (entry t at).high ≡ high = ap (λ (e : Entry). e.high) root in
    let letter_is : (entry t (at - 1)).letter ≡ k = ap (λ (e : Entry). e.letter) leaf in (
      record { small = omega (arith, (ranges at h).low); order = inl (omega (arith, (ranges at h).order)) },
      omega (arith, (ranges (at - 1) (omega arith)).letter),
    )
in_ranges (one_until {low} {high} {k} {l}) t n ranges at h (root, some, left, leaf) =
    let low_is : (entry t at).low ≡ low = ap (λ (e : Entry). e.low) root in
    let high_is : (entry t at).high ≡ high = ap (λ (e : Entry). e.high) root in
    let letter_is : (entry t (at - 1)).letter ≡ l = ap (λ (e : Entry). e.letter) leaf in (
      record { small = omega (arith, (ranges at h).low); order = inl (omega (arith, (ranges at h).order)) },
      omega (arith, (ranges (at - 1) (omega arith)).letter),
    )

-- of an accepted rule
rule_fits : {φ : Formula} (one : OneTimed φ) (rule : List ℕ) → refusal rule ≡ 0 → formulas_of rule ≡ φ ∷ [] →
    Interval (timed_low one) (timed_high one) × (timed_letter one ≤ 31)
unfolding start
rule_fits {φ} one rule fine is =
    let a = accepted rule fine in
    let only : a.the_formulas ≡ φ ∷ [] = sym (ap formulas_or a.reads) ∙ is in
    let whole : Whole (decoded rule) (count rule) (φ ∷ []) = subst (Whole (decoded rule) (count rule)) only a.whole in
    let inside = within_whole (decoded rule) (count rule) (φ ∷ []) whole 0 (omega arith) in
    in_ranges one (decoded rule) (count rule) a.well_formed.in_range (0 + size φ - 1) (omega (arith, some_size φ)) (whole.each 0 (omega arith)).at_last

-- the formula has the letter
has_letter_of : {φ : Formula} (one : OneTimed φ) → letter_in φ (timed_letter one) ≡ true
unfolding letter_in
has_letter_of (one_next {low} {high} {k}) = eq-eqb k k refl
has_letter_of (one_until {low} {high} {k} {l}) = (or_iff (eqb l k) (eqb l l)).1 (inr (eq-eqb l l refl))

-- so that its letter is not 31 where the formula does not have that
below_31 : {φ : Formula} (one : OneTimed φ) → timed_letter one ≤ 31 → letter_in φ 31 ≡ false → timed_letter one < 31
below_31 {φ} one h none =
    ⊎_elim
    (λ (e : timed_letter one ≡ 31). absurd (true_and_false (ap (letter_in φ) (sym e) ∙ has_letter_of one) none))
    (λ l. l)
    (eq-or-lt_of_le {n = timed_letter one} {m = 31} h)

-- THE VERDICT of a rule that is one formula, on an open log

module _ (rule : List ℕ) {φ : Formula} (is : formulas_of rule ≡ φ ∷ []) (K : Log) (open' : K.closed ≡ false) where
  one_answered : joint_progress (formulas_of rule) K ≡ progress φ K
  one_answered = ap (λ fs. joint_progress fs K) is ∙ joint_one φ K ∙ settled_open φ K open'

  one_verdict : (i : ℕ) → verdict (formulas_of rule) K i ≡ number (sat φ K i)
  one_verdict i = ap (λ fs. verdict fs K i) is ∙ byte_of_one (sat φ K i)

-- an answered position's byte on a log that continues it
module _ (rule : List ℕ) (K L : Log) (longer : Continues K L) (falls : NeverFalls L) (i : ℕ) (h : i < joint_progress (formulas_of rule) K) where
  byte_stays : (i < joint_progress (formulas_of rule) L) ×
      (get_or (verdicts (formulas_of rule) L (joint_progress (formulas_of rule) L)) i 0 ≡ get_or (verdicts (formulas_of rule) K (joint_progress (formulas_of rule) K)) i 0)
  byte_stays =
      let fs = formulas_of rule in
      let there : i < joint_progress fs L = omega (arith, joint_grows fs K L longer falls) in (
        there,
        verdict_at fs L (joint_progress fs L) i there ∙ sym (verdict_stays fs K L longer falls i h) ∙ sym (verdict_at fs K (joint_progress fs K) i h),
      )

-- POSITIONS AND RECORDS

-- where the last record is a position, it holds the last position
last_placed : (skips : Bool) (s : List ℕ) → 0 < before skips s (record_count s) → skips && is_service s (record_count s - 1) ≡ false →
    place skips s 0 (before skips s (record_count s) - 1) ≡ record_count s - 1
last_placed true s some plain =
    let n = record_count s in
    let few = count_few s n in
    let last : suc (n - 1) ≡ n = omega arith in
    let one_more : positions s n ≡ suc (positions s (n - 1)) = ap (positions s) (sym last) ∙ count_position s (n - 1) plain in
    let holds = spot_holds s (positions s n - 1) (omega arith) in
    one_record s _ (n - 1) holds.inside (omega arith) holds.plain plain (holds.number ∙ omega arith)
last_placed false s some plain = omega arith

-- the record of the first wanted position of m records is not behind that of a later position
module _ (s : List ℕ) (m q i : ℕ) (few : m ≤ record_count s) (le : q ≤ i) where
  abbrev u : List ℕ
  u = take (8 * m) s

  size_u : record_count u ≡ m
  size_u = let eight : 8 * m ≡ m * 8 = omega arith in ap (λ (k : ℕ). record_count (take k s)) eight ∙ count_prefix s m few

  -- a position behind those of the first m records stands behind them
  behind_all : (skips : Bool) → before skips u (record_count u) ≤ i → i < before skips s (record_count s) → m ≤ place skips s 0 i
  behind_all true h l =
      let size = size_u in
      let holds = spot_holds s i l in
      let same = before_stays s u (prefix_part s (8 * m)) true m (omega arith) in
      let all = ap (positions u) size in
      ⊎_elim
      (λ k. k)
      (λ (early : spot s 0 i < m).
      absurd (omega (arith, count_position s (spot s 0 i) holds.plain, holds.number, count_grows s (suc (spot s 0 i)) m early)))
      (le_or_lt m (spot s 0 i))
  behind_all false h l = let size = size_u in omega arith

  not_behind : (skips : Bool) → i < before skips s (record_count s) → wanted_record (log_of skips u) m q ≤ place skips s 0 i
  not_behind skips l =
      ⊎_elim
      (λ (none : before skips u (record_count u) ≤ q). rw (le-ltb q (before skips u (record_count u)) none) (behind_all skips (omega arith) l))
      (λ (some : q < before skips u (record_count u)).
      let stays = place_stays s u (prefix_part s (8 * m)) skips q some in
      rw (lt-ltb q (before skips u (record_count u)) some)
      (⊎_elim
      (λ (e : q ≡ i). let same = ap (place skips s 0) e in omega arith)
      (λ (k : q < i). omega (arith, (log_placed skips s).rising q i k l))
      (eq-or-lt_of_le {n = q} {m = i} le)))
      (le_or_lt (before skips u (record_count u)) q)

-- THE LOG

module _ (log : List ℕ) (untouched : Untouched log) where
  fine : malformed log ≡ false
  fine = untouched.well_formed

  whole : length (records_of log) ≡ record_count (records_of log) * 8
  whole = whole_records log [] fine

  keeps : Keeps (records_of log)
  keeps = records_keep (records_of log) untouched.never_falls

  positions_are : positions_of log ≡ closing false (log_of (skips_of log) (records_of log))
  positions_are = all_first false log (records log) (omega (arith, whole))

  positions_fall : NeverFalls (positions_of log)
  positions_fall = subst NeverFalls (sym positions_are) (positions_keep (skips_of log) (records_of log) keeps)

-- A LONGER LOG continues the log, by any number of records
module _ (log more : List ℕ) (untouched : Untouched log) (longer : Untouched (log ++ more)) where
  longer_are : positions_of (log ++ more) ≡ closing false (log_of (skips_of log) (records_of log ++ more))
  longer_are = more_first log more (fine log untouched) false (records (log ++ more)) (omega (arith, whole (log ++ more) longer))

  longer_continues : Continues (positions_of log) (positions_of (log ++ more))
  longer_continues =
      subst (λ (K : Log). Continues K (positions_of (log ++ more))) (sym (positions_are log untouched))
      (subst (λ (L : Log). Continues (closing false (log_of (skips_of log) (records_of log))) L) (sym longer_are)
      (grown_continues (records_of log ++ more) (records_of log) (first_of (records_of log) more (whole log untouched)) (skips_of log)))

  alike : (rule : List ℕ) (i : ℕ) → i < answered_number false rule log (records log) →
      (i < answered_number false rule (log ++ more) (records (log ++ more))) ×
      (get_or (all_verdicts false rule (log ++ more) (records (log ++ more))) i 0 ≡ get_or (all_verdicts false rule log (records log)) i 0)
  alike rule i h = byte_stays rule (positions_of log) (positions_of (log ++ more)) longer_continues (positions_fall (log ++ more) longer) i h

-- a record's numbers are bytes
record_is_bytes : (time events k : ℕ) → k < 8 → get_or (record_bytes time events) k 0 < 256
record_is_bytes time events zero h = omega arith
record_is_bytes time events (suc zero) h = omega arith
record_is_bytes time events (suc (suc zero)) h = omega arith
record_is_bytes time events (suc (suc (suc zero))) h = omega arith
record_is_bytes time events (suc (suc (suc (suc zero)))) h = omega arith
record_is_bytes time events (suc (suc (suc (suc (suc zero))))) h = omega arith
record_is_bytes time events (suc (suc (suc (suc (suc (suc zero)))))) h = omega arith
record_is_bytes time events (suc (suc (suc (suc (suc (suc (suc zero))))))) h = omega arith
record_is_bytes time events (suc (suc (suc (suc (suc (suc (suc (suc k)))))))) h = absurd (omega arith)

-- BY DEMAND 3

-- a resume that brings its log as it should is not refused where the point is not closed
not_refused : (rule log : List ℕ) → Untouched log → (h : List Call) (point : List ℕ) → Calls rule log h point → closed_by h ≡ false →
    (p : List ℕ) → Lends point p → length point ≤ length p → (n : ℕ) (log' sheet : List ℕ) → BringsAfter rule log h n log' →
    (a : Answer) (p' sheet' : List ℕ) → Resumes false rule log' p sheet a p' sheet' → a.number ≡ 0
not_refused rule log untouched h point calls open' p lends enough n log' sheet brought a p' sheet' resumes =
    (demand_3 rule log untouched h point calls).not_refused p lends enough false n log' sheet brought a p' sheet' resumes ∙
    ap (λ (b : Bool). expected_refusal false b (closed_at h) n) open'

-- where it has caught up, all verdicts are laid
all_laid : (rule log : List ℕ) → Untouched log → (h : List Call) (point : List ℕ) → Calls rule log h point →
    (p : List ℕ) → Lends point p → (n : ℕ) (log' : List ℕ) → BringsAfter rule log h n log' →
    (sheet : List ℕ) (c : ℕ) (p' sheet' : List ℕ) → Resumes false rule log' p sheet (gave c false) p' sheet' →
    laid h ++ take c sheet' ≡ all_verdicts false rule log n
unfolding AllWhenCaughtUp laid
all_laid rule log untouched h point calls p lends n log' brought sheet c p' sheet' resumes =
    let after = and_then calls p p' lends (accepted_call false n log' sheet c false p' sheet' brought resumes) in
    (demand_3 rule log untouched (the_call false n sheet c false sheet' ∷ h) (point_after point p') after).all.1 refl

-- what was given without a closing was answered
given_answered : (rule log : List ℕ) → Untouched log → (h : List Call) (point : List ℕ) → Calls rule log h point → closed_by h ≡ false →
    given_by h ≤ answered_number false rule log (brought_by h)
given_answered rule log untouched h point calls open' =
    let inv = invariant rule log untouched calls in
    rw open' at (given_settled rule inv.fine (first_records (closed_by h) log (brought_by h)) (brought_by h) (given_by h) point inv.reached.stands)

-- PAPER 14

module _ {φ : Formula} (one : OneTimed φ) (rule log : List ℕ) (asked : Conditions one rule log) where
  abbrev s : List ℕ
  s = records_of log

  interval : Interval (timed_low one) (timed_high one)
  interval = (rule_fits one rule asked.accepted asked.rule_is).0

  letter_fits : timed_letter one ≤ 31
  letter_fits = (rule_fits one rule asked.accepted asked.rule_is).1

  -- the last record is the last position
  last_is : 0 < (positions_of log).size → last_of (positions_of log) ≡ time_at s (records log - 1)
  last_is some =
      let are = positions_are log asked.untouched in
      let size = ap (λ (L : Log). L.size) are in
      ap last_of are ∙ ap (time_at s) (last_placed (skips_of log) s (omega arith) asked.last_position)

  module _ (i : ℕ) (there : i < (positions_of log).size) (open' : answered_number false rule log (records log) ≤ i) where
    both : BothWays one (positions_of log) i
    both =
        both_ways one interval (positions_of log) (positions_fall log asked.untouched) (omega (arith, asked.last_time, last_is (omega arith))) i there
        (omega (arith, one_answered rule asked.rule_is (positions_of log) refl))

    abbrev t : ℕ
    t = settling_time one (positions_of log) i

    module _ (b : Bool) where
      abbrev r : List ℕ
      r = settling_record one log i b

      time_fits : t < 4294967296
      time_fits = omega (arith, both.fits)

      not_31 : skips_of log ≡ true → timed_letter one < 31
      not_31 e = below_31 one letter_fits (rw e at asked.no_letter_31)

      longer_keeps : Keeps (records_of (log ++ r))
      longer_keeps =
          subst Keeps (sym (more_records log r (fine log asked.untouched)))
          (more_keeps s (whole log asked.untouched) t (timed_letter one) b time_fits letter_fits (keeps log asked.untouched)
          (λ some. omega (arith, both.order, last_is (omega arith))))

      longer_untouched : Untouched (log ++ r)
      longer_untouched =
          record {
            well_formed = more_well_formed log r (fine log asked.untouched) 1 refl (omega (arith, asked.few));
            undropped = same_dropped log r (fine log asked.untouched) ∙ asked.untouched.undropped;
            never_falls = positions_keep false (records_of (log ++ r)) longer_keeps;
          }

      abbrev L : Log
      L = first_records false (log ++ r) (suc (records log))

      adds : Adds (positions_of log) t (timed_letter one) b L
      adds =
          subst (λ (K : Log). Adds K t (timed_letter one) b L) (sym (positions_are log asked.untouched))
          (subst (λ (M : Log). Adds (closing false (log_of (skips_of log) s)) t (timed_letter one) b M)
          (sym (more_first log r (fine log asked.untouched) false (suc (records log)) (longer_length log r (fine log asked.untouched) refl asked.few)))
          (more_adds s (whole log asked.untouched) t (timed_letter one) b time_fits letter_fits (skips_of log) not_31 false))

      told : SettledAs φ L i b
      told = both.settles b L adds

      settled : i < answered_number false rule (log ++ r) (suc (records log))
      settled = omega (arith, told.answered, one_answered rule asked.rule_is L refl)

      says : get_or (all_verdicts false rule (log ++ r) (suc (records log))) i 0 ≡ number b
      says = verdict_at (formulas_of rule) L _ i settled ∙ one_verdict rule asked.rule_is L refl i ∙ ap number told.says

      -- a list of calls with the record behind what it brings
      accepts : Accepts rule log r
      accepts =
          let fine' = fine log asked.untouched in
          let brings = brings_after_longer log r fine' refl asked.few rule in
          record {
            one_record = (refl, record_is_bytes t (number b * 2 ^ timed_letter one));
            not_12 = longer_untouched.well_formed;
            not_14 = falls_never (records_of (log ++ r)) longer_keeps;
            untouched = longer_untouched;
            stays = λ h point calls. calls_more log r fine' calls;
            brings = brings;
            accepted = λ h point calls open'' p lends enough log' brought sheet.
                not_refused rule (log ++ r) longer_untouched h point (calls_more log r fine' calls) open'' p lends enough (suc (records log)) (log' ++ r) sheet
                (brings h log' brought);
          }

      settles : Settles rule log r i (number b)
      settles =
          record {
            accepts = accepts;
            settled = settled;
            says = says;
            laid_there = λ h point calls p lends log' brought sheet c p' sheet' resumes.
                all_laid rule (log ++ r) longer_untouched h point (accepts.stays h point calls) p lends (suc (records log)) (log' ++ r)
                (accepts.brings h log' brought) sheet c p' sheet' resumes;
          }

  -- a lengthening by one record gives an answered position the byte that it has
  settles_alike : (r : List ℕ) (i byte : ℕ) → i < answered_number false rule log (records log) → Settles rule log r i byte →
      get_or (all_verdicts false rule log (records log)) i 0 ≡ byte
  settles_alike r i byte h settles =
      let accepts = settles.accepts in
      let size : records (log ++ r) ≡ suc (records log) =
      omega (arith, longer_length log r (fine log asked.untouched) accepts.one_record.0 asked.few) in
      sym (alike log r asked.untouched accepts.untouched rule i h).1 ∙
      ap (λ (n : ℕ). get_or (all_verdicts false rule (log ++ r) n) i 0) size ∙ settles.says

  -- no two give it different ones
  not_both : (i : ℕ) → i < answered_number false rule log (records log) → SettledBothWays rule log i → ⊥
  not_both i h (r, r', first, second) = omega (arith, settles_alike r i 1 h first, settles_alike r' i 0 h second)

  none_dropped : (h : List Call) (point : List ℕ) → Calls rule log h point → closed_by h ≡ false →
      (log' : List ℕ) → BringsAfter rule log h (records log) log' →
      (i : ℕ) → i < (positions_of log).size → answered_number false rule log (records log) ≤ i → dropped log' ≤ (positions_of log).place i
  none_dropped h point calls open' log' brought i there open'' =
      let m = brought_by h in
      let few = brought.no_fewer in
      let are = positions_are log asked.untouched in
      let size = ap (λ (L : Log). L.size) are in
      let place_is = ap (λ (L : Log). L.place i) are in
      let before_i : given_by h ≤ i =
      omega (
        arith,
        given_answered rule log asked.untouched h point calls open',
        joint_grows (formulas_of rule) (first_records false log m) (positions_of log) (first_continues m few) (positions_fall log asked.untouched),
      ) in
      let first = not_behind s m (wanted (formulas_of rule) (given_by h)) i few (omega arith) (skips_of log) (omega arith) in
      omega (arith, brought.brings.kept)
    where
      first_continues : (m : ℕ) → m ≤ records log → Continues (first_records false log m) (positions_of log)
      first_continues m few =
          subst (λ (L : Log). Continues (first_records false log m) L) (sym (positions_are log asked.untouched))
          (prefix_continues (skips_of log) s (8 * m))

  -- THE THEOREM
  pub told_sooner : ToldSooner one rule log
  told_sooner =
      record {
        open_settled = λ i there open'. (settles i there open' true, settles i there open' false);
        exactly_when = λ i there. (
          λ open'. (settling_record one log i true, settling_record one log i false, settles i there open' true, settles i there open' false),
          λ both. ⊎_elim (λ open'. open') (λ h. absurd (not_both i h both)) (le_or_lt (answered_number false rule log (records log)) i),
        );
        answered_alike = λ i h more longer. alike log more asked.untouched longer rule i h;
        trimmed_counts = λ h log' brought. brought.brings.size ∙ omega (arith, asked.untouched.undropped);
        none_dropped = none_dropped;
      }

-- THE ROWS: P7's first log and P5's meet the conditions

-- what is computed of a rule and a log
asked : {φ : Formula} (one : OneTimed φ) (rule log : List ℕ) → refusal rule ≡ 0 → formulas_of rule ≡ φ ∷ [] →
    malformed log ≡ false → dropped log ≡ 0 → falls (records_of log) ≡ false → total_records log < 1000000 →
    skips_of log && is_service (records_of log) (records log - 1) ≡ false → time_at (records_of log) (records log - 1) ≤ latest →
    skips_of log && letter_in φ 31 ≡ false → Conditions one rule log
asked one rule log taken is well undropped order few position time without_31 =
    record {
      accepted = taken;
      rule_is = is;
      untouched = record { well_formed = well; undropped = undropped; never_falls = positions_keep false (records_of log) (never_falls (records_of log) order) };
      few = few;
      last_position = position;
      last_time = time;
      no_letter_31 = without_31;
    }

asked_7 : Conditions until_1 (rule_of (until 0 2 (letter 0) (letter 1))) log_7
unfolding event_set letter_in postfix body encoded first_entries offset push_kind read header_refusal entries_refusal any
asked_7 = asked until_1 (rule_of (until 0 2 (letter 0) (letter 1))) log_7 refl refl refl refl refl (omega arith) refl (omega arith) refl

asked_5 : Conditions next_5 (rule_of (next 1 1 (letter 0))) log_5
unfolding event_set letter_in postfix body encoded first_entries offset push_kind read header_refusal entries_refusal any
asked_5 = asked next_5 (rule_of (next 1 1 (letter 0))) log_5 refl refl refl refl refl (omega arith) refl (omega arith) refl

pub told_7 : ToldSooner until_1 (rule_of (until 0 2 (letter 0) (letter 1))) log_7
told_7 = told_sooner until_1 (rule_of (until 0 2 (letter 0) (letter 1))) log_7 asked_7

pub told_5 : ToldSooner next_5 (rule_of (next 1 1 (letter 0))) log_5
told_5 = told_sooner next_5 (rule_of (next 1 1 (letter 0))) log_5 asked_5
