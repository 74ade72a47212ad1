-- From an accepted call on the words that the rule needs to what `resume` promises of the whole checkpoint.
use Prim.Native.Nat.{ℕ, zero, suc, ◌+◌, ◌-◌, ◌*◌, ◌≤◌, ◌<◌, zero-le}
use mathlib.Core.Bool.{Bool, true, false, cond}
use mathlib.Core.Path.{◌≡◌, refl, sym, ap, ap₂, ◌∙◌}
use mathlib.Core.List.{List, ◌++◌}
use mathlib.Core.Logic.{◌⊎◌, inl, inr, ⊎_elim}
use native.Mathlib.Omega.{arith}
use borrow.Author.Tests.{le-ltb, lt-ltb, ne_eqb}
use lib.ListN.{length, take, drop, length-append, length-drop, get_or-append}
use lib.Seq.{length-take-le, take_at, drop_at, get_or-take, get_or-drop}
use Rattle.mtl.specs.Formula.{Formula}
use Rattle.mtl.specs.Log.{Log, head_of, Placed, NeverFalls, Continues}
use Rattle.mtl.specs.Progress.{joint_progress}
use Rattle.mtl.specs.Wanted.{deepest, wanted, wanted_record}
use Rattle.mtl.proofs.Bounded.{le_or_lt}
use Rattle.verdicts.specs.Counts.{Noes, noes_in, laid_behind}
use Rattle.rule.specs.declared.measuring.Ends.{Ends}
use Rattle.rule.specs.Entries.{version, count, decoded}
use Rattle.rule.specs.Postfix.{most_formulas, formulas, formulas_or, formula, start}
use Rattle.rule.specs.Refusal.{refusal}
use Rattle.rule.specs.Words.{header_words, offset}
use Rattle.rule.specs.Contract.{EndsOf}
use Rattle.rule.proofs.Acceptance.{accepted}
use Rattle.rule.proofs.Spans.{header_least, header_most}
use Rattle.trace.specs.Format.{record_count, time_at, skips_of, dropped, records_of, total_records, from_record}
use Rattle.trace.specs.Order.{last_time}
use Rattle.window.specs.View.{view_of}
use Rattle.trace.proofs.Parts.{Cut, cut_from, time_part}
use Rattle.blocks.specs.Block.{word, Onward}
use Rattle.blocks.specs.Step.{Agrees}
use Rattle.blocks.proofs.Onward.{onward_same}
use Rattle.engine.specs.State.{OnwardFormula, formula_words}
use Rattle.engine.proofs.Formulas.{last_next, rule_onward, rule_others}
use Rattle.engine.proofs.Longer.{buffer_longer, state_longer}
use Rattle.checkpoint.specs.Checkpoint.{given, seen, last, closed_with, log_kind, kind_of_log, first_wanted, stored_noes, need, block_at, foreign, kind_in_range}
use Rattle.checks.specs.Refusal.{point_refusal, resume_refusal}
use Rattle.checks.specs.Contract.{IsAdmitted}
use Rattle.checks.specs.declared.Admitted.{Admitted}
use Rattle.checks.proofs.Checks.{passes}
use Rattle.refusal.specs.declared.Refusal.{Refusal}
use Rattle.refusal.specs.Number.{number_of}
use Rattle.refusal.proofs.Numbers.{number_positive}
use Rattle.engine.specs.Tops.{Ended}
use Rattle.checkpoint.proofs.Copies.{foreign_same}
use Rattle.checkpoint.proofs.Offsets.{in_block, block_fits, noes_within}
use Rattle.meaning.specs.Verdicts.{formulas_of, columns, verdicts}
use Rattle.held.specs.Top.{top_count, top_bits, part_of, Waiting, Top}
use Rattle.emit.specs.Code.{as_decoded, Giving, Brought, Emits, Emission, ReadyToEmit}
use Rattle.emit.specs.declared.Emitted.{Emitted}
use Rattle.meaning.proofs.Laws.{joint_least}
use Rattle.monitor.specs.Stands.{Stands}
use Rattle.monitor.specs.Resume.{block_of, wanted_records, gave, refused_with, Gives, Resumes}
use Rattle.monitor.proofs.Meaning.{most_few, rule_whole, few_formulas, few_columns, rule_ended, part_is}
use Rattle.monitor.proofs.VerdictBytes.{noes_more, verdicts_stay}

-- where a refusal is met nothing is written
pub resume_refused : (closing : Bool) (rule log p sheet : List ℕ) (e : Refusal) → number_of e ≡ resume_refusal closing rule log p →
    Resumes closing rule log p sheet (refused_with (number_of e)) p sheet
resume_refused closing rule log p sheet e number =
    record {
      outcome = let some = number_positive e in rw (← number, ne_eqb (number_of e) 0 (λ z. omega arith));
      point_length = refl;
      sheet_length = refl;
      words = (refl, refl);
    }

-- what is held and the states survive a longer log
waiting_longer : (φ : Formula) (K L : Log) (d : ℕ) (ws : List ℕ) → Continues K L → NeverFalls L → Waiting φ K d ws → Waiting φ L d ws
waiting_longer φ K L d ws longer never w =
    record {
      buffer = buffer_longer K L longer never φ d (top_count φ ws) (top_bits φ ws) w.buffer;
      state = state_longer φ K L longer never (d + top_count φ ws) ws w.state;
    }

top_longer : (base : ℕ) (fs : List Formula) (K L : Log) (d : ℕ) (ws : List ℕ) → Continues K L → NeverFalls L → Top base fs K d ws → Top base fs L d ws
top_longer base fs K L d ws longer never top =
    record {
      at = top.at;
      within = omega (arith, top.within, longer.longer);
      each = λ k h. waiting_longer (formula fs k) K L d (part_of base fs k ws) longer never (top.each k h);
    }

-- THE RECORDS THAT ARE LENT, from the first wanted on

-- `gone` records were dropped before the records s
module _ (s : List ℕ) (gone first : ℕ) (undropped : gone ≤ first) (fits : first ≤ gone + record_count s) where
  abbrev rest : List ℕ
  rest = from_record (first - gone) s

  cut : Cut s rest (first - gone)
  cut = cut_from s s (first - gone) refl (omega arith) (λ k low high. refl)

  -- with those before it they are all
  pub all_counted : first + record_count rest ≡ gone + record_count s
  all_counted = omega (arith, cut.whole)

  -- the last time seen is the same by all records
  pub last_time_from : (seen last : ℕ) → first ≤ seen → last_time rest (seen - first) last ≡ last_time s (seen - gone) last
  last_time_from seen last low =
      let whole = cut.whole in
      ⊎_elim
      (λ (old : record_count s ≤ seen - gone).
      let none_new : record_count rest ≤ seen - first = omega arith in
      rw (le-ltb (seen - gone) (record_count s) old, le-ltb (seen - first) (record_count rest) none_new))
      (λ (new : seen - gone < record_count s).
      let some_new : seen - first < record_count rest = omega arith in
      let inside : record_count rest - 1 < record_count rest = omega arith in
      let at : first - gone + (record_count rest - 1) ≡ record_count s - 1 = omega arith in
      rw (lt-ltb (seen - gone) (record_count s) new, lt-ltb (seen - first) (record_count rest) some_new)
      (time_part s rest (first - gone) cut.part (record_count rest - 1) inside ∙ ap (time_at s) at))
      (le_or_lt (record_count s) (seen - gone))

-- no position that is passed stands at the first wanted record or behind it
head_starts : (K L : Log) (n : ℕ) → Continues K L → Placed K n → (q : ℕ) → q ≤ K.size → head_of L q ≤ wanted_record K n q
unfolding head_of
head_starts K L n longer placed zero h = zero-le
head_starts K L n longer placed (suc q) h =
    let same = (longer.same q zero-le h).place in
    ⊎_elim
    (λ last. let low = placed.below q h in rw (le-ltb (suc q) K.size last) (omega arith))
    (λ more. let low = placed.rising q (suc q) (omega arith) more in rw (lt-ltb (suc q) K.size more) (omega arith))
    (le_or_lt K.size (suc q))

-- a version is noted
kind_noted : (skips : Bool) (seen closed_with : ℕ) → kind_in_range (kind_of_log skips) seen closed_with ≡ true
kind_noted true seen closed_with = refl
kind_noted false seen closed_with = refl

-- an accepted call: the words that the rule needs are ws' then, the others are kept
module _ (closing : Bool) (rule log p sheet : List ℕ) (ok : refusal rule ≡ 0) (room : need rule ≤ length p)
    (none : point_refusal closing (version rule) (decoded rule) (count rule) log p ≡ 0) (r : Emitted) (ws' sheet' : List ℕ)
    (done : Emits (header_words (version rule)) (most_formulas (version rule)) (formulas_of rule) (wanted_records log p) (skips_of log) closing (take (need rule) p) sheet r ws' sheet') where
  abbrev base : ℕ
  base = header_words (version rule)

  abbrev fs : List Formula
  fs = formulas_of rule

  -- the words then
  abbrev after : List ℕ
  after = ws' ++ drop (need rule) p

  size : length ws' ≡ need rule
  size = done.words_length ∙ length-take-le (need rule) p room

  -- a word that the rule needs, before and after
  was : (i : ℕ) → i < need rule → word (take (need rule) p) i ≡ word p i
  was i low = get_or-take (need rule) p i 0 low

  now : (i : ℕ) → i < need rule → word after i ≡ word ws' i
  now i low = get_or-append ws' (drop (need rule) p) 0 i (omega (arith, size))

  -- the words of the header up to word 7, and those of formula k's counts, are among them
  own_header : (i : ℕ) → i < 8 → i < need rule
  own_header i h = omega (arith, header_least (version rule))

  own_counts : (k : ℕ) → k < most_formulas (version rule) → (8 + k < need rule) × (8 + most_formulas (version rule) + k < need rule)
  own_counts k h = omega (arith, noes_within (version rule))

  -- each formula's words, as its entries' blocks have them
  onward_words : (k : ℕ) → k < length fs →
      OnwardFormula (formula fs k) (formula_words fs k (drop base (take (need rule) p))) (formula_words fs k (drop base ws'))
  onward_words k h = rw (← part_is base fs k (take (need rule) p), ← part_is base fs k ws') (done.onward k h)

  -- the block of an entry, before and after
  block_was : (k : ℕ) → k < count rule → (i : ℕ) → i < 16 →
      word (drop (offset (decoded rule) k) (drop base (take (need rule) p))) i ≡ word (block_of rule k p) i
  block_was k h i l =
      let t = decoded rule in
      in_block base t (take (need rule) p) k i ∙ was (block_at base t k + i) (omega (arith, block_fits base t (count rule) k h)) ∙
      sym (get_or-drop (block_at base t k) p i 0)

  block_now : (k : ℕ) → k < count rule → (i : ℕ) → i < 16 → word (drop (offset (decoded rule) k) (drop base ws')) i ≡ word (block_of rule k after) i
  block_now k h i l =
      let t = decoded rule in
      in_block base t ws' k i ∙ sym (now (block_at base t k + i) (omega (arith, block_fits base t (count rule) k h))) ∙
      sym (get_or-drop (block_at base t k) after i 0)

  -- no head goes back, and words 14 and 15 are what they were
  onward_now : (k : ℕ) → k < count rule → Onward 14 (block_of rule k p) (block_of rule k after)
  onward_now k h =
      onward_same _ (block_of rule k p) _ (block_of rule k after) (block_was k h) (block_now k h)
      (rule_onward (decoded rule) (count rule) (accepted rule ok).well_formed fs (rule_whole rule ok) _ _ onward_words k h)

  -- so the rule's copy is what it was
  foreign_now : foreign (version rule) (decoded rule) (count rule) after ≡ foreign (version rule) (decoded rule) (count rule) p
  foreign_now =
      let t = decoded rule in
      let first = own_header 0 (omega arith) in
      let four = own_header 4 (omega arith) in
      foreign_same (version rule) t (count rule) after p
      (now 0 first ∙ done.header.0 ∙ was 0 first)
      (now 4 four ∙ done.header.1 ∙ was 4 four)
      (λ k i h late l.
      sym (get_or-drop (block_at base t k) after i 0) ∙ (onward_now k h).kept i late l ∙ get_or-drop (block_at base t k) p i 0)

  -- an entry that is no formula's last holds what it held
  spare_now : (j : ℕ) → j < count rule → word p (block_at base (decoded rule) j + 12) ≡ 0 →
      ((k : ℕ) × (k < length fs) × (suc j ≡ start fs (suc k))) ⊎ (word after (block_at base (decoded rule) j + 12) ≡ 0)
  spare_now j h none_held =
      let t = decoded rule in
      let n = count rule in
      let good = (accepted rule ok).well_formed in
      let whole = rule_whole rule ok in
      let inside = block_fits base t n j h in
      let at = block_at base t j + 12 in
      ⊎_elim
      (λ is.
      let (k, l, e) = is in
      inl (k, l, omega (arith, last_next t n good fs whole k l)))
      (λ onward.
      inr (now at (omega arith) ∙ sym (in_block base t ws' j 12) ∙ onward.kept 12 (omega arith) (omega arith) ∙
      in_block base t (take (need rule) p) j 12 ∙ was at (omega arith) ∙ none_held))
      (rule_others t n good fs whole _ _ onward_words j h)

  length_now : length after ≡ length p
  length_now = simp (length-append, size, length-drop) (omega arith)

  -- the no among the bytes written are counted behind those from before
  noes_now : (k : ℕ) → k < columns fs →
      stored_noes (most_formulas (version rule)) after k ≡ laid_behind (stored_noes (most_formulas (version rule)) p k) (given p) (noes_in k sheet' r.count)
  noes_now k h =
      let m = most_formulas (version rule) in
      let inside = own_counts k (omega (arith, few_columns rule ok)) in
      rw (
        now (8 + k) inside.0,
        now (8 + m + k) inside.1,
        ← was 1 (own_header 1 (omega arith)),
        ← was (8 + k) inside.0,
        ← was (8 + m + k) inside.1,
      )
      (done.noes k h)

  unused_now : (k : ℕ) → columns fs ≤ k → k < most_formulas (version rule) →
      (word after (8 + k) ≡ word p (8 + k)) × (word after (8 + most_formulas (version rule) + k) ≡ word p (8 + most_formulas (version rule) + k))
  unused_now k h l =
      let m = most_formulas (version rule) in
      let inside = own_counts k l in
      let same = done.spare k (omega arith) l in (
        now (8 + k) inside.0 ∙ same.0 ∙ was (8 + k) inside.0,
        now (8 + m + k) inside.1 ∙ same.1 ∙ was (8 + m + k) inside.1,
      )

  -- WHAT IS NOTED OF THE LOG

  abbrev size_now : ℕ
  size_now = total_records log

  -- the first wanted record is one of those seen, or the next
  first_fits : (first_wanted p ≤ seen p) × (first_wanted p ≤ size_now)
  first_fits = let checks = passes closing rule log p none in omega (arith, checks.wanted, checks.no_fewer)

  undropped : dropped log ≤ first_wanted p
  undropped = (passes closing rule log p none).undropped

  counted : first_wanted p + record_count (wanted_records log p) ≡ size_now
  counted = all_counted (records_of log) (dropped log) (first_wanted p) undropped first_fits.1

  seen_is : seen ws' ≡ size_now
  seen_is =
      done.size ∙ ap (λ (k : ℕ). k + record_count (wanted_records log p)) (was 7 (own_header 7 (omega arith))) ∙ counted

  seen_now : seen after ≡ size_now
  seen_now = now 2 (own_header 2 (omega arith)) ∙ seen_is

  last_now : last after ≡ last_time (records_of log) (seen p - dropped log) (last p)
  last_now =
      now 3 (own_header 3 (omega arith)) ∙ done.time ∙
      rw (was 2 (own_header 2 (omega arith)), was 3 (own_header 3 (omega arith)), was 7 (own_header 7 (omega arith)))
      (last_time_from (records_of log) (dropped log) (first_wanted p) undropped first_fits.1 (seen p) (last p) first_fits.0)

  closed_now : closed_with after ≡ cond closing (suc size_now) 0
  closed_now = now 5 (own_header 5 (omega arith)) ∙ done.ended ∙ ap (λ (k : ℕ). cond closing (suc k) 0) seen_is

  kind_now : log_kind after ≡ kind_of_log (skips_of log)
  kind_now = now 6 (own_header 6 (omega arith)) ∙ done.kind

  onward_wanted : (first_wanted p ≤ first_wanted after) × (first_wanted after ≤ seen after)
  onward_wanted =
      let seven = own_header 7 (omega arith) in
      omega (arith, done.first, was 7 seven, now 7 seven, now 2 (own_header 2 (omega arith)))

  -- WHERE THE CHECKPOINT STOOD FOR THE RULE AND A LOG

  module _ (K L : Log) (n d : ℕ) (stands : Stands rule K n d p) (longer : Continues K L) (never : NeverFalls L) (placed : Placed L size_now)
      (agrees : Agrees (view_of (first_wanted p) (wanted fs d) (skips_of log) closing (wanted_records log p)) (wanted_records log p) L (wanted fs d)) where
    brought : Brought fs (wanted_records log p) (skips_of log) closing (first_wanted (take (need rule) p)) L d
    brought =
        let within = stands.top.within in
        let is = stands.wanted in
        let starts = head_starts K L n longer stands.placed (wanted fs d) (omega arith) in
        rw (was 7 (own_header 7 (omega arith)))
        (record { placed = rw counted placed; starts = omega arith; agrees = agrees })

    stands_now : Giving base fs L d r.count ws' sheet' → first_wanted ws' ≡ wanted_record L (seen ws') (wanted fs (d + r.count)) →
        Stands rule L size_now (d + r.count) after
    stands_now giving first =
        let one = own_header 1 (omega arith) in
        let three = own_header 3 (omega arith) in
        let at_d : given p ≡ d = sym (was 1 one) ∙ stands.top.at in
        let answered : d ≤ joint_progress fs K =
        joint_least fs K d stands.top.within (λ k h. let b = (stands.top.each k h).buffer in omega (arith, b.within)) in
        let stay : (k : ℕ) → noes_in k (verdicts fs K d) d ≡ noes_in k (verdicts fs L d) d =
        λ k. ap (λ (vs : List ℕ). noes_in k vs d) (verdicts_stay fs K L longer never d answered) in
        record {
          enough = omega (arith, length_now);
          own = foreign_now ∙ stands.own;
          size = seen_now;
          placed = placed;
          closed = closed_now ∙ ap (λ (b : Bool). cond b (suc size_now) 0) (sym agrees.ends);
          wanted = now 7 (own_header 7 (omega arith)) ∙ first ∙ ap (λ (k : ℕ). wanted_record L k (wanted fs (d + r.count))) seen_is;
          top = rw (take_at ws' (drop (need rule) p) (need rule) size) giving.top;
          noes = λ k h.
              noes_now k h ∙
              ap₂ (λ (x : Noes) (m : ℕ). laid_behind x m (noes_in k sheet' r.count)) (stands.noes k h ∙ stay k) at_d ∙
              noes_more fs L k d r.count sheet' giving.bytes;
          in_range = record {
            few = (passes closing rule log p none).records;
            fits = rw (now 3 three) (done.fits (rw (was 3 three) stands.in_range.fits));
            kind = rw kind_now (kind_noted (skips_of log) size_now (closed_with after));
            unused = λ k h l. let none_before = stands.in_range.unused k h l in ((unused_now k h l).0 ∙ none_before.0, (unused_now k h l).1 ∙ none_before.1);
            spare = λ j h. ⊎_elim (λ is. inl is) (λ none_held. spare_now j h none_held) (stands.in_range.spare j h);
          };
        }

    gives_now : Gives rule L size_now d sheet r.count r.more after sheet'
    gives_now =
        let top = top_longer base fs K L d (take (need rule) p) longer never stands.top in
        let (giving, count, further, first) = done.meaning L d never brought top in
        record { count = count; bytes = giving.bytes; more = further; stands = stands_now giving first }

  pub resumed : Resumes closing rule log p sheet (gave r.count r.more) after sheet'
  resumed =
      let one = own_header 1 (omega arith) in
      record {
        outcome = rw (ok, le-ltb (length p) (need rule) room, none);
        point_length = length_now;
        sheet_length = done.sheet_length;
        words =
            record {
              room = done.room;
              rest = done.rest;
              beyond = drop_at ws' (drop (need rule) p) (need rule) size;
              count = now 1 one ∙ done.count ∙ ap (λ (k : ℕ). k + r.count) (was 1 one);
              size = seen_now;
              time = last_now;
              closed = closed_now;
              kind = kind_now;
              onward = onward_wanted;
              noes = noes_now;
              unused = unused_now;
              own = foreign_now;
              heads = λ k h. (onward_now k h).heads;
              meaning = gives_now;
            };
      }

-- the rule as it was admitted, where its formulas end, the records and the words as they were lent
module _ (closing : Bool) (rule log p : List ℕ) (a : Admitted) (d : IsAdmitted rule (length p) a) (ends : Ends) (ended : EndsOf a.rule.entries a.rule.count ends)
    (none : point_refusal closing (version rule) (decoded rule) (count rule) log p ≡ 0) where
  where_ended : Ended (decoded rule) (count rule) ends.at ends.number (formulas_of rule)
  where_ended = rule_ended rule d.accepted ends (rw (d.entries_are, d.count_is) at ended)

  -- the accepted rule is ready
  pub ready_of : (most base deep : ℕ) → most ≡ most_formulas a.rule.version → base ≡ header_words a.rule.version → deep ≡ deepest (formulas_or (formulas a.rule.version a.rule.entries a.rule.count)) → (records : List ℕ) →
      records ≡ wanted_records log p → ReadyToEmit (as_decoded a.rule ends most base deep) records (take a.words p)
  ready_of most base deep most_is base_is deep_is records handed =
      let fine = accepted rule d.accepted in
      let checks = passes closing rule log p none in
      let least = header_least (version rule) in
      let most_words = header_most (version rule) in
      let within = noes_within (version rule) in
      let counted = length-drop ((first_wanted p - dropped log) * 8) (records_of log) in
      rw (d.words_are, most_is, base_is, deep_is, handed, d.version_is, d.entries_are, d.count_is)
      (record {
        few = fine.few_entries;
        well_formed = fine.well_formed;
        the_formulas = formulas_of rule;
        ended = where_ended;
        formulas = omega (arith, where_ended.number, few_formulas rule d.accepted);
        small = most_few (version rule);
        header = (least, most_words, within);
        size = length-take-le (need rule) p d.room;
        given = omega (arith, checks.given, get_or-take (need rule) p 1 0 (omega arith));
        noes = λ k h. omega (arith, checks.counted k h, get_or-take (need rule) p (8 + k) 0 (omega arith));
        depth = refl;
        wanted = omega (arith, checks.wanted, checks.no_fewer, checks.records, get_or-take (need rule) p 7 0 (omega arith));
        records = omega (arith, checks.records);
      })

  -- the words as they came back
  pub resume_given : (most base deep : ℕ) → most ≡ most_formulas a.rule.version → base ≡ header_words a.rule.version → deep ≡ deepest (formulas_or (formulas a.rule.version a.rule.entries a.rule.count)) → (sheet records : List ℕ)
      (skips : Bool) (r : Emitted) (ws' sheet' : List ℕ) → records ≡ wanted_records log p → skips ≡ skips_of log →
      Emission (as_decoded a.rule ends most base deep) skips closing records (take a.words p) sheet r ws' sheet' →
      Resumes closing rule log p sheet (gave r.count r.more) (ws' ++ drop a.words p) sheet'
  resume_given most base deep most_is base_is deep_is sheet records skips r ws' sheet' handed kind done =
      let is_done = rw (d.words_are, most_is, base_is, handed, kind, d.version_is, d.entries_are, d.count_is) at done in
      let depth_is : deep ≡ deepest (formulas_of rule) = rw (d.version_is, d.entries_are, d.count_is) at deep_is in
      rw d.words_are (resumed closing rule log p sheet d.accepted d.room none r ws' sheet' (is_done (formulas_of rule) where_ended depth_is))
