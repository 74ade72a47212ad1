-- The whole call: what it lends to the search, check 27, and the refusals before it. Assumes nothing.
use Prim.Native.Nat.{ℕ, suc, ◌≤◌, ◌<◌}
use mathlib.Core.Bool.{Bool, true, false, cond}
use mathlib.Core.Path.{◌≡◌, refl, sym, ◌∙◌, ap}
use mathlib.Core.List.{List, ◌++◌}
use native.Mathlib.Omega.{arith}
use lib.Dec.{ltb}
use lib.ListN.{length, get_or, take, drop}
use borrow.Author.Tests.{lt-leb, le-ltb, eq-eqb, ne_eqb}
use Rattle.mtl.specs.Formula.{Formula}
use Rattle.mtl.specs.Log.{Log}
use Rattle.mtl.specs.Progress.{joint_progress}
use Rattle.rule.specs.declared.Entry.{Entry}
use Rattle.rule.specs.Postfix.{formula, start}
use Rattle.rule.specs.Refusal.{first, or_else, refusal}
use Rattle.rule.proofs.Order.{some_size, start_grows}
use Rattle.trace.specs.Format.{record_count, records_of, dropped, malformed}
use Rattle.trace.specs.Order.{falls, disordered}
use Rattle.trace.specs.Log.{log_of}
use Rattle.window.specs.View.{Views}
use Rattle.window.specs.declared.view.View.{View}
use Rattle.trace.proofs.Laws.{never_falls, neither, well_formed_records}
use Rattle.trace.proofs.Positions.{positions_keep}
use Rattle.engine.specs.Tops.{Ended}
use Rattle.engine.specs.declared.table.Row.{Row}
use Rattle.engine.proofs.Rows.{row_ok}
use Rattle.meaning.specs.Verdicts.{formulas_of, columns}
use Rattle.reasons.specs.Text.{text}
use Rattle.reasons.specs.OfRule.{log_in, reason_in}
use Rattle.search.proofs.Records.{WholeView, whole_log, whole_agrees}
use Rattle.std.specs.Prelude.{Option, Some, Result, Ok, Err}
use Rattle.refusal.specs.declared.Refusal.{Refusal}
use Rattle.refusal.specs.Number.{number_of}
use Rattle.refusal.proofs.Numbers.{number_positive}
use Rattle.checks.specs.Refusal.{whole_log_refusal}
use Rattle.explain.specs.Explain.{unexplained_in, explain_refusal, answer, Explains}
use Rattle.sentences.specs.Said.{Ruled}
use Rattle.telling.specs.Lines.{Wrote}
use Rattle.explain.specs.Code.{Prepared, Represents, Reasoned, Copies}

-- WHAT IS LENT

module _ (e : List Entry) (n : ℕ) (ends : List ℕ) (number : ℕ) (fs : List Formula) (ended : Ended e n ends number fs) (few : n ≤ 128) (t : List Row) (ruled : Ruled e n t) where
  pub prepared : (v : View) (s words : List ℕ) → 8192 ≤ length words → Views v s → record_count s ≤ 1000000 → Prepared t v s words ends number
  unfolding start
  prepared v s words room views some =
      record {
        few = let m = ended.number in let l = ended.few in omega arith;
        some = λ k h. let (one, most) = within k h in (one, omega arith);
        rows = λ k h.
            let (one, most) = within k h in
            λ j l. row_ok e n ruled.well_formed t ruled.laid j (omega arith);
        words_room = room;
        views = views;
        few_records = some;
      }
    where
      within : (k : ℕ) → k < number → (0 < get_or ends k 0) × (get_or ends k 0 ≤ n)
      within k h =
          let m = ended.number in
          let at = ended.at k (omega arith) in
          let grows = start_grows fs (suc k) (length fs) (omega arith) in
          let all = ended.whole.all in
          let one = some_size (formula fs k) in
          (omega arith, omega arith)

  pub represented : (skips : Bool) (s : List ℕ) (v : View) → WholeView skips s v → falls s ≡ false → Represents t v s ends number fs (log_of skips s)
  represented skips s v made steady =
      let keeps = never_falls s steady in
      record {
        entries = e;
        count = n;
        ruled = ruled;
        ended = ended;
        shown = record { whole = whole_log skips s v made keeps; falls = positions_keep skips s keeps; agrees = whole_agrees skips s v made; unclosed = refl };
      }

-- WHAT A REASON SAYS, for any text that was lent

module _ (fs : List Formula) (L : Log) (k i : ℕ) (text₀ : List ℕ) (r : Option ℕ) (text' : List ℕ) where
  pub reasoned_ends : (end : ℕ) → r ≡ Some end → Reasoned fs L k i text₀ r text' →
      (k < columns fs) × (i < joint_progress fs L) × Wrote text₀ 0 (text (reason_in fs k L i)) end text'
  reasoned_ends end is reasoned = rw is at reasoned

-- CHECK 27

module _ (fs : List Formula) (L : Log) (k i : ℕ) (lent : List ℕ) where
  abbrev bytes : List ℕ
  bytes = text (reason_in fs k L i)

  pub copies_all : k < columns fs → i < joint_progress fs L → (text₀ lines : List ℕ) (end : ℕ) → Wrote text₀ 0 bytes end lines → end ≤ length lent →
      (lent' : List ℕ) → lent' ≡ take end lines ++ drop end lent → Copies fs L k i lent (Ok end) lent'
  copies_all one two text₀ lines end wrote room lent' copied =
      let all : end ≡ length bytes = let z = wrote.ends in omega arith in
      let none : unexplained_in fs L k i (length lent) ≡ false = rw (lt-leb (columns fs) k one, lt-leb (joint_progress fs L) i two, le-ltb (length lent) (length bytes) (omega arith)) refl in
      record {
        answer = rw none (ap (λ (m : ℕ). answer (Ok m)) all);
        bytes = rw none (copied ∙ ap (λ (b : List ℕ). b ++ drop end lent) wrote.content ∙ ap (λ (m : ℕ). bytes ++ drop m lent) all);
      }

-- THE REFUSALS BEFORE IT

module _ (rule log : List ℕ) (k i : ℕ) (lent : List ℕ) where
  -- check 27, and the log's checks before it
  abbrev last : ℕ
  last = first 27 (unexplained_in (formulas_of rule) (log_in log) k i (length lent)) 0

  abbrev later : ℕ
  later = or_else (whole_log_refusal log) last

  stopped : (e : Refusal) → explain_refusal rule log k i (length lent) ≡ number_of e → Explains rule log k i lent (Err e) lent
  stopped e is =
      let some = number_positive e in
      let z = ne_eqb (number_of e) 0 (λ none. omega arith) in
      record { answer = rw (is, z) refl; bytes = rw (is, z) refl }

  pub rule_refused : (e : Refusal) → number_of e ≡ refusal rule → Explains rule log k i lent (Err e) lent
  rule_refused e is =
      let some = number_positive e in
      stopped e (ap (λ (b : Bool). cond b later (refusal rule)) (ne_eqb (refusal rule) 0 (λ z. omega arith)) ∙ sym is)

  pub log_refused : refusal rule ≡ 0 → (e : Refusal) → number_of e ≡ whole_log_refusal log → Explains rule log k i lent (Err e) lent
  log_refused fine e is =
      let some = number_positive e in
      stopped e
      (ap (λ (b : Bool). cond b later (refusal rule)) (eq-eqb (refusal rule) 0 fine) ∙
      ap (λ (b : Bool). cond b last (whole_log_refusal log)) (ne_eqb (whole_log_refusal log) 0 (λ z. omega arith)) ∙ sym is)

  -- a log that passes its checks
  pub log_passes : whole_log_refusal log ≡ 0 → (record_count (records_of log) ≤ 1000000) × (falls (records_of log) ≡ false)
  log_passes fine = by (malformed log) refl (ltb 0 (dropped log)) (disordered (records_of log) 0 0) refl fine
    where
      by : (a : Bool) → malformed log ≡ a → (d b : Bool) → disordered (records_of log) 0 0 ≡ b → first 12 a (first 24 d (first 14 b 0)) ≡ 0 →
          (record_count (records_of log) ≤ 1000000) × (falls (records_of log) ≡ false)
      by true e d b f z = absurd (omega arith)
      by false e true b f z = absurd (omega arith)
      by false e false true f z = absurd (omega arith)
      by false e false false f z = ((well_formed_records log e).1.few, ((neither (falls (records_of log)) _).0 f).0)

  pub explained : refusal rule ≡ 0 → whole_log_refusal log ≡ 0 → (r : Result ℕ Refusal) (lent' : List ℕ) → Copies (formulas_of rule) (log_in log) k i lent r lent' → Explains rule log k i lent r lent'
  explained fine well r lent' copies = by (unexplained_in (formulas_of rule) (log_in log) k i (length lent)) refl
    where
      number : explain_refusal rule log k i (length lent) ≡ last
      number =
          ap (λ (b : Bool). cond b later (refusal rule)) (eq-eqb (refusal rule) 0 fine) ∙
          ap (λ (b : Bool). cond b last (whole_log_refusal log)) (eq-eqb (whole_log_refusal log) 0 well)

      by : (b : Bool) → unexplained_in (formulas_of rule) (log_in log) k i (length lent) ≡ b → Explains rule log k i lent r lent'
      by true e =
          let is : explain_refusal rule log k i (length lent) ≡ 27 = number ∙ ap (λ (b : Bool). first 27 b 0) e in
          record { answer = rw is (rw e at copies.answer); bytes = rw is (rw e at copies.bytes) }
      by false e =
          let is : explain_refusal rule log k i (length lent) ≡ 0 = number ∙ ap (λ (b : Bool). first 27 b 0) e in
          record { answer = rw is (rw e at copies.answer); bytes = rw is (rw e at copies.bytes) }
