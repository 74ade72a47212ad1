-- The formulas of a rule, each at its last entry, and how far all have answered. Assumes nothing.
use Prim.Native.Nat.{ℕ, suc, ◌+◌, ◌-◌, ◌≤◌, ◌<◌, min, max}
use mathlib.Core.Bool.{Bool, true, false}
use mathlib.Core.Logic.{◌⊎◌, inl, inr, ⊎_elim}
use mathlib.Core.Path.{◌≡◌, refl, sym, ◌∙◌, ap, subst}
use mathlib.Core.List.{List, [], ◌∷◌}
use native.Mathlib.Omega.{arith}
use lib.Dec.{ltb}
use lib.ListN.{length, get_or}
use borrow.Author.Tests.{lt-ltb, le-ltb, ltb-true}
use Rattle.mtl.specs.Formula.{Formula}
use Rattle.mtl.specs.Log.{Log}
use Rattle.mtl.specs.Satisfaction.{sat}
use Rattle.mtl.specs.Progress.{settled_to, joint_progress}
use Rattle.mtl.proofs.Joint.{joint_le_size}
use Rattle.rule.specs.Postfix.{formula, start}
use Rattle.rule.specs.Operands.{FormulaAt}
use Rattle.rule.proofs.Order.{some_size, within_whole}
use Rattle.engine.proofs.Rows.{has_at, column_is_part}
use Rattle.meaning.specs.Verdicts.{columns}
use Rattle.meaning.proofs.Laws.{joint_le, joint_least}
use Rattle.std.specs.Borrow.{MutBor}
use Rattle.decimal.specs.Text.{ascii, Writes}
use Rattle.decimal.specs.Written.{Begins}
use Rattle.decimal.specs.declared.Text.{Text}
use Rattle.reasons.specs.Reason.{reason}
use Rattle.reasons.specs.Text.{text, spaced_line}
use Rattle.reasons.specs.OfRule.{last_entry, reason_in}
use Rattle.search.specs.declared.Scan.{Scan}
use Rattle.search.specs.Scan.{Scanned, Scans}
use Rattle.search.proofs.Zeros.{zero_state}
use Rattle.window.specs.View.{total}
use Rattle.window.specs.declared.view.View.{View}
use Rattle.sentences.specs.Said.{Answering}
use Rattle.telling.specs.Lines.{Wrote, Tells}
use Rattle.explain.specs.Code.{Represents, AllAnswered}
use Rattle.telling.proofs.Writing.{wrote_line}
use Rattle.engine.specs.declared.table.Row.{Row}

module _ (t : List Row) (v : View) (s ends : List ℕ) (number : ℕ) (fs : List Formula) (L : Log) (told : Represents t v s ends number fs L) (k : ℕ) (h : k < number) where
  known : k < length fs
  known = let n = told.ended.number in omega arith

  -- the formula's last entry is the one that the reason names
  pub last_is : get_or ends k 0 - 1 ≡ last_entry fs k
  unfolding start
  last_is = ap (λ (n : ℕ). n - 1) (told.ended.at k known)

  last_below : last_entry fs k < told.count
  last_below = let w = within_whole told.entries told.count fs told.ended.whole k known in let s = some_size (formula fs k) in omega arith

  last_formula : FormulaAt told.entries (last_entry fs k) (formula fs k)
  last_formula = (told.ended.whole.each k known).at_last

  pub last_answers : (i : ℕ) → i < settled_to (formula fs k) L → Answering (formula fs k) t v s (get_or ends k 0 - 1) L i
  last_answers i a =
      record {
        entries = told.entries;
        count = told.count;
        ruled = told.ruled;
        below = rw last_is last_below;
        formula = rw last_is last_formula;
        shown = told.shown;
        answered = a;
      }

  pub last_scanned : (want : Bool) (from to : ℕ) (r : Scan) → Scans t v s (get_or ends k 0 - 1) want from to r →
      Scanned (sat (formula fs k) L) want from (min to (settled_to (formula fs k) L)) r
  last_scanned want from to r scans =
      let ok = told.ruled.well_formed in
      let laid = told.ruled.laid in
      scans (formula fs k) L
      (rw last_is (has_at told.entries told.count ok t laid (formula fs k) (last_entry fs k) last_below last_formula))
      told.shown.falls told.shown.agrees
      (rw last_is (λ ws long none.
      zero_state told.entries told.count ok (formula fs k) (last_entry fs k) last_below last_formula L ws
      (long ∙ column_is_part told.entries told.count ok t laid (last_entry fs k) last_below) none))

-- the first k formulas have answered position i
abbrev pub Reached : (t : List Row) (v : View) (s ends : List ℕ) (number i k : ℕ) → Type 0
Reached t v s ends number i k = (fs : List Formula) (L : Log) → Represents t v s ends number fs L → (j : ℕ) → j < k → i < settled_to (formula fs j) L

module _ (t : List Row) (v : View) (s ends : List ℕ) (number i : ℕ) where
  pub reached_none : Reached t v s ends number i 0
  reached_none fs L told j h = absurd (omega arith)

  pub reached_next : (k : ℕ) → k < number → Reached t v s ends number i k → (r : Scan) → Scans t v s (get_or ends k 0 - 1) true 0 (i + 1) r → i < r.done →
      Reached t v s ends number i (k + 1)
  reached_next k h reached r scans passed fs L told j l =
      mathlib.Core.Logic.⊎_elim
      (λ (a : k ≤ j).
      let e : j ≡ k = omega arith in
      let all = (last_scanned t v s ends number fs L told k h true 0 (i + 1) r scans).all in
      let now : i < settled_to (formula fs k) L = omega arith in
      rw e now)
      (λ (a : j < k). reached fs L told j a)
      (Rattle.mtl.proofs.Bounded.le_or_lt k j)

  pub all_reached : Reached t v s ends number i number → (fs : List Formula) (L : Log) → Represents t v s ends number fs L → i < L.size → true ≡ ltb i (joint_progress fs L)
  all_reached reached fs L told inside =
      let n = told.ended.number in
      let most = joint_least fs L (suc i) inside (λ j h. reached fs L told j (omega arith)) in
      sym (lt-ltb i (joint_progress fs L) (omega arith))

  pub not_reached : (k : ℕ) → k < number → (r : Scan) → Scans t v s (get_or ends k 0 - 1) true 0 (i + 1) r → r.done ≤ i →
      (fs : List Formula) (L : Log) → Represents t v s ends number fs L → i < L.size → false ≡ ltb i (joint_progress fs L)
  not_reached k h r scans short fs L told inside =
      let n = told.ended.number in
      let all = (last_scanned t v s ends number fs L told k h true 0 (i + 1) r scans).all in
      let least = joint_le fs L k (omega arith) in
      sym (le-ltb i (joint_progress fs L) (omega arith))

-- THE REASON OF ONE FORMULA

-- an empty rule's
empty_text : (fs : List Formula) (k : ℕ) (L : Log) (i : ℕ) → length fs ≡ 0 → text (reason_in fs k L i) ≡ ascii "empty\n"
unfolding text spaced_line ascii
empty_text [] k L i none = refl
empty_text (φ ∷ fs) k L i none = absurd (omega arith)

-- another's
there_text : (fs : List Formula) (k : ℕ) (L : Log) (i : ℕ) → 0 < length fs → reason_in fs k L i ≡ reason (formula fs k) (last_entry fs k) L i
there_text [] k L i some = absurd (omega arith)
there_text (φ ∷ fs) k L i some = refl

module _ (t : List Row) (v : View) (s ends : List ℕ) (number k i : ℕ) (text₀ : List ℕ) where
  -- there is no such formula, or no such position
  pub none_there : (columns_are : ℕ) → columns_are ≡ max 1 number → (columns_are ≤ k) ⊎ (total v ≤ i) →
      (fs : List Formula) (L : Log) → Represents t v s ends number fs L → (columns fs ≤ k) ⊎ (joint_progress fs L ≤ i)
  none_there c is far fs L told =
      let n = told.ended.number in
      let size = told.shown.whole.size in
      let most = joint_le_size fs L in
      ⊎_elim (λ (h : c ≤ k). inl (omega arith)) (λ (h : total v ≤ i). inr (omega arith)) far

  module _ (columns_are : ℕ) (columns_is : columns_are ≡ max 1 number) (one_of_lem : k < columns_are) (inside : i < total v) (answered : AllAnswered t v s ends number i true) where
    below : (fs : List Formula) (L : Log) → Represents t v s ends number fs L → (k < columns fs) × (i < joint_progress fs L)
    below fs L told =
        let n = told.ended.number in
        let size = told.shown.whole.size in
        (omega arith, ltb-true i (joint_progress fs L) (sym (answered fs L told (omega arith))))

    pub empty_reasoned : number ≡ 0 → (end : ℕ) (text' : List ℕ) → Writes text₀ 0 (ascii "empty\n") end text' →
        (fs : List Formula) (L : Log) → Represents t v s ends number fs L →
        (k < columns fs) × (i < joint_progress fs L) × Wrote text₀ 0 (text (reason_in fs k L i)) end text'
    empty_reasoned none end text' writes fs L told =
        let n = told.ended.number in
        let (one, two) = below fs L told in
        (one, two, rw (empty_text fs k L i (omega arith)) (wrote_line writes (omega arith)))

    -- `lent` is written through a text of its own, which ends where the written text does
    pub formula_reasoned : (number ≡ 0 → ⊥) → {lent : MutBor (List ℕ)} → lent.now ≡ text₀ → {begun after : Text} {holds : Bool} → Begins lent begun →
        Tells t v s (get_or ends k 0 - 1) i begun holds after → (end : ℕ) (text' : List ℕ) → end ≡ after.at → text' ≡ after.bytes.now →
        (fs : List Formula) (L : Log) → Represents t v s ends number fs L →
        (k < columns fs) × (i < joint_progress fs L) × Wrote text₀ 0 (text (reason_in fs k L i)) end text'
    formula_reasoned some is {begun} {after} begins tells end text' ends_there same_bytes fs L told =
        let n = told.ended.number in
        let (one, two) = below fs L told in
        let here : k < number = omega arith in
        let least = joint_le fs L k (omega arith) in
        let last = last_is t v s ends number fs L told k here in
        let (same, wrote) = tells.meaning (formula fs k) L (last_answers t v s ends number fs L told k here i (omega arith)) in (
          one,
          two,
          rw (ends_there, same_bytes, there_text fs k L i (omega arith))
              (subst (λ (m : ℕ). Wrote text₀ 0 (text (reason (formula fs k) m L i)) after.at after.bytes.now) last (rw (begins.lent ∙ is, begins.nothing) at wrote)),
        )
