-- THE THEOREM of paper 13: its claims hold of every formula of every accepted rule, over the log that the bytes are. Assumes nothing.
use Prim.Native.Nat.{ℕ, suc, ◌≤◌, ◌<◌}
use mathlib.Core.Bool.{Bool, true, false, cond}
use mathlib.Core.Logic.{⊎_elim}
use mathlib.Core.Path.{◌≡◌, refl, sym, ◌∙◌, ap, ap₂, subst}
use mathlib.Core.List.{List, [], ◌∷◌}
use native.Mathlib.Nat.{eq-or-lt_of_le}
use native.Mathlib.Omega.{arith}
use lib.Dec.{eqb}
use lib.ListN.{length}
use Rattle.mtl.specs.Formula.{Formula}
use Rattle.mtl.specs.Log.{Log, NeverFalls}
use Rattle.mtl.specs.Progress.{progress, joint_progress}
use Rattle.mtl.proofs.Bounded.{le_or_lt}
use Rattle.mtl.proofs.Closing.{settled_open}
use Rattle.bits.specs.Packed.{bit}
use Rattle.rule.specs.Entries.{version, count, decoded}
use Rattle.rule.specs.Postfix.{stack_after, formulas_or, formula, start}
use Rattle.rule.specs.Accepted.{Whole}
use Rattle.rule.specs.Refusal.{refusal}
use Rattle.rule.proofs.Acceptance.{accepted}
use Rattle.rule.proofs.Decoded.{length_decoded}
use Rattle.rule.proofs.Order.{some_size, start_grows}
use Rattle.rule.proofs.Stacks.{left_over}
use Rattle.trace.specs.Format.{records_of, skips_of}
use Rattle.trace.proofs.Laws.{ordered_iff}
use Rattle.trace.proofs.Positions.{positions_keep}
use Rattle.engine.proofs.Formulas.{last_at, last_below}
use Rattle.meaning.specs.Verdicts.{formulas_of, columns, verdict}
use Rattle.meaning.proofs.Laws.{joint_le, verdict_bit}
use Rattle.reasons.specs.Reason.{Says, Line, reason}
use Rattle.reasons.specs.Reason.Line.{empty, sentence}
use Rattle.reasons.specs.Facts.{Facts, formula_at}
use Rattle.reasons.specs.Text.{text}
use Rattle.reasons.specs.OfRule.{log_in, last_entry, reason_in, reason_of, FactsOf, answer_of, Asked, Alike, Claims}
use Rattle.reasons.proofs.Theorem.{LaidAt, facts_hold, facts_force}
use Rattle.reasons.proofs.Laid.{laid_at}
use Rattle.reasons.proofs.Apart.{same_text}

-- WHAT A REASON IS ABOUT

-- the entry and the position of a reason's first line
first_entry : List Line → ℕ
first_entry [] = 0
first_entry (empty ∷ ls) = 0
first_entry (sentence k i says ∷ ls) = k

first_position : List Line → ℕ
first_position [] = 0
first_position (empty ∷ ls) = 0
first_position (sentence k i says ∷ ls) = i

about : (φ : Formula) (k : ℕ) (L : Log) (i : ℕ) → (first_entry (reason φ k L i) ≡ k) × (first_position (reason φ k L i) ≡ i)
unfolding reason first_entry first_position
about (Formula.letter c) k L i = (refl, refl)
about (Formula.not φ) k L i = (refl, refl)
about (Formula.or φ ψ) k L i = (refl, refl)
about (Formula.previous low high φ) k L i = by (eqb i 0) _ _ _ _
  where
    by : (b : Bool) (s t : Says) (xs ys : List Line) →
        (first_entry (cond b (sentence k i s ∷ xs) (sentence k i t ∷ ys)) ≡ k) × (first_position (cond b (sentence k i s ∷ xs) (sentence k i t ∷ ys)) ≡ i)
    by true s t xs ys = (refl, refl)
    by false s t xs ys = (refl, refl)
about (Formula.next low high φ) k L i = (refl, refl)
about (Formula.since low high φ ψ) k L i = (refl, refl)
about (Formula.until low high φ ψ) k L i = (refl, refl)

-- no two formulas have one last entry
last_rises : (fs : List Formula) (k k' : ℕ) → k < k' → last_entry fs k < last_entry fs k'
unfolding start
last_rises fs k k' h = omega (arith, start_grows fs (suc k) k' h, some_size (formula fs k), some_size (formula fs k'))

last_apart : (fs : List Formula) (k k' : ℕ) → last_entry fs k ≡ last_entry fs k' → k ≡ k'
last_apart fs k k' e =
    ⊎_elim
    (λ (l : k ≤ k').
    ⊎_elim (λ (same : k ≡ k'). same) (λ (less : k < k'). absurd (omega (arith, last_rises fs k k' less))) (eq-or-lt_of_le {n = k} {m = k'} l))
    (λ (more : k' < k). absurd (omega (arith, last_rises fs k' k more)))
    (le_or_lt k k')

-- the lines of a list of formulas say which formula it is, and which position
about_one : (fs : List Formula) → 0 < length fs → (k k' : ℕ) (L L' : Log) (i i' : ℕ) → reason_in fs k L i ≡ reason_in fs k' L' i' → (k ≡ k') × (i ≡ i')
about_one [] some k k' L L' i i' e = absurd (omega arith)
about_one (φ ∷ fs) some k k' L L' i i' e =
    let gs = φ ∷ fs in
    let here = about (formula gs k) (last_entry gs k) L i in
    let there = about (formula gs k') (last_entry gs k') L' i' in
    (last_apart gs k k' (sym here.0 ∙ ap first_entry e ∙ there.0), sym here.1 ∙ ap first_position e ∙ there.1)

-- A LIST OF FORMULAS, each at its entries

module _ (at : ℕ → Formula) where
  Laid : List Formula → Type 0
  Laid fs = (k : ℕ) → k < length fs → LaidAt at (formula fs k) (last_entry fs k)

  answered_there : (fs : List Formula) (k : ℕ) (L : Log) (i : ℕ) → k < length fs → L.closed ≡ false → i < joint_progress fs L → i < progress (formula fs k) L
  answered_there fs k L i h unclosed a = omega (arith, joint_le fs L k h, settled_open (formula fs k) L unclosed)

  module _ (L : Log) (unclosed : L.closed ≡ false) (i : ℕ) where
    lines_hold : (fs : List Formula) → Laid fs → (k : ℕ) → k < columns fs → i < joint_progress fs L → NeverFalls L → Facts at L (reason_in fs k L i)
    unfolding Facts Laid
    lines_hold [] laid k h a falls = (tt, tt)
    lines_hold (φ ∷ fs) laid k h a falls =
        let gs = φ ∷ fs in
        facts_hold at L falls (formula gs k) (last_entry gs k) (laid k (omega arith)) i (answered_there gs k L i (omega arith) unclosed a)

    lines_force : (fs : List Formula) → Laid fs → (k : ℕ) → k < columns fs → i < joint_progress fs L → (K : Log) → NeverFalls K →
        Facts at K (reason_in fs k L i) → bit (verdict fs K i) k ≡ bit (verdict fs L i) k
    unfolding Laid
    lines_force [] laid k h a K falls told = refl
    lines_force (φ ∷ fs) laid k h a K falls told =
        let gs = φ ∷ fs in
        verdict_bit gs K i k (omega arith) ∙
        facts_force at K L falls (formula gs k) (last_entry gs k) (laid k (omega arith)) i (answered_there gs k L i (omega arith) unclosed a) told ∙
        sym (verdict_bit gs L i k (omega arith))

-- the same formula and position, and of an empty rule any position
same_answer : (fs : List Formula) (L : Log) (k k' i i' : ℕ) → k < columns fs → k' < columns fs → (0 < length fs → (k ≡ k') × (i ≡ i')) →
    bit (verdict fs L i) k ≡ bit (verdict fs L i') k'
same_answer [] L k k' i i' h h' same = let e : k ≡ k' = omega arith in ap (bit (verdict [] L i)) e
same_answer (φ ∷ fs) L k k' i i' h h' same = let e = same (omega arith) in ap₂ (λ (j n : ℕ). bit (verdict (φ ∷ fs) L j) n) e.1 e.0

-- AN ACCEPTED RULE

rule_laid : (rule : List ℕ) → refusal rule ≡ 0 → Laid (formula_at (decoded rule)) (formulas_of rule)
unfolding Laid
rule_laid rule fine k h =
    let a = accepted rule fine in
    let t = decoded rule in
    let n = count rule in
    let l = left_over (version rule) (stack_after t n) a.the_formulas a.reads in
    let whole : Whole t n (formulas_of rule) = subst (Whole t n) (sym (ap formulas_or a.reads)) a.whole in
    laid_at t n (omega (arith, a.few_entries, length_decoded rule)) l.stack l.stack_is (formula (formulas_of rule) k) (last_entry (formulas_of rule) k)
    (last_below t n a.well_formed (formulas_of rule) whole k h) (last_at t n a.well_formed (formulas_of rule) whole k h)

module _ (rule log : List ℕ) (k i : ℕ) (asked : Asked rule log k i) where
  pub never_falls : NeverFalls (log_in log)
  never_falls = positions_keep (skips_of log) (records_of log) ((ordered_iff (records_of log) 0 0).0 asked.ordered).0

  holds : FactsOf rule (log_in log) (reason_of rule log k i)
  holds = lines_hold (formula_at (decoded rule)) (log_in log) refl i (formulas_of rule) (rule_laid rule asked.accepted) k asked.one_of asked.answered never_falls

  forces : (K : Log) → NeverFalls K → FactsOf rule K (reason_of rule log k i) → answer_of rule k K i ≡ answer_of rule k (log_in log) i
  forces = lines_force (formula_at (decoded rule)) (log_in log) refl i (formulas_of rule) (rule_laid rule asked.accepted) k asked.one_of asked.answered

alike : (rule log log' : List ℕ) (k k' i i' : ℕ) → Asked rule log k i → Asked rule log' k' i' →
    text (reason_of rule log k i) ≡ text (reason_of rule log' k' i') → Alike rule log log' k k' i i'
alike rule log log' k k' i i' asked asked' e =
    let same = same_text (reason_of rule log k i) (reason_of rule log' k' i') e in
    let one : 0 < length (formulas_of rule) → (k ≡ k') × (i ≡ i') = λ some. about_one (formulas_of rule) some k k' (log_in log) (log_in log') i i' same in
    let told = subst (FactsOf rule (log_in log')) (sym same) (holds rule log' k' i' asked') in
    record {
      reason = same;
      formula = λ some. (one some).0;
      position = λ some. (one some).1;
      verdict =
          sym (forces rule log k i asked (log_in log') (never_falls rule log' k' i' asked') told) ∙
          same_answer (formulas_of rule) (log_in log') k k' i i' asked.one_of asked'.one_of one;
    }

-- THE THEOREM
pub explained : (rule log : List ℕ) (k i : ℕ) → Asked rule log k i → Claims rule log k i
explained rule log k i asked =
    record {
      hold = holds rule log k i asked;
      force = forces rule log k i asked;
      apart = λ log' k' i' asked' e. alike rule log log' k k' i i' asked asked' e;
    }
