-- The theorem of demand 2 for lists of calls, stated in specs/Calls.antt: each byte written says which of the rule's formulas hold.
-- Assumes nothing.
use Prim.Native.Nat.{ℕ, ◌+◌, ◌*◌, ◌/◌, ◌%◌, ◌<◌, ◌^◌}
use mathlib.Core.Bool.{Bool, true, false, cond}
use mathlib.Core.Logic.Iff
use mathlib.Core.Logic.{◌↔◌}
use mathlib.Core.Path.{◌≡◌, refl, sym, ◌∙◌, ap, subst}
use mathlib.Core.List.{List, [], ◌∷◌, ◌++◌}
use native.Mathlib.Nat.{div-eq_of_lt}
use native.Mathlib.Omega.{arith}
use lib.Dec.{ltb}
use lib.ListN.{length, get_or, length-append, get_or-append}
use borrow.Author.Tests.{le-ltb}
use Rattle.mtl.specs.Formula.{Formula}
use Rattle.mtl.specs.Log.{Log}
use Rattle.mtl.specs.Progress.{settled_to, joint_progress}
use Rattle.mtl.specs.Satisfaction.{any, sat}
use Rattle.mtl.proofs.Bounded.{any_false_iff}
use Rattle.mtl.proofs.Printed.{sat_iff}
use Rattle.mtl.proofs.Streams.{stream_iff}
use Rattle.mtl.proofs.Closing.{settled_open, settled_stays}
use Rattle.bits.specs.Packed.{number}
use Rattle.bits.proofs.Laws.{number_lt}
use Rattle.verdicts.specs.Bytes.{byte_of}
use Rattle.verdicts.specs.Counts.{counts, noes_in}
use Rattle.verdicts.specs.Tally.{beyond, tally_refusal}
use Rattle.verdicts.proofs.Bytes.{byte_of_one, byte_of_lt}
use Rattle.rule.specs.Entries.{version}
use Rattle.meaning.specs.Verdicts.{formulas_of, answers_of, columns, verdict, first_records, answered_number}
use Rattle.meaning.proofs.Laws.{length_answers}
use Rattle.monitor.specs.Summary.{counts_of}
use Rattle.monitor.proofs.Meaning.{most_few, rule_reads, few_columns}
use Rattle.monitor.proofs.VerdictBytes.{length_verdicts, verdict_at}
use Rattle.calls.specs.Calls.{Untouched, Call, given_by, brought_by, closed_by, before_closing, laid, Calls, ByteSays, Demand2}
use Rattle.calls.specs.Calls.OneCall.{refused, accepted as accepted_call, trimming}
use Rattle.calls.specs.Calls.Calls.{opened, and_then}
use Rattle.calls.proofs.Lending.{given_settled}
use Rattle.calls.proofs.Demand3.{invariant}

number_iff : (b : Bool) → (number b ≡ 1) ↔ (b ≡ true)
number_iff true = (λ e. refl, λ e. refl)
number_iff false = (λ e. absurd (omega arith), λ e. cc)

-- where a formula is settled at position i of K, its plain reading says whether it holds
abbrev Settles : (Holds : Formula → Type 0) → ℕ → Log → Type 0
Settles Holds i K = (φ : Formula) → i < settled_to φ K → (sat φ K i ≡ true) ↔ Holds φ

-- at a settled position the byte says of each formula what the formula itself says there
says : (Holds : Formula → Type 0) (fs : List Formula) (K : Log) (i : ℕ) → i < joint_progress fs K → Settles Holds i K → ByteSays Holds fs (verdict fs K i)
unfolding joint_progress byte_of
says Holds [] K i h each = refl
says Holds (φ ∷ []) K i h each = rw (byte_of_one (sat φ K i)) (Iff.trans (number_iff (sat φ K i)) (each φ (omega arith)))
says Holds (φ ∷ (ψ ∷ fs)) K i h each =
    let low = number_lt (sat φ K i) in
    let rest = verdict (ψ ∷ fs) K i in
    let first : (number (sat φ K i) + 2 * rest) % 2 ≡ number (sat φ K i) = omega arith in
    let others : rest ≡ (number (sat φ K i) + 2 * rest) / 2 = omega arith in (
      rw first (Iff.trans (number_iff (sat φ K i)) (each φ (omega arith))),
      subst (ByteSays Holds (ψ ∷ fs)) others (says Holds (ψ ∷ fs) K i (omega arith) each),
    )

no_bit_beyond : (fs : List Formula) (K : Log) (i : ℕ) → verdict fs K i < 2 ^ columns fs
no_bit_beyond fs K i =
    let answers = answers_of (λ φ. sat φ K i) fs in
    subst (λ n. byte_of answers < 2 ^ n) (length_answers (λ φ. sat φ K i) fs) (byte_of_lt answers)

module _ (rule log : List ℕ) (untouched : Untouched log) (h : List Call) (point : List ℕ) (calls : Calls rule log h point) where
  -- byte i is the verdict at position i, which is settled
  pub byte_at : (i : ℕ) → i < length (laid h) →
      (i < answered_number (closed_by h) rule log (brought_by h)) ×
      (get_or (laid h) i 0 ≡ verdict (formulas_of rule) (first_records (closed_by h) log (brought_by h)) i)
  byte_at i l =
      let inv = invariant rule log untouched calls in
      let fs = formulas_of rule in
      let L = first_records (closed_by h) log (brought_by h) in
      let settled = given_settled rule inv.fine L (brought_by h) (given_by h) point inv.reached.stands in
      let size = ap length inv.bytes ∙ length_verdicts fs L (given_by h) in
      (omega arith, ap (λ s. get_or s i 0) inv.bytes ∙ verdict_at fs L (given_by h) i (omega arith))

  byte_says : (Holds : Formula → Type 0) (i : ℕ) (l : i < length (laid h)) → Settles Holds i (first_records (closed_by h) log (brought_by h)) →
      ByteSays Holds (formulas_of rule) (get_or (laid h) i 0)
  byte_says Holds i l each =
      let (answered_there, is) = byte_at i l in
      subst (ByteSays Holds (formulas_of rule)) (sym is)
      (says Holds (formulas_of rule) (first_records (closed_by h) log (brought_by h)) i answered_there each)

nothing_left : (byte n : ℕ) → byte < 2 ^ n → ltb 0 (byte / 2 ^ n) ≡ false
nothing_left byte n h = rw (div-eq_of_lt h)

-- BEFORE THE FIRST CLOSING

-- the calls up to it are a list of calls
pub calls_before : {rule log : List ℕ} {h : List Call} {point : List ℕ} → Calls rule log h point →
    (earlier : List ℕ) × Calls rule log (before_closing h) earlier
unfolding before_closing
calls_before (opened lent p opens) = (_, opened lent p opens)
calls_before (and_then calls p p' lends (refused closed rule' log' sheet n q sheet' resumes)) = calls_before calls
calls_before (and_then calls p p' lends (trimming rule' log' out a out' trims)) = calls_before calls
calls_before (and_then calls p p' lends (accepted_call true n log' sheet c more q sheet' brought resumes)) = calls_before calls
calls_before (and_then calls p p' lends (accepted_call false n log' sheet c more q sheet' brought resumes)) =
    (_, and_then calls p p' lends (accepted_call false n log' sheet c more q sheet' brought resumes))

-- they leave the point open
pub open_before : (h : List Call) → closed_by (before_closing h) ≡ false
unfolding before_closing closed_by
open_before [] = refl
open_before (c ∷ older) = by c.closing refl (open_before older)
  where
    by : (b : Bool) → c.closing ≡ b → closed_by (before_closing older) ≡ false → closed_by (cond b (before_closing older) (c ∷ older)) ≡ false
    by true e older_open = older_open
    by false e older_open = e

-- their bytes are the first
pub laid_before : (h : List Call) (i : ℕ) → i < length (laid (before_closing h)) →
    (i < length (laid h)) × (get_or (laid h) i 0 ≡ get_or (laid (before_closing h)) i 0)
unfolding before_closing laid
laid_before [] i l = (l, refl)
laid_before (c ∷ older) i l = by c.closing l (laid_before older i)
  where
    by : (b : Bool) → i < length (laid (cond b (before_closing older) (c ∷ older))) →
        (i < length (laid (before_closing older)) → (i < length (laid older)) × (get_or (laid older) i 0 ≡ get_or (laid (before_closing older)) i 0)) →
        (i < length (laid older ++ c.bytes)) × (get_or (laid older ++ c.bytes) i 0 ≡ get_or (laid (cond b (before_closing older) (c ∷ older))) i 0)
    by true l earlier =
        let (there, same) = earlier l in
        (omega (arith, length-append (laid older) c.bytes), get_or-append (laid older) c.bytes 0 i there ∙ same)
    by false l earlier = (l, refl)

module _ (rule log : List ℕ) (untouched : Untouched log) (h : List Call) (point : List ℕ) (calls : Calls rule log h point) where
  early_says : (Holds : Formula → Type 0) (i : ℕ) (l : i < length (laid (before_closing h))) →
      Settles Holds i (first_records false log (brought_by (before_closing h))) → ByteSays Holds (formulas_of rule) (get_or (laid h) i 0)
  early_says Holds i l each =
      let (earlier, before) = calls_before calls in
      subst (ByteSays Holds (formulas_of rule)) (sym (laid_before h i l).1)
      (byte_says rule log untouched (before_closing h) earlier before Holds i l
      (subst (λ b. Settles Holds i (first_records b log (brought_by (before_closing h)))) (sym (open_before h)) each))

  -- THE THEOREM
  pub demand_2 : Demand2 rule log h
  demand_2 =
      let K = first_records (closed_by h) log (brought_by h) in
      let early = first_records false log (brought_by (before_closing h)) in
      let fine = (invariant rule log untouched calls).fine in
      record {
        reads = rule_reads rule fine;
        no_bit_beyond = λ i l. rw (byte_at rule log untouched h point calls i l).1 (no_bit_beyond (formulas_of rule) K i);
        on_log = λ L longer falls i l.
            early_says _ i l (λ φ there. rw (settled_stays φ early L longer falls i there) (sat_iff φ L i));
        on_stream = λ σ begins falls i l.
            early_says _ i l (λ φ there. stream_iff φ σ early falls begins i (omega (arith, settled_open φ early refl)));
        as_it_ends = λ i l. byte_says rule log untouched h point calls _ i l (λ φ there. sat_iff φ K i);
      }

  -- `tally` takes these bytes, and its counts of no are those that `summary` gives Demand3.summary
  pub tally_agrees : (tally_refusal (columns (formulas_of rule)) (laid h) ≡ 0) ×
      (counts false (columns (formulas_of rule)) (laid h) ≡ counts_of (λ k. noes_in k (laid h) (length (laid h))) (columns (formulas_of rule)))
  tally_agrees =
      let bytes = laid h in
      let n = columns (formulas_of rule) in
      let few = few_columns rule (invariant rule log untouched calls).fine in
      let eight = most_few (version rule) in
      let none : any (length bytes) (beyond n bytes) ≡ false =
      (any_false_iff (length bytes) (beyond n bytes)).1 (λ i l. nothing_left (get_or bytes i 0) n (demand_2.no_bit_beyond i l)) in
      (rw (le-ltb n 1 (omega arith), le-ltb 8 n (omega arith), none), refl)
