-- "Each bit is the verdict that its formula would get in a run of its own": the theorems of specs/Alone.antt. Assumes nothing.
use Prim.Native.Nat.{ℕ, zero, suc, ◌+◌, ◌≤◌, ◌<◌}
use mathlib.Core.Bool.{Bool, true, false, false≢true}
use mathlib.Core.Path.{◌≡◌, refl, sym, ◌∙◌, ap, subst}
use mathlib.Core.List.{List, [], ◌∷◌, append-nil}
use native.Mathlib.Omega.{arith}
use lib.ListN.{length, take, drop}
use lib.Seq.{take_at, drop-append-add}
use Rattle.mtl.specs.Formula.{Formula}
use Rattle.mtl.specs.Log.{Log, NeverFalls, Continues}
use Rattle.mtl.specs.Satisfaction.{sat}
use Rattle.mtl.specs.Progress.{joint_progress}
use Rattle.mtl.proofs.Joint.{joint_le_size}
use Rattle.bits.specs.Packed.{bit, number}
use Rattle.verdicts.proofs.Bytes.{byte_of_one}
use Rattle.rule.specs.Entries.{entries}
use Rattle.rule.specs.Postfix.{formulas_or, postfix, postfixes, size, formula, start}
use Rattle.rule.specs.Encoding.{rule_of}
use Rattle.rule.specs.Refusal.{refusal}
use Rattle.rule.proofs.Acceptance.{accepted}
use Rattle.rule.proofs.Flat.{length_postfix}
use Rattle.rule.proofs.Alone.{alone_formulas}
use Rattle.rule.proofs.Alone.{Alone as Accepts, alone as accepts}
use Rattle.meaning.specs.Verdicts.{formulas_of, verdict, first_records}
use Rattle.meaning.proofs.Laws.{joint_le, verdict_bit, verdict_stays}
use Rattle.calls.specs.Calls.{Untouched, Call, brought_by, closed_by, Calls}
use Rattle.calls.specs.Alone.{AloneOn, rule_alone, SameVerdicts, Comparable, SameWhereComparable, Alone}
use Rattle.calls.proofs.Demand3.{first_longer, first_falls}
use Rattle.calls.proofs.Truth.{byte_at}

-- OVER THE DEFINITIONS

-- THE THEOREM for any number of formulas
pub alone_on : (L : Log) (fs : List Formula) (k : ℕ) → k < length fs → AloneOn L fs k
unfolding joint_progress
alone_on L fs k h =
    record {
      same = λ i. ap number (verdict_bit fs L i k h) ∙ sym (byte_of_one (sat (formula fs k) L i));
      no_fewer = omega (arith, joint_le fs L k h, joint_le_size fs L);
    }

-- THE RULE OF ONE FORMULA

start_next : (φ : Formula) (fs : List Formula) (k : ℕ) → start (φ ∷ fs) (suc k) ≡ size φ + start fs k
unfolding start
start_next φ fs zero = omega arith
start_next φ fs (suc k) = omega (arith, start_next φ fs k)

-- the entries of formula k among those of all
its_entries : (fs : List Formula) (k : ℕ) → k < length fs → take (size (formula fs k)) (drop (start fs k) (postfixes fs)) ≡ postfix (formula fs k)
unfolding postfixes start
its_entries [] k h = absurd (omega arith)
its_entries (φ ∷ fs) zero h = take_at (postfix φ) (postfixes fs) (size φ) (length_postfix φ)
its_entries (φ ∷ fs) (suc k) h =
    let behind : start (φ ∷ fs) (suc k) ≡ length (postfix φ) + start fs k = omega (arith, start_next φ fs k, length_postfix φ) in
    rw (behind, drop-append-add (postfix φ) (postfixes fs) (start fs k)) (its_entries fs k (omega arith))

module _ (φ : Formula) (one : Accepts φ) where
  reads_one : formulas_of (rule_of φ) ≡ φ ∷ []
  reads_one =
      let b = accepted (rule_of φ) one.accepted in
      ap formulas_or b.reads ∙ alone_formulas φ one b

  entries_one : entries (rule_of φ) ≡ postfix φ
  unfolding postfixes
  entries_one =
      let b = accepted (rule_of φ) one.accepted in
      sym b.read_back ∙ ap postfixes (alone_formulas φ one b) ∙ append-nil (postfix φ)

-- THE VERDICTS OF TWO LISTS OF CALLS

both_alike : (closed closed' : Bool) (n n' : ℕ) → closed ≡ closed' → n ≡ n' → Comparable closed closed' n n'
both_alike false false n n' e records = tt
both_alike false true n n' e records = absurd (false≢true e)
both_alike true false n n' e records = absurd (false≢true (sym e))
both_alike true true n n' e records = records

module _ (rule log : List ℕ) (untouched : Untouched log) where
  -- a log that continues those of both lists
  common : (closed closed' : Bool) (n n' : ℕ) → Comparable closed closed' n n' →
      (L : Log) × Continues (first_records closed log n) L × Continues (first_records closed' log n') L × NeverFalls L
  common false false n n' both = (
    first_records false log (n + n'),
    first_longer rule log untouched false false n (n + n') (omega arith) (λ e. absurd (false≢true e)),
    first_longer rule log untouched false false n' (n + n') (omega arith) (λ e. absurd (false≢true e)),
    first_falls rule log untouched false (n + n'),
  )
  common false true n n' both = (
    first_records true log n',
    first_longer rule log untouched false true n n' both (λ e. absurd (false≢true e)),
    first_longer rule log untouched true true n' n' (omega arith) (λ e. (refl, refl)),
    first_falls rule log untouched true n',
  )
  common true false n n' both = (
    first_records true log n,
    first_longer rule log untouched true true n n (omega arith) (λ e. (refl, refl)),
    first_longer rule log untouched false true n' n both (λ e. absurd (false≢true e)),
    first_falls rule log untouched true n,
  )
  common true true n n' both = (
    first_records true log n',
    first_longer rule log untouched true true n n' (omega arith) (λ e. (refl, both)),
    first_longer rule log untouched true true n' n' (omega arith) (λ e. (refl, refl)),
    first_falls rule log untouched true n',
  )

  -- a verdict that is settled on the first n records, closed and open, is the same on both
  closed_or_open : (fs : List Formula) (closed closed' : Bool) (n i : ℕ) →
      i < joint_progress fs (first_records closed log n) → i < joint_progress fs (first_records closed' log n) →
      verdict fs (first_records closed log n) i ≡ verdict fs (first_records closed' log n) i
  closed_or_open fs closed closed' n i l l' =
      let end = first_records true log n in
      let falls = first_falls rule log untouched true n in
      verdict_stays fs (first_records closed log n) end (first_longer rule log untouched closed true n n (omega arith) (λ e. (refl, refl))) falls i l ∙
      sym (verdict_stays fs (first_records closed' log n) end (first_longer rule log untouched closed' true n n (omega arith) (λ e. (refl, refl))) falls i l')

  module _ (k : ℕ) (among : k < length (formulas_of rule)) (one : Accepts (formula (formulas_of rule) k)) where
    same_comparable : (h : List Call) (point : List ℕ) → Calls rule log h point → (h' : List Call) (point' : List ℕ) → Calls (rule_alone rule k) log h' point' →
        SameWhereComparable rule log k h h'
    same_comparable h point calls h' point' calls' closed closed' both i there there' l l' =
        let fs = formulas_of rule in
        let φ = formula fs k in
        let n = brought_by h in
        let n' = brought_by h' in
        let K = first_records (closed_by h) log n in
        let K' = first_records (closed_by h') log n' in
        let only : formulas_of (rule_alone rule k) ≡ φ ∷ [] = reads_one φ one in
        let (L, longer, longer', falls) = common closed closed' n n' both in
        let (settled, is) = byte_at rule log untouched h point calls i l in
        let (settled', is') = byte_at (rule_alone rule k) log untouched h' point' calls' i l' in
        let own : i < joint_progress (φ ∷ []) K = omega (arith, settled, (alone_on K fs k among).no_fewer) in
        let own' : i < joint_progress (φ ∷ []) K' = subst (λ gs. i < joint_progress gs K') only settled' in
        let at : i < joint_progress (φ ∷ []) (first_records closed log n) = subst (λ gs. i < joint_progress gs (first_records closed log n)) only there in
        let at' : i < joint_progress (φ ∷ []) (first_records closed' log n') = subst (λ gs. i < joint_progress gs (first_records closed' log n')) only there' in
        ap (λ b. number (bit b k)) is ∙ (alone_on K fs k among).same i ∙
        closed_or_open (φ ∷ []) (closed_by h) closed n i own at ∙
        verdict_stays (φ ∷ []) (first_records closed log n) L longer falls i at ∙
        sym (verdict_stays (φ ∷ []) (first_records closed' log n') L longer' falls i at') ∙
        closed_or_open (φ ∷ []) closed' (closed_by h') n' i at' own' ∙
        ap (λ gs. verdict gs K' i) (sym only) ∙ sym is'

    -- what both have given both have answered
    same_verdicts : (h : List Call) (point : List ℕ) → Calls rule log h point → (h' : List Call) (point' : List ℕ) → Calls (rule_alone rule k) log h' point' →
        SameVerdicts k h h'
    same_verdicts h point calls h' point' calls' records closings i l l' =
        let fs = formulas_of rule in
        let φ = formula fs k in
        let K = first_records (closed_by h) log (brought_by h) in
        let settled = (byte_at rule log untouched h point calls i l).0 in
        let own : i < joint_progress (φ ∷ []) K = omega (arith, settled, (alone_on K fs k among).no_fewer) in
        same_comparable h point calls h' point' calls' (closed_by h) (closed_by h') (both_alike (closed_by h) (closed_by h') _ _ closings records) i
        (subst (λ gs. i < joint_progress gs K) (sym (reads_one φ one)) own)
        (byte_at (rule_alone rule k) log untouched h' point' calls' i l').0 l l'

-- THE THEOREM of the calls, for every accepted rule and each of its formulas
pub alone : (rule : List ℕ) → refusal rule ≡ 0 → (k : ℕ) → k < length (formulas_of rule) → Alone rule k
alone rule fine k among =
    let a = accepted rule fine in
    let fs = formulas_of rule in
    let those : a.the_formulas ≡ fs = sym (ap formulas_or a.reads) in
    let one : Accepts (formula fs k) = subst (λ gs. k < length gs → Accepts (formula gs k)) those (accepts rule a fine k) among in
    let back : postfixes fs ≡ entries rule = subst (λ gs. postfixes gs ≡ entries rule) those a.read_back in
    record {
      version_is = one.version_is;
      entries_are = entries_one (formula fs k) one ∙ sym (its_entries fs k among) ∙ ap (λ es. take (size (formula fs k)) (drop (start fs k) es)) back;
      accepted = one.accepted;
      reads = reads_one (formula fs k) one;
      no_fewer = λ closed log n.
          let L = first_records closed log n in
          subst (λ gs. joint_progress fs L ≤ joint_progress gs L) (sym (reads_one (formula fs k) one)) (alone_on L fs k among).no_fewer;
      same = λ log untouched h point calls h' point' calls'. same_verdicts rule log untouched k among one h point calls h' point' calls';
      same_comparable = λ log untouched h point calls h' point' calls'. same_comparable rule log untouched k among one h point calls h' point' calls';
    }
