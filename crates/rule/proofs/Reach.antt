-- The reach that `measure` gives, as a promise about every log: the step from the logic's reach to the rule's.
use Prim.Native.Nat.{ℕ, suc, ◌+◌, ◌-◌, ◌<◌}
use native.Mathlib.Omega.{arith}
use mathlib.Core.Bool.{true, false, ◌&&◌}
use mathlib.Core.Bool.{not as negate}
use mathlib.Core.Logic.{⊎_elim}
use mathlib.Core.List.{List, [], ◌∷◌}
use mathlib.Core.Option.{some}
use lib.ListN.{length}
use mathlib.Core.Path.{◌≡◌, refl, ap, ◌∙◌}
use lib.Dec.{eqb}
use borrow.Author.Tests.{ne_eqb}
use Rattle.mtl.specs.Formula.{Formula, unbounded, has_next, untils_end, largest}
use Rattle.mtl.specs.Formula.Formula.{letter, not, or, previous, next, since, until}
use Rattle.mtl.specs.Log.{Log, NeverFalls}
use Rattle.mtl.specs.Progress.{joint_progress}
use Rattle.mtl.proofs.Bounded.{and_iff}
use Rattle.mtl.proofs.Closing.{progress_le_settled}
use Rattle.mtl.proofs.Reach.{reach_answered}
use Rattle.rule.specs.declared.Entry.{Entry}
use Rattle.rule.specs.Entries.{count, decoded, entry}
use Rattle.rule.specs.Postfix.{size, formula, start}
use Rattle.rule.specs.Operands.{left, FormulaAt}
use Rattle.rule.specs.Accepted.{FieldsInRange, WellFormed, Whole, Accepted}
use Rattle.rule.specs.Measure.{some_next, farthest, reach_of, measured}
use Rattle.rule.specs.Refusal.{refusal}
use Rattle.rule.proofs.Headers.{or_left, or_right}
use Rattle.rule.proofs.Order.{some_size, within_whole}

-- where every entry lies in its ranges, every until has an upper end
untils : (t : List Entry) (n : ℕ) → ((k : ℕ) → k < n → FieldsInRange (entry t k)) → (φ : Formula) (k : ℕ) → k < n → FormulaAt t k φ → untils_end φ ≡ true
unfolding FormulaAt untils_end
untils t n ranges (letter l) k h a = refl
untils t n ranges (not φ) k h a = untils t n ranges φ (k - 1) (omega arith) a.2
untils t n ranges (or φ ψ) k h a =
    (and_iff (untils_end φ) (untils_end ψ)).1
    (untils t n ranges φ (left t k) (omega arith) a.2, untils t n ranges ψ (k - 1) (omega arith) a.3)
untils t n ranges (previous low high φ) k h a = untils t n ranges φ (k - 1) (omega arith) a.2
untils t n ranges (next low high φ) k h a = untils t n ranges φ (k - 1) (omega arith) a.2
untils t n ranges (since low high φ ψ) k h a =
    (and_iff (untils_end φ) (untils_end ψ)).1
    (untils t n ranges φ (left t k) (omega arith) a.2, untils t n ranges ψ (k - 1) (omega arith) a.3)
untils t n ranges (until low high φ ψ) k h a =
    (and_iff (negate (eqb high unbounded)) (untils_end φ && untils_end ψ)).1 (
      ap negate (ne_eqb high unbounded ends),
      (and_iff (untils_end φ) (untils_end ψ)).1
          (untils t n ranges φ (left t k) (omega arith) a.2, untils t n ranges ψ (k - 1) (omega arith) a.3),
    )
  where
    ends : high ≡ unbounded → ⊥
    ends u =
        let r = (ranges k h).high in
        let kind : (entry t k).kind ≡ 6 = ap (λ (e : Entry). e.kind) a.0 in
        let same : (entry t k).high ≡ high = ap (λ (e : Entry). e.high) a.0 in
        ⊎_elim (λ l. omega arith) (λ w. let most = w.2 in omega arith) r

-- the same of each of a rule's formulas
untils_all : (t : List Entry) (n : ℕ) (fs : List Formula) → WellFormed t n → Whole t n fs
    → (k : ℕ) → k < length fs → untils_end (formula fs k) ≡ true
untils_all t n fs ok w k h =
    untils t n ok.in_range (formula fs k) (start fs k + size (formula fs k) - 1)
    (omega (arith, within_whole t n fs w k h, some_size (formula fs k))) (w.each k h).at_last

-- of any number of formulas
all_answered : (fs : List Formula) → ((k : ℕ) → k < length fs → untils_end (formula fs k) ≡ true) → some_next fs ≡ false
    → (L : Log) → NeverFalls L → (i : ℕ) → i < L.size → L.time i + farthest fs < L.time (L.size - 1) → i < joint_progress fs L
unfolding largest joint_progress
all_answered [] ends free L falls i h far = h
all_answered (φ ∷ fs) ends free L falls i h far =
    let own = reach_answered φ L (or_left (has_next φ) (some_next fs) free) (ends 0 (omega arith)) falls i h (omega arith) in
    let others =
    all_answered fs (λ k l. ends (suc k) (omega arith)) (or_right (has_next φ) (some_next fs) free) L falls i h (omega arith) in
    omega (arith, progress_le_settled φ L)

-- THEOREM, of every rule that is not refused. "For rules without next, position i is answered whenever the last record lies
-- more than the reach after i. .. A rule with next has reach 4,294,967,295, meaning none."
module _ (s : List ℕ) (a : Accepted s) (e : refusal s ≡ 0) where
  reach_is : (measured s).reach ≡ reach_of (some a.the_formulas)
  reach_is = rw (e, a.reads)

  pub no_reach : some_next a.the_formulas ≡ true → (measured s).reach ≡ unbounded
  no_reach h = reach_is ∙ simp h

  pub answered_by_reach : some_next a.the_formulas ≡ false → (L : Log) → NeverFalls L →
      (i : ℕ) → i < L.size → L.time i + (measured s).reach < L.time (L.size - 1) → i < joint_progress a.the_formulas L
  answered_by_reach free L falls i h far =
      let own : reach_of (some a.the_formulas) ≡ farthest a.the_formulas = simp free in
      all_answered a.the_formulas (untils_all (decoded s) (count s) a.the_formulas a.well_formed a.whole) free L falls i h
      (omega (arith, reach_is))
