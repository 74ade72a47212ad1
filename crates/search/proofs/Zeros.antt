-- Words of zeros stand for every subformula of a rule at position 0. Assumes nothing.
use Prim.Native.Nat.{ℕ, suc, ◌+◌, ◌≤◌, ◌<◌}
use mathlib.Core.Path.{◌≡◌, sym, ◌∙◌, subst}
use mathlib.Core.List.{List}
use native.Mathlib.Omega.{arith}
use mathlib.Core.Logic.{⊎_elim}
use Rattle.mtl.proofs.Bounded.{le_or_lt}
use lib.ListN.{length, get_or, take, drop, replicate, length-take, length-drop, length-replicate, get_or-eq_default}
use lib.Seq.{ext_get_or, get_or-take, get_or-drop, length-take-le}
use Rattle.mtl.specs.Formula.{Formula}
use Rattle.mtl.specs.Log.{Log}
use Rattle.rule.specs.declared.Entry.{Entry}
use Rattle.rule.specs.Words.{offset}
use Rattle.rule.specs.Operands.{subformula_words, FormulaAt}
use Rattle.rule.specs.Accepted.{WellFormed}
use Rattle.engine.specs.State.{State}
use Rattle.engine.specs.Layout.{subformula_first}
use Rattle.engine.proofs.Rows.{repeated}
use Rattle.engine.proofs.Entries.{part_words, part_ends, fresh_state}
use Rattle.rule.proofs.Spans.{offset_mono}

module _ (t : List Entry) (n : ℕ) (ok : WellFormed t n) (φ : Formula) (k : ℕ) (h : k < n) (is : FormulaAt t k φ) (L : Log) where
  abbrev W : List ℕ
  W = replicate (offset t n) 0

  all_zero : (m i : ℕ) → get_or (drop m W) i 0 ≡ 0
  all_zero m i = get_or-drop m W i 0 ∙ repeated (offset t n) (m + i) 0

  long : length W ≡ offset t n
  long = length-replicate (offset t n) 0

  part_room : subformula_words t k ≤ length (drop (offset t (subformula_first t k)) W)
  part_room =
      let p = part_ends t W k in
      let g = offset_mono t (suc k) n h in
      let d = length-drop (offset t (subformula_first t k)) W in
      let l = long in
      omega arith

  pub zero_state : (ws : List ℕ) → length ws ≡ subformula_words t k → ((i : ℕ) → get_or ws i 0 ≡ 0) → State φ L 0 ws
  zero_state ws size none =
      subst (State φ L 0)
      (ext_get_or 0 (part_words t k W) ws
      (length-take-le (subformula_words t k) (drop (offset t (subformula_first t k)) W) part_room ∙ sym size)
      (λ i b. get_or-take (subformula_words t k) (drop (offset t (subformula_first t k)) W) i 0 (omega (arith, length-take-le (subformula_words t k) (drop (offset t (subformula_first t k)) W) part_room)) ∙ all_zero (offset t (subformula_first t k)) i ∙ sym (none i)))
      (fresh_state t n ok W (omega (arith, long)) φ k h is L (λ j a b. record { own = λ i h. all_zero (offset t j) i; waiting = λ e. all_zero (offset t j) 16 }))

-- a front of zeros
pub zero_front : (n : ℕ) (ws : List ℕ) → ((i : ℕ) → get_or ws i 0 ≡ 0) → (i : ℕ) → get_or (take n ws) i 0 ≡ 0
zero_front n ws none i =
    ⊎_elim
    (λ (h : n ≤ i). get_or-eq_default (take n ws) 0 (let l = length-take n ws in omega arith))
    (λ (h : i < n). get_or-take n ws i 0 h ∙ none i)
    (le_or_lt n i)
