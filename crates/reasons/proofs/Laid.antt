-- The subformulas of an accepted rule stand at their entries. Assumes nothing.
use Prim.Native.Nat.{ℕ, suc, ◌-◌, ◌≤◌, ◌<◌}
use mathlib.Core.Path.{◌≡◌, refl, sym, ◌∙◌, ap, subst}
use mathlib.Core.List.{List, []}
use mathlib.Core.Option.{Option, none, some}
use native.Mathlib.Omega.{arith}
use lib.ListN.{length, take}
use Rattle.mtl.specs.Formula.{Formula}
use Rattle.rule.specs.declared.Entry.{Entry}
use Rattle.rule.specs.Postfix.{read, stack_after, postfix}
use Rattle.rule.specs.Operands.{span, left, FormulaAt}
use Rattle.rule.proofs.Stacks.{read_append, stays_none, no_stack}
use Rattle.rule.proofs.Subformulas.{span_size}
use Rattle.rule.proofs.Flat.{ends, read_postfix}
use Rattle.reasons.specs.Facts.{top, formula_at}
use Rattle.reasons.proofs.Theorem.{LaidAt}

module _ (t : List Entry) (n : ℕ) (few : n ≤ length t) (fs : List Formula) (reads : stack_after t n ≡ some fs) where
  -- before any of the n entries there is a stack
  stack_there : (k : ℕ) → k ≤ n → (gs : List Formula) × (stack_after t k ≡ some gs)
  stack_there k h = by (stack_after t k) refl
    where
      by : (o : Option (List Formula)) → stack_after t k ≡ o → (gs : List Formula) × (stack_after t k ≡ some gs)
      by none e = no_stack (sym (stays_none t k n h e) ∙ reads)
      by (some gs) e = (gs, e)

  at_own : (φ : Formula) (k : ℕ) → k < n → FormulaAt t k φ → formula_at t k ≡ φ
  at_own φ k h is =
      let (gs, e) = stack_there (suc k - span t k) (omega arith) in
      ap top
      (ap (λ (l : List Entry). read l (some [])) (ends t φ k (omega arith) is) ∙
      read_append (take (suc k - span t k) t) (postfix φ) (some []) ∙
      ap (read (postfix φ)) e ∙ read_postfix φ gs)

  pub laid_at : (φ : Formula) (k : ℕ) → k < n → FormulaAt t k φ → LaidAt (formula_at t) φ k
  unfolding LaidAt FormulaAt
  laid_at (Formula.letter c) k h is = at_own (Formula.letter c) k h is
  laid_at (Formula.not φ) k h is = (at_own (Formula.not φ) k h is, laid_at φ (k - 1) (omega arith) is.2)
  laid_at (Formula.or φ ψ) k h is = (
    at_own (Formula.or φ ψ) k h is,
    subst (λ m. LaidAt (formula_at t) φ (k - 1 - m)) (span_size t ψ (k - 1) is.3) (laid_at φ (left t k) (omega arith) is.2),
    laid_at ψ (k - 1) (omega arith) is.3,
  )
  laid_at (Formula.previous low high φ) k h is = (at_own (Formula.previous low high φ) k h is, laid_at φ (k - 1) (omega arith) is.2)
  laid_at (Formula.next low high φ) k h is = (at_own (Formula.next low high φ) k h is, laid_at φ (k - 1) (omega arith) is.2)
  laid_at (Formula.since low high φ ψ) k h is = (
    at_own (Formula.since low high φ ψ) k h is,
    subst (λ m. LaidAt (formula_at t) φ (k - 1 - m)) (span_size t ψ (k - 1) is.3) (laid_at φ (left t k) (omega arith) is.2),
    laid_at ψ (k - 1) (omega arith) is.3,
  )
  laid_at (Formula.until low high φ ψ) k h is = (
    at_own (Formula.until low high φ ψ) k h is,
    subst (λ m. LaidAt (formula_at t) φ (k - 1 - m)) (span_size t ψ (k - 1) is.3) (laid_at φ (left t k) (omega arith) is.2),
    laid_at ψ (k - 1) (omega arith) is.3,
  )
