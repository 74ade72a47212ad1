-- A rule has depth 0 where no entry is a previous.
use Prim.Native.Nat.{ℕ, zero, suc, ◌≤◌, max}
use native.Mathlib.Omega.{arith}
use mathlib.Core.Path.{◌≡◌, refl, sym, ap, ◌∙◌}
use mathlib.Core.Bool.{false, true≢false}
use mathlib.Core.List.{List, [], ◌∷◌}
use mathlib.Core.Option.{Option, none, some}
use lib.Dec.{eqb}
use lib.ListN.{length}
use Rattle.mtl.specs.Formula.{Formula, largest}
use Rattle.mtl.specs.Formula.Formula.{not, or, next, since, until}
use Rattle.mtl.specs.Satisfaction.{any}
use Rattle.mtl.specs.Wanted.{depth, deepest}
use Rattle.mtl.proofs.Bounded.{any_false_iff}
use Rattle.rule.specs.declared.Entry.{Entry}
use Rattle.rule.specs.declared.measuring.Quantity.TheVariants.{Depth}
use Rattle.rule.specs.Entries.{entry}
use Rattle.rule.specs.Postfix.{unary, binary, push_kind, stack_after, formulas, formulas_or}
use Rattle.rule.specs.Code.{is_previous}
use Rattle.rule.proofs.Stacks.{Each, along, Left, left_over}
use Rattle.rule.proofs.Order.{largest_reverse}

abbrev Flat : List Formula → Type 0
Flat fs = deepest fs ≡ 0

one_operand : (f : Formula → Formula) (fs : List Formula) → ((φ : Formula) → depth (f φ) ≡ depth φ) → Flat fs → Each Flat (unary f fs)
unfolding largest
one_operand f [] h flat = tt
one_operand f (φ ∷ fs) h flat = omega (arith, h φ)

two_operands : (g : Formula → Formula → Formula) (fs : List Formula) → ((φ ψ : Formula) → depth (g φ ψ) ≡ max (depth φ) (depth ψ)) → Flat fs →
    Each Flat (binary g fs)
unfolding largest
two_operands g [] h flat = tt
two_operands g (ψ ∷ []) h flat = tt
two_operands g (ψ ∷ (φ ∷ fs)) h flat = omega (arith, h φ ψ)

pushed : (kind : ℕ) (e : Entry) (fs : List Formula) → eqb kind 3 ≡ false → Flat fs → Each Flat (push_kind kind e fs)
unfolding push_kind depth largest
pushed zero e fs other flat = omega arith
pushed (suc zero) e fs other flat = one_operand not fs (λ φ. refl) flat
pushed (suc (suc zero)) e fs other flat = two_operands or fs (λ φ ψ. refl) flat
pushed (suc (suc (suc zero))) e fs other flat = absurd (true≢false other)
pushed (suc (suc (suc (suc zero)))) e fs other flat = one_operand (next e.low e.high) fs (λ φ. refl) flat
pushed (suc (suc (suc (suc (suc zero))))) e fs other flat = two_operands (since e.low e.high) fs (λ φ ψ. refl) flat
pushed (suc (suc (suc (suc (suc (suc zero)))))) e fs other flat = two_operands (until e.low e.high) fs (λ φ ψ. refl) flat
pushed (suc (suc (suc (suc (suc (suc (suc above))))))) e fs other flat = tt

module _ (t : List Entry) (n : ℕ) (few : n ≤ length t) (others : any n (is_previous t) ≡ false) where
  stack_flat : (fs : List Formula) → stack_after t n ≡ some fs → Flat fs
  unfolding largest
  stack_flat fs e =
      along (λ (k : ℕ) (gs : List Formula). Flat gs) t n few refl
      (λ k gs l flat. pushed (entry t k).kind (entry t k) gs ((any_false_iff n (is_previous t)).0 others k l) flat) n (omega arith) fs e

  -- of the formulas that are left
  pub flat : (version : ℕ) → 0 ≡ deepest (formulas_or (formulas version t n))
  unfolding largest
  flat version = by (formulas version t n) refl
    where
      by : (o : Option (List Formula)) → formulas version t n ≡ o → 0 ≡ deepest (formulas_or o)
      by none e = refl
      by (some fs) e =
          let l : Left version (stack_after t n) fs = left_over version (stack_after t n) fs e in
          sym (stack_flat l.stack l.stack_is)
          ∙ sym (largest_reverse Depth l.stack)
          ∙ ap (largest depth) (sym l.order)
