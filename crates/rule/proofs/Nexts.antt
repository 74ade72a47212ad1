-- Some formula of a rule has next exactly where some entry is one.
use Prim.Native.Nat.{ℕ, zero, suc, ◌≤◌}
use native.Mathlib.Omega.{arith}
use mathlib.Core.Path.{◌≡◌, refl, sym, ap, ◌∙◌}
use mathlib.Core.Bool.{Bool, true, false, ◌||◌, or-false, or-true}
use mathlib.Core.List.{List, [], ◌∷◌}
use mathlib.Core.Option.{Option, none, some}
use lib.Dec.{eqb}
use lib.ListN.{length}
use Rattle.mtl.specs.Formula.{Formula, has_next}
use Rattle.mtl.specs.Formula.Formula.{not, or, previous, next, since, until}
use Rattle.mtl.specs.Satisfaction.{any}
use Rattle.rule.specs.declared.Entry.{Entry}
use Rattle.rule.specs.Entries.{entry}
use Rattle.rule.specs.Postfix.{unary, binary, push_kind, stack_after, formulas}
use Rattle.rule.specs.Measure.{some_next}
use Rattle.rule.specs.Code.{is_next}
use Rattle.rule.proofs.Stacks.{Each, along, Left, left_over}
use Rattle.rule.proofs.Order.{next_reverse}

-- the stack fs with one entry more, which is a next or is none
abbrev Grown : Bool → List Formula → List Formula → Type 0
Grown b fs gs = some_next gs ≡ some_next fs || b

one_operand : (f : Formula → Formula) (b : Bool) (fs : List Formula) → ((φ : Formula) → has_next (f φ) ≡ has_next φ || b)
    → Each (Grown b fs) (unary f fs)
one_operand f b [] h = tt
one_operand f b (φ ∷ fs) h = ap (λ (x : Bool). x || some_next fs) (h φ) ∙ regroup (has_next φ) b (some_next fs)
  where
    regroup : (x y z : Bool) → (x || y) || z ≡ (x || z) || y
    regroup true y z = refl
    regroup false true true = refl
    regroup false true false = refl
    regroup false false true = refl
    regroup false false false = refl

two_operands : (g : Formula → Formula → Formula) (fs : List Formula)
    → ((φ ψ : Formula) → has_next (g φ ψ) ≡ has_next φ || has_next ψ) → Each (Grown false fs) (binary g fs)
two_operands g [] h = tt
two_operands g (ψ ∷ []) h = tt
two_operands g (ψ ∷ (φ ∷ fs)) h =
    ap (λ (x : Bool). x || some_next fs) (h φ ψ) ∙ regroup (has_next φ) (has_next ψ) (some_next fs) ∙ sym (or-false _)
  where
    regroup : (x y z : Bool) → (x || y) || z ≡ y || (x || z)
    regroup true true z = refl
    regroup true false z = refl
    regroup false true z = refl
    regroup false false z = refl

pushed : (kind : ℕ) (e : Entry) (fs : List Formula) → Each (Grown (eqb kind 4) fs) (push_kind kind e fs)
unfolding push_kind has_next
pushed zero e fs = sym (or-false (some_next fs))
pushed (suc zero) e fs = one_operand not false fs (λ φ. sym (or-false _))
pushed (suc (suc zero)) e fs = two_operands or fs (λ φ ψ. refl)
pushed (suc (suc (suc zero))) e fs = one_operand (previous e.low e.high) false fs (λ φ. sym (or-false _))
pushed (suc (suc (suc (suc zero)))) e fs = one_operand (next e.low e.high) true fs (λ φ. sym (or-true (has_next φ)))
pushed (suc (suc (suc (suc (suc zero))))) e fs = two_operands (since e.low e.high) fs (λ φ ψ. refl)
pushed (suc (suc (suc (suc (suc (suc zero)))))) e fs = two_operands (until e.low e.high) fs (λ φ ψ. refl)
pushed (suc (suc (suc (suc (suc (suc (suc above))))))) e fs = tt

weaken : (t : List Entry) (k : ℕ) (fs : List Formula) (o : Option (List Formula)) → some_next fs ≡ any k (is_next t)
    → Each (Grown (is_next t k) fs) o → Each (λ (gs : List Formula). some_next gs ≡ any (suc k) (is_next t)) o
unfolding any
weaken t k fs none i h = tt
weaken t k fs (some gs) i h = h ∙ ap (λ (b : Bool). b || is_next t k) i

nexts_are : (t : List Entry) (n : ℕ) (fs : List Formula) → n ≤ length t → stack_after t n ≡ some fs → some_next fs ≡ any n (is_next t)
unfolding any
nexts_are t n fs h e =
    along (λ (k : ℕ) (gs : List Formula). some_next gs ≡ any k (is_next t)) t n h refl
    (λ k gs l q. weaken t k gs (push_kind (entry t k).kind (entry t k) gs) q (pushed (entry t k).kind (entry t k) gs)) n (omega arith) fs e

-- of the formulas that are left
pub next_is : (version : ℕ) (t : List Entry) (n : ℕ) (fs : List Formula) → n ≤ length t → formulas version t n ≡ some fs
    → some_next fs ≡ any n (is_next t)
next_is version t n fs h e =
    let l : Left version (stack_after t n) fs = left_over version (stack_after t n) fs e in
    ap some_next l.order ∙ next_reverse l.stack ∙ nexts_are t n l.stack h l.stack_is
