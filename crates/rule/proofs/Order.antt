-- The formulas in the order of the rule, which is that of the stack from its bottom: where their entries stand, and what is taken over
-- all of them.
use Prim.Native.Nat.{ℕ, zero, suc, ◌+◌, ◌-◌, ◌≤◌, ◌<◌, max}
use native.Mathlib.Nat.{eq-or-lt_of_le, le_of_suc-le-suc}
use native.Mathlib.Omega.{arith}
use mathlib.Core.Path.{◌≡◌, refl, sym, ap, ap₂, subst, ◌∙◌}
use mathlib.Core.Bool.{Bool, true, false, ◌||◌, or-false}
use mathlib.Core.Logic.{⊎_elim}
use mathlib.Core.List.{List, [], ◌∷◌, ◌++◌, reverse, reverse-cons}
use mathlib.Core.Option.{some}
use lib.ListN.{length, drop, length-reverse, get_or-append}
use lib.Seq.{get_or_at}
use Rattle.mtl.specs.Formula.{Formula, largest}
use Rattle.mtl.specs.Formula.{has_next}
use Rattle.mtl.specs.Formula.Formula.{letter, not, or, previous, next, since, until}
use Rattle.rule.specs.declared.Entry.{Entry}
use Rattle.rule.specs.declared.measuring.Quantity.{Quantity}
use Rattle.rule.specs.Entries.{entry}
use Rattle.rule.specs.Postfix.{unary, binary, push_kind, stack_after, size, formula, start}
use Rattle.rule.specs.Operands.{span, FormulaAt}
use Rattle.rule.specs.Accepted.{Stretch, Whole}
use Rattle.rule.specs.Measure.{some_next}
use Rattle.rule.specs.Code.{quantity}
use Rattle.rule.proofs.Laws.{grows}
use Rattle.rule.proofs.Stacks.{Each, along}
use Rattle.rule.proofs.Subformulas.{span_fits, span_size, Stacked}

-- formulas further on do not move those before them
start_append : (gs hs : List Formula) (k : ℕ) → k ≤ length gs → start (gs ++ hs) k ≡ start gs k
unfolding start
start_append gs hs zero h = refl
start_append gs hs (suc k) h =
    ap₂ (λ (a b : ℕ). a + b) (start_append gs hs k (omega arith)) (ap size (get_or-append gs hs (letter 0) k h))

-- one formula more on the stack
module _ (φ : Formula) (fs : List Formula) where
  pub start_below : (k : ℕ) → k ≤ length fs → start (reverse (φ ∷ fs)) k ≡ start (reverse fs) k
  start_below k h =
      ap (λ (gs : List Formula). start gs k) (reverse-cons φ fs)
      ∙ start_append (reverse fs) (φ ∷ []) k (omega (arith, length-reverse fs))

  formula_below : (k : ℕ) → k < length fs → formula (reverse (φ ∷ fs)) k ≡ formula (reverse fs) k
  formula_below k h =
      ap (λ (gs : List Formula). formula gs k) (reverse-cons φ fs)
      ∙ get_or-append (reverse fs) (φ ∷ []) (letter 0) k (omega (arith, length-reverse fs))

  formula_top : formula (reverse (φ ∷ fs)) (length fs) ≡ φ
  formula_top =
      ap (λ (gs : List Formula). formula gs (length fs)) (reverse-cons φ fs)
      ∙ get_or_at (reverse fs) φ [] (letter 0) (length fs) (length-reverse fs)

  start_top : start (reverse (φ ∷ fs)) (suc (length fs)) ≡ start (reverse fs) (length fs) + size φ
  unfolding start
  start_top = ap₂ (λ (a b : ℕ). a + b) (start_below (length fs) (omega arith)) (ap size formula_top)

-- a formula has an entry at least
pub some_size : (φ : Formula) → 0 < size φ
unfolding size
some_size (letter l) = omega arith
some_size (not φ) = omega arith
some_size (or φ ψ) = omega arith
some_size (previous low high φ) = omega arith
some_size (next low high φ) = omega arith
some_size (since low high φ ψ) = omega arith
some_size (until low high φ ψ) = omega arith

-- a later formula's entries begin no earlier
pub start_grows : (fs : List Formula) (k m : ℕ) → k ≤ m → start fs k ≤ start fs m
unfolding start
start_grows fs = grows (start fs) (λ k. omega arith)

-- each formula's entries are among the n
pub within_whole : (t : List Entry) (n : ℕ) (fs : List Formula) → Whole t n fs → (k : ℕ) → k < length fs → start fs k + size (formula fs k) ≤ n
unfolding start
within_whole t n fs w k h = omega (arith, start_grows fs (suc k) (length fs) h, w.all)

-- taking formulas off the stack does not move those that are left
pub start_drop : (j : ℕ) (fs : List Formula) (k : ℕ) → k ≤ length (drop j fs) → start (reverse fs) k ≡ start (reverse (drop j fs)) k
start_drop zero fs k h = refl
start_drop (suc j) [] k h = refl
start_drop (suc j) (φ ∷ fs) k h = start_below φ fs k (omega (arith, shorter j fs)) ∙ start_drop j fs k h
  where
    shorter : (j : ℕ) (fs : List Formula) → length (drop j fs) ≤ length fs
    shorter zero fs = omega arith
    shorter (suc j) [] = omega arith
    shorter (suc j) (φ ∷ fs) = omega (arith, shorter j fs)

-- the formulas of the stack, from its bottom, are the k entries
module _ (t : List Entry) where
  stacked_to : (k : ℕ) (fs : List Formula) → Stacked t k fs → start (reverse fs) (length fs) ≡ k
  unfolding start
  stacked_to k [] e = sym e
  stacked_to k (φ ∷ fs) (j, p, a, r) =
      omega (arith, start_top φ fs, stacked_to (suc j - span t j) fs r, span_fits t φ j a, span_size t φ j a)

  stretches : (k : ℕ) (fs : List Formula) → Stacked t k fs → (i : ℕ) → i < length fs
      → Stretch t (start (reverse fs) i) (formula (reverse fs) i)
  stretches k [] e i h = absurd (omega arith)
  stretches k (φ ∷ fs) (j, p, a, r) i h = ⊎_elim last (λ l. before l (stretches (suc j - span t j) fs r i l)) (eq-or-lt_of_le (le_of_suc-le-suc h))
    where
      last : i ≡ length fs → Stretch t (start (reverse (φ ∷ fs)) i) (formula (reverse (φ ∷ fs)) i)
      last e =
          let from = start_below φ fs (length fs) (omega arith) in
          let s = span_size t φ j a in
          let q : j ≡ start (reverse (φ ∷ fs)) (length fs) + size φ - 1 =
          omega (arith, stacked_to (suc j - span t j) fs r, span_fits t φ j a) in
          subst (λ (n : ℕ). Stretch t (start (reverse (φ ∷ fs)) n) (formula (reverse (φ ∷ fs)) n)) (sym e)
          (subst (Stretch t (start (reverse (φ ∷ fs)) (length fs))) (sym (formula_top φ fs)) (
          record {
            at_last = subst (λ (n : ℕ). FormulaAt t n φ) q a;
            spans = ap (span t) (sym q) ∙ s;
          }))

      before : i < length fs → Stretch t (start (reverse fs) i) (formula (reverse fs) i)
          → Stretch t (start (reverse (φ ∷ fs)) i) (formula (reverse (φ ∷ fs)) i)
      before l there =
          let q = start_below φ fs i (omega arith) in
          subst (λ (n : ℕ). Stretch t n (formula (reverse (φ ∷ fs)) i)) (sym q)
          (subst (Stretch t (start (reverse fs) i)) (sym (formula_below φ fs i l)) there)

  pub whole_of : (k : ℕ) (fs : List Formula) → Stacked t k fs → Whole t k (reverse fs)
  whole_of k fs s =
      record {
        each = λ i h. stretches k fs s i (omega (arith, length-reverse fs));
        all = ap (start (reverse fs)) (length-reverse fs) ∙ stacked_to k fs s;
      }

-- The formulas of the stack after k entries have k entries, whatever the entries' ranges.
abbrev Counted : ℕ → List Formula → Type 0
Counted k fs = start (reverse fs) (length fs) ≡ k

one_operand : (f : Formula → Formula) (k : ℕ) (fs : List Formula) → ((φ : Formula) → size (f φ) ≡ size φ + 1) → Counted k fs
    → Each (Counted (suc k)) (unary f fs)
one_operand f k [] h q = tt
one_operand f k (φ ∷ fs) h q = omega (arith, start_top φ fs, start_top (f φ) fs, h φ)

two_operands : (g : Formula → Formula → Formula) (k : ℕ) (fs : List Formula)
    → ((φ ψ : Formula) → size (g φ ψ) ≡ size φ + size ψ + 1) → Counted k fs → Each (Counted (suc k)) (binary g fs)
two_operands g k [] h q = tt
two_operands g k (ψ ∷ []) h q = tt
two_operands g k (ψ ∷ (φ ∷ fs)) h q =
    omega (arith, start_top ψ (φ ∷ fs), start_top φ fs, start_top (g φ ψ) fs, h φ ψ)

pushed : (kind : ℕ) (e : Entry) (k : ℕ) (fs : List Formula) → Counted k fs → Each (Counted (suc k)) (push_kind kind e fs)
unfolding push_kind size
pushed zero e k fs q = omega (arith, start_top (letter e.letter) fs)
pushed (suc zero) e k fs q = one_operand not k fs (λ φ. refl) q
pushed (suc (suc zero)) e k fs q = two_operands or k fs (λ φ ψ. refl) q
pushed (suc (suc (suc zero))) e k fs q = one_operand (previous e.low e.high) k fs (λ φ. refl) q
pushed (suc (suc (suc (suc zero)))) e k fs q = one_operand (next e.low e.high) k fs (λ φ. refl) q
pushed (suc (suc (suc (suc (suc zero))))) e k fs q = two_operands (since e.low e.high) k fs (λ φ ψ. refl) q
pushed (suc (suc (suc (suc (suc (suc zero)))))) e k fs q = two_operands (until e.low e.high) k fs (λ φ ψ. refl) q
pushed (suc (suc (suc (suc (suc (suc (suc above))))))) e k fs q = tt

pub counted : (t : List Entry) (k : ℕ) (fs : List Formula) → k ≤ length t → stack_after t k ≡ some fs → Counted k fs
unfolding start
counted t k fs h e =
    along Counted t k h refl (λ i gs l q. pushed (entry t i).kind (entry t i) i gs q) k (omega arith) fs e

-- what is taken over all formulas does not ask for their order
largest_append : (of : Quantity) (gs hs : List Formula) → largest (quantity of) (gs ++ hs) ≡ max (largest (quantity of) gs) (largest (quantity of) hs)
unfolding largest
largest_append of [] hs = omega arith
largest_append of (φ ∷ gs) hs = omega (arith, largest_append of gs hs)

pub largest_reverse : (of : Quantity) (fs : List Formula) → largest (quantity of) (reverse fs) ≡ largest (quantity of) fs
unfolding largest
largest_reverse of [] = refl
largest_reverse of (φ ∷ fs) =
    ap (largest (quantity of)) (reverse-cons φ fs) ∙ omega (arith, largest_append of (reverse fs) (φ ∷ []), largest_reverse of fs)

next_append : (gs hs : List Formula) → some_next (gs ++ hs) ≡ some_next gs || some_next hs
next_append [] hs = refl
next_append (φ ∷ gs) hs = ap (λ (b : Bool). has_next φ || b) (next_append gs hs) ∙ regroup (has_next φ) (some_next gs) (some_next hs)
  where
    regroup : (x y z : Bool) → x || (y || z) ≡ (x || y) || z
    regroup true y z = refl
    regroup false y z = refl

pub next_reverse : (fs : List Formula) → some_next (reverse fs) ≡ some_next fs
next_reverse [] = refl
next_reverse (φ ∷ fs) =
    ap some_next (reverse-cons φ fs)
    ∙ next_append (reverse fs) (φ ∷ [])
    ∙ ap₂ (λ (a b : Bool). a || b) (next_reverse fs) (or-false (has_next φ))
    ∙ turn (some_next fs) (has_next φ)
  where
    turn : (x y : Bool) → x || y ≡ y || x
    turn true true = refl
    turn true false = refl
    turn false true = refl
    turn false false = refl
