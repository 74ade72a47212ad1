-- Each entry of a rule that can be read ends a subformula, whose operands stand where `left` and `k - 1` say.
use Prim.Native.Nat.{ℕ, zero, suc, ◌-◌, ◌≤◌, ◌<◌}
use native.Mathlib.Omega.{arith}
use mathlib.Core.Path.{◌≡◌, refl, sym, ap, subst, ◌∙◌}
use mathlib.Core.List.{List, [], ◌∷◌}
use mathlib.Core.Option.{some}
use lib.ListN.{length}
use Rattle.mtl.specs.Formula.{Formula}
use Rattle.mtl.specs.Formula.Formula.{letter, not, or, previous, next, since, until}
use Rattle.rule.specs.declared.Entry.{Entry}
use Rattle.rule.specs.Entries.{entry}
use Rattle.rule.specs.Postfix.{unary, binary, push_kind, stack_after, size}
use Rattle.rule.specs.Operands.{operands, span, left, FormulaAt, Unary, Binary}
use Rattle.rule.specs.Accepted.{FieldsInRange}
use Rattle.rule.proofs.Stacks.{Each, along}
use Rattle.rule.proofs.Spans.{span_leaf, span_unary, span_binary, unary_of, binary_of}

-- an entry by its fields
fields_are : (kind l low high a b c d : ℕ) → kind ≡ a → l ≡ b → low ≡ c → high ≡ d
    → ◌≡◌ {A = Entry} (record { kind = kind; letter = l; low = low; high = high }) (record { kind = a; letter = b; low = c; high = d })
fields_are kind l low high a b c d p q r s = λ i. record { kind = p i; letter = q i; low = r i; high = s i }

-- the operands that an entry takes, from what it is
pub takes : (t : List Entry) (k : ℕ) (e : Entry) → entry t k ≡ e → operands (entry t k).kind ≡ operands e.kind
takes t k e p = ap (λ (x : Entry). operands x.kind) p

module _ (t : List Entry) where
  unary_fits : (k : ℕ) → operands (entry t k).kind ≡ 1 → 0 < k → span t (k - 1) ≤ suc (k - 1) → span t k ≤ suc k
  unary_fits k e h f = omega (arith, span_unary t k e h)

  binary_fits : (k : ℕ) → operands (entry t k).kind ≡ 2 → span t (k - 1) < k → span t (left t k) ≤ suc (left t k) → span t k ≤ suc k
  binary_fits k e h f = omega (arith, span_binary t k e h)

  -- a subformula begins no earlier than entry 0
  pub span_fits : (φ : Formula) (k : ℕ) → FormulaAt t k φ → span t k ≤ suc k
  unfolding FormulaAt
  span_fits (letter l) k a = omega (arith, span_leaf t k (takes t k _ a))
  span_fits (not φ) k a = unary_fits k (takes t k _ a.0) a.1 (span_fits φ (k - 1) a.2)
  span_fits (or φ ψ) k a = binary_fits k (takes t k _ a.0) a.1 (span_fits φ (left t k) a.2)
  span_fits (previous low high φ) k a = unary_fits k (takes t k _ a.0) a.1 (span_fits φ (k - 1) a.2)
  span_fits (next low high φ) k a = unary_fits k (takes t k _ a.0) a.1 (span_fits φ (k - 1) a.2)
  span_fits (since low high φ ψ) k a = binary_fits k (takes t k _ a.0) a.1 (span_fits φ (left t k) a.2)
  span_fits (until low high φ ψ) k a = binary_fits k (takes t k _ a.0) a.1 (span_fits φ (left t k) a.2)

  -- the number of its entries is the formula's size
  pub span_size : (φ : Formula) (k : ℕ) → FormulaAt t k φ → span t k ≡ size φ
  unfolding FormulaAt size
  span_size (letter l) k a = span_leaf t k (takes t k _ a)
  span_size (not φ) k a = omega (arith, span_unary t k (takes t k _ a.0) a.1, span_size φ (k - 1) a.2)
  span_size (or φ ψ) k a =
      omega (arith, span_binary t k (takes t k _ a.0) a.1, span_size φ (left t k) a.2, span_size ψ (k - 1) a.3)
  span_size (previous low high φ) k a =
      omega (arith, span_unary t k (takes t k _ a.0) a.1, span_size φ (k - 1) a.2)
  span_size (next low high φ) k a = omega (arith, span_unary t k (takes t k _ a.0) a.1, span_size φ (k - 1) a.2)
  span_size (since low high φ ψ) k a =
      omega (arith, span_binary t k (takes t k _ a.0) a.1, span_size φ (left t k) a.2, span_size ψ (k - 1) a.3)
  span_size (until low high φ ψ) k a =
      omega (arith, span_binary t k (takes t k _ a.0) a.1, span_size φ (left t k) a.2, span_size ψ (k - 1) a.3)

  module _ (k : ℕ) where
    one_below : (φ : Formula) → operands (entry t k).kind ≡ 1 → 0 < k → FormulaAt t (k - 1) φ → Unary t k
    one_below φ e h a = let f = span_fits φ (k - 1) a in unary_of t k e h (omega arith)

    two_below : (φ : Formula) → operands (entry t k).kind ≡ 2 → span t (k - 1) < k → FormulaAt t (left t k) φ → Binary t k
    two_below φ e h a = binary_of t k e h (span_fits φ (left t k) a)

    other : {A : Type 0} (m n : ℕ) → operands (entry t k).kind ≡ m → operands (entry t k).kind ≡ n → (m ≡ n → ⊥) → A
    other m n p q h = absurd (h (sym p ∙ q))

    -- an entry with one operand
    pub unary_at : (φ : Formula) → FormulaAt t k φ → operands (entry t k).kind ≡ 1 → Unary t k
    unfolding FormulaAt
    unary_at (letter l) a e = other 0 1 (takes t k _ a) e (λ z. omega arith)
    unary_at (not φ) a e = one_below φ e a.1 a.2
    unary_at (or φ ψ) a e = other 2 1 (takes t k _ a.0) e (λ z. omega arith)
    unary_at (previous low high φ) a e = one_below φ e a.1 a.2
    unary_at (next low high φ) a e = one_below φ e a.1 a.2
    unary_at (since low high φ ψ) a e = other 2 1 (takes t k _ a.0) e (λ z. omega arith)
    unary_at (until low high φ ψ) a e = other 2 1 (takes t k _ a.0) e (λ z. omega arith)

    -- an entry with two
    pub binary_at : (φ : Formula) → FormulaAt t k φ → operands (entry t k).kind ≡ 2 → Binary t k
    unfolding FormulaAt
    binary_at (letter l) a e = other 0 2 (takes t k _ a) e (λ z. omega arith)
    binary_at (not φ) a e = other 1 2 (takes t k _ a.0) e (λ z. omega arith)
    binary_at (or φ ψ) a e = two_below φ e a.1 a.2
    binary_at (previous low high φ) a e = other 1 2 (takes t k _ a.0) e (λ z. omega arith)
    binary_at (next low high φ) a e = other 1 2 (takes t k _ a.0) e (λ z. omega arith)
    binary_at (since low high φ ψ) a e = two_below φ e a.1 a.2
    binary_at (until low high φ ψ) a e = two_below φ e a.1 a.2

  -- The formulas of the stack after k entries end one before the other, the top one at entry k - 1 and the first at entry 0.
  abbrev pub Stacked : ℕ → List Formula → Type 0
  Stacked k [] = k ≡ 0
  Stacked k (φ ∷ fs) = (j : ℕ) × (k ≡ suc j) × FormulaAt t j φ × Stacked (suc j - span t j) fs

  push_one : (f : Formula → Formula) (k : ℕ) (fs : List Formula) → operands (entry t k).kind ≡ 1
      → ((φ : Formula) → 0 < k → FormulaAt t (k - 1) φ → FormulaAt t k (f φ)) → Stacked k fs → Each (Stacked (suc k)) (unary f fs)
  push_one f k [] e make q = tt
  push_one f k (φ ∷ fs) e make (j, p, a, r) =
      let h : 0 < k = omega arith in
      let i : k - 1 ≡ j = omega arith in
      let s : span t (k - 1) ≡ span t j = ap (span t) i in
      let m : suc j - span t j ≡ suc k - span t k = omega (arith, span_unary t k e h) in
      (k, refl, make φ h (subst (λ (n : ℕ). FormulaAt t n φ) (sym i) a), subst (λ (n : ℕ). Stacked n fs) m r)

  push_two : (g : Formula → Formula → Formula) (k : ℕ) (fs : List Formula) → operands (entry t k).kind ≡ 2
      → ((φ ψ : Formula) → span t (k - 1) < k → FormulaAt t (left t k) φ → FormulaAt t (k - 1) ψ → FormulaAt t k (g φ ψ))
      → Stacked k fs → Each (Stacked (suc k)) (binary g fs)
  push_two g k [] e make q = tt
  push_two g k (ψ ∷ []) e make q = tt
  push_two g k (ψ ∷ (φ ∷ fs)) e make (j, p, a, (j', p', a', r)) =
      let i : k - 1 ≡ j = omega arith in
      let s : span t (k - 1) ≡ span t j = ap (span t) i in
      let h : span t (k - 1) < k = omega arith in
      let i' : left t k ≡ j' = omega arith in
      let s' : span t (left t k) ≡ span t j' = ap (span t) i' in
      let m : suc j' - span t j' ≡ suc k - span t k = omega (arith, span_binary t k e h) in (
        k,
        refl,
        make φ ψ h (subst (λ (n : ℕ). FormulaAt t n φ) (sym i') a') (subst (λ (n : ℕ). FormulaAt t n ψ) (sym i) a),
        subst (λ (n : ℕ). Stacked n fs) m r,
      )

  -- an entry that is in its ranges, pushed
  pushed : (kind l low high : ℕ) (k : ℕ) (fs : List Formula)
      → (p : entry t k ≡ record { kind = kind; letter = l; low = low; high = high })
      → FieldsInRange (record { kind = kind; letter = l; low = low; high = high }) → Stacked k fs
      → Each (Stacked (suc k)) (push_kind kind (record { kind = kind; letter = l; low = low; high = high }) fs)
  unfolding push_kind FormulaAt
  pushed zero l low high k fs p r q =
      let z = r.no_interval (omega arith) in
      let m : k ≡ suc k - span t k = omega (arith, span_leaf t k (takes t k _ p)) in
      (k, refl, p ∙ fields_are 0 l low high 0 l 0 0 refl refl z.0 z.1, subst (λ (n : ℕ). Stacked n fs) m q)
  pushed (suc zero) l low high k fs p r q =
      let z = r.no_interval (omega arith) in
      push_one not k fs (takes t k _ p)
      (λ φ h a. (p ∙ fields_are 1 l low high 1 0 0 0 refl (r.no_letter (omega arith)) z.0 z.1, h, a)) q
  pushed (suc (suc zero)) l low high k fs p r q =
      let z = r.no_interval (omega arith) in
      push_two or k fs (takes t k _ p)
      (λ φ ψ h a b. (p ∙ fields_are 2 l low high 2 0 0 0 refl (r.no_letter (omega arith)) z.0 z.1, h, a, b)) q
  pushed (suc (suc (suc zero))) l low high k fs p r q =
      push_one (previous low high) k fs (takes t k _ p)
      (λ φ h a. (p ∙ fields_are 3 l low high 3 0 low high refl (r.no_letter (omega arith)) refl refl, h, a)) q
  pushed (suc (suc (suc (suc zero)))) l low high k fs p r q =
      push_one (next low high) k fs (takes t k _ p)
      (λ φ h a. (p ∙ fields_are 4 l low high 4 0 low high refl (r.no_letter (omega arith)) refl refl, h, a)) q
  pushed (suc (suc (suc (suc (suc zero))))) l low high k fs p r q =
      push_two (since low high) k fs (takes t k _ p)
      (λ φ ψ h a b. (p ∙ fields_are 5 l low high 5 0 low high refl (r.no_letter (omega arith)) refl refl, h, a, b)) q
  pushed (suc (suc (suc (suc (suc (suc zero)))))) l low high k fs p r q =
      push_two (until low high) k fs (takes t k _ p)
      (λ φ ψ h a b. (p ∙ fields_are 6 l low high 6 0 low high refl (r.no_letter (omega arith)) refl refl, h, a, b)) q
  pushed (suc (suc (suc (suc (suc (suc (suc above))))))) l low high k fs p r q = tt

  -- the stack after k entries that are all in their ranges
  pub stacked : (n : ℕ) → n ≤ length t → ((k : ℕ) → k < n → FieldsInRange (entry t k))
      → (k : ℕ) → k ≤ n → (fs : List Formula) → stack_after t k ≡ some fs → Stacked k fs
  stacked n h r =
      along Stacked t n h refl
      (λ k fs l q. pushed (entry t k).kind (entry t k).letter (entry t k).low (entry t k).high k fs refl (r k l) q)
