-- A rule's entries, read back, are its formulas in postfix order, and no other formulas'.
use Prim.Native.Nat.{ℕ, suc, ◌+◌, ◌-◌, ◌≤◌, ◌<◌}
use native.Mathlib.Omega.{arith}
use mathlib.Core.Path.{◌≡◌, refl, sym, ap, ◌∙◌}
use mathlib.Core.List.{List, [], ◌∷◌, ◌++◌, append_assoc, append-nil, reverse, reverse-cons}
use mathlib.Core.Option.{some}
use lib.ListN.{length, take, length-append}
use lib.Seq.{take-suc}
use Rattle.mtl.specs.Formula.{Formula}
use Rattle.mtl.specs.Formula.Formula.{letter, not, or, previous, next, since, until}
use Rattle.rule.specs.declared.Entry.{Entry}
use Rattle.rule.specs.Entries.{entry, blank}
use Rattle.rule.specs.Postfix.{push_kind, push, read, root, postfix, postfixes, size}
use Rattle.rule.specs.Operands.{operands, span, left, FormulaAt}
use Rattle.rule.proofs.Stacks.{read_append}
use Rattle.rule.proofs.Spans.{span_leaf, span_unary, span_binary}
use Rattle.rule.proofs.Subformulas.{takes, span_fits, Stacked}

-- the entries of two operands, then those of their operator
read_two : (φ ψ χ : Formula) (fs : List Formula) → read (postfix φ) (some fs) ≡ some (φ ∷ fs)
    → read (postfix ψ) (some (φ ∷ fs)) ≡ some (ψ ∷ (φ ∷ fs)) → push (root χ) (some (ψ ∷ (φ ∷ fs))) ≡ some (χ ∷ fs)
    → read (postfix φ ++ postfix ψ ++ (root χ ∷ [])) (some fs) ≡ some (χ ∷ fs)
unfolding read
read_two φ ψ χ fs p q r =
    read_append (postfix φ ++ postfix ψ) (root χ ∷ []) (some fs)
    ∙ ap (push (root χ)) (read_append (postfix φ) (postfix ψ) (some fs) ∙ ap (read (postfix ψ)) p ∙ q)
    ∙ r

-- the entries of an operand, then that of its operator
read_one : (φ χ : Formula) (fs : List Formula) → read (postfix φ) (some fs) ≡ some (φ ∷ fs) → push (root χ) (some (φ ∷ fs)) ≡ some (χ ∷ fs)
    → read (postfix φ ++ (root χ ∷ [])) (some fs) ≡ some (χ ∷ fs)
unfolding read
read_one φ χ fs p r = read_append (postfix φ) (root χ ∷ []) (some fs) ∙ ap (push (root χ)) p ∙ r

-- a formula's entries put it on the stack
pub read_postfix : (φ : Formula) (fs : List Formula) → read (postfix φ) (some fs) ≡ some (φ ∷ fs)
unfolding read postfix push_kind
read_postfix (letter k) fs = refl
read_postfix (not φ) fs = read_one φ (not φ) fs (read_postfix φ fs) refl
read_postfix (or φ ψ) fs = read_two φ ψ (or φ ψ) fs (read_postfix φ fs) (read_postfix ψ (φ ∷ fs)) refl
read_postfix (previous low high φ) fs = read_one φ (previous low high φ) fs (read_postfix φ fs) refl
read_postfix (next low high φ) fs = read_one φ (next low high φ) fs (read_postfix φ fs) refl
read_postfix (since low high φ ψ) fs = read_two φ ψ (since low high φ ψ) fs (read_postfix φ fs) (read_postfix ψ (φ ∷ fs)) refl
read_postfix (until low high φ ψ) fs = read_two φ ψ (until low high φ ψ) fs (read_postfix φ fs) (read_postfix ψ (φ ∷ fs)) refl

-- The entries up to and with entry k are those before the subformula that ends there, and then its own.
module _ (t : List Entry) where
  abbrev Ends : ℕ → List Entry → Type 0
  Ends k own = take (suc k) t ≡ take (suc k - span t k) t ++ own

  one : (φ χ : Formula) (k : ℕ) → k < length t → entry t k ≡ root χ → operands (entry t k).kind ≡ 1 → 0 < k → Ends (k - 1) (postfix φ)
      → Ends k (postfix φ ++ (root χ ∷ []))
  one φ χ k l e o h ih =
      let s = span_unary t k o h in
      let i : suc (k - 1) ≡ k = omega arith in
      let j : suc (k - 1) - span t (k - 1) ≡ suc k - span t k = omega arith in
      take-suc t k blank l
      ∙ ap (λ (x : Entry). take k t ++ (x ∷ [])) e
      ∙ ap (λ (xs : List Entry). xs ++ (root χ ∷ []))
      (ap (λ (n : ℕ). take n t) (sym i) ∙ ih ∙ ap (λ (n : ℕ). take n t ++ postfix φ) j)
      ∙ append_assoc (take (suc k - span t k) t) (postfix φ) (root χ ∷ [])

  two : (φ ψ χ : Formula) (k : ℕ) → k < length t → entry t k ≡ root χ → operands (entry t k).kind ≡ 2 → span t (k - 1) < k
      → span t (left t k) ≤ suc (left t k) → Ends (left t k) (postfix φ) → Ends (k - 1) (postfix ψ)
      → Ends k (postfix φ ++ postfix ψ ++ (root χ ∷ []))
  two φ ψ χ k l e o h f ihφ ihψ =
      let s = span_binary t k o h in
      let i : suc (k - 1) ≡ k = omega arith in
      let j : suc (k - 1) - span t (k - 1) ≡ suc (left t k) = omega arith in
      let m : suc (left t k) - span t (left t k) ≡ suc k - span t k = omega arith in
      take-suc t k blank l
      ∙ ap (λ (x : Entry). take k t ++ (x ∷ [])) e
      ∙ ap (λ (xs : List Entry). xs ++ (root χ ∷ []))
      (ap (λ (n : ℕ). take n t) (sym i)
      ∙ ihψ
      ∙ ap (λ (n : ℕ). take n t ++ postfix ψ) j
      ∙ ap (λ (xs : List Entry). xs ++ postfix ψ) (ihφ ∙ ap (λ (n : ℕ). take n t ++ postfix φ) m))
      ∙ simp append_assoc

  pub ends : (φ : Formula) (k : ℕ) → k < length t → FormulaAt t k φ → Ends k (postfix φ)
  unfolding FormulaAt postfix
  ends (letter a) k l h =
      let s = span_leaf t k (takes t k _ h) in
      let i : k ≡ suc k - span t k = omega arith in
      take-suc t k blank l
      ∙ ap (λ (x : Entry). take k t ++ (x ∷ [])) h
      ∙ ap (λ (n : ℕ). take n t ++ (root (letter a) ∷ [])) i
  ends (not φ) k l h = one φ (not φ) k l h.0 (takes t k _ h.0) h.1 (ends φ (k - 1) (omega arith) h.2)
  ends (or φ ψ) k l h =
      two φ ψ (or φ ψ) k l h.0 (takes t k _ h.0) h.1 (span_fits t φ (left t k) h.2)
      (ends φ (left t k) (omega arith) h.2) (ends ψ (k - 1) (omega arith) h.3)
  ends (previous low high φ) k l h =
      one φ (previous low high φ) k l h.0 (takes t k _ h.0) h.1 (ends φ (k - 1) (omega arith) h.2)
  ends (next low high φ) k l h =
      one φ (next low high φ) k l h.0 (takes t k _ h.0) h.1 (ends φ (k - 1) (omega arith) h.2)
  ends (since low high φ ψ) k l h =
      two φ ψ (since low high φ ψ) k l h.0 (takes t k _ h.0) h.1 (span_fits t φ (left t k) h.2)
      (ends φ (left t k) (omega arith) h.2) (ends ψ (k - 1) (omega arith) h.3)
  ends (until low high φ ψ) k l h =
      two φ ψ (until low high φ ψ) k l h.0 (takes t k _ h.0) h.1 (span_fits t φ (left t k) h.2)
      (ends φ (left t k) (omega arith) h.2) (ends ψ (k - 1) (omega arith) h.3)

two_long : (φ ψ : Formula) (e : Entry) → length (postfix φ) ≡ size φ → length (postfix ψ) ≡ size ψ
    → length (postfix φ ++ postfix ψ ++ (e ∷ [])) ≡ size φ + size ψ + 1
two_long φ ψ e p q = omega (arith, length-append (postfix φ ++ postfix ψ) (e ∷ []), length-append (postfix φ) (postfix ψ))

-- a formula has as many entries as its size says
pub length_postfix : (φ : Formula) → length (postfix φ) ≡ size φ
unfolding postfix size
length_postfix (letter k) = refl
length_postfix (not φ) = omega (arith, length-append (postfix φ) (root (not φ) ∷ []), length_postfix φ)
length_postfix (or φ ψ) = two_long φ ψ (root (or φ ψ)) (length_postfix φ) (length_postfix ψ)
length_postfix (previous low high φ) = omega (arith, length-append (postfix φ) (root (previous low high φ) ∷ []), length_postfix φ)
length_postfix (next low high φ) = omega (arith, length-append (postfix φ) (root (next low high φ) ∷ []), length_postfix φ)
length_postfix (since low high φ ψ) = two_long φ ψ (root (since low high φ ψ)) (length_postfix φ) (length_postfix ψ)
length_postfix (until low high φ ψ) = two_long φ ψ (root (until low high φ ψ)) (length_postfix φ) (length_postfix ψ)

-- the entries of formulas put them on the stack, the last on top
read_all : (fs gs : List Formula) → read (postfixes fs) (some gs) ≡ some (reverse fs ++ gs)
unfolding read postfixes
read_all [] gs = refl
read_all (φ ∷ fs) gs =
    read_append (postfix φ) (postfixes fs) (some gs)
    ∙ ap (read (postfixes fs)) (read_postfix φ gs)
    ∙ read_all fs (φ ∷ gs)
    ∙ ap some (sym (append_assoc (reverse fs) (φ ∷ []) gs) ∙ ap (λ (l : List Formula). l ++ gs) (sym (reverse-cons φ fs)))

pub read_postfixes : (fs : List Formula) → read (postfixes fs) (some []) ≡ some (reverse fs)
read_postfixes fs = read_all fs [] ∙ ap some (append-nil (reverse fs))

postfixes_append : (gs hs : List Formula) → postfixes (gs ++ hs) ≡ postfixes gs ++ postfixes hs
unfolding postfixes
postfixes_append [] hs = refl
postfixes_append (φ ∷ gs) hs =
    ap (λ (l : List Entry). postfix φ ++ l) (postfixes_append gs hs) ∙ sym (append_assoc (postfix φ) (postfixes gs) (postfixes hs))

-- the first k entries are those of the formulas on the stack, from its bottom
pub flat : (t : List Entry) (fs : List Formula) (k : ℕ) → k ≤ length t → Stacked t k fs → postfixes (reverse fs) ≡ take k t
unfolding postfixes
flat t [] k h e = ap (λ (m : ℕ). take m t) (sym e)
flat t (φ ∷ fs) k h (j, p, a, r) =
    ap postfixes (reverse-cons φ fs)
    ∙ postfixes_append (reverse fs) (φ ∷ [])
    ∙ ap (λ (l : List Entry). postfixes (reverse fs) ++ l) (append-nil (postfix φ))
    ∙ ap (λ (l : List Entry). l ++ postfix φ) (flat t fs (suc j - span t j) (omega arith) r)
    ∙ sym (ends t φ j (omega arith) a)
    ∙ ap (λ (m : ℕ). take m t) (sym p)
