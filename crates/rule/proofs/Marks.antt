-- The array that `ends_of` fills holds, for each formula on the stack, the number of entries up to and with its last.
use Prim.Native.Nat.{ℕ, zero, suc, zero-le, ◌+◌, ◌-◌, ◌≤◌, ◌<◌, min}
use native.Mathlib.Nat.{eq-or-lt_of_le, le_of_suc-le-suc}
use native.Mathlib.Numerals.{add-one}
use native.Mathlib.Omega.{arith}
use mathlib.Core.Bool.{Bool, true, false, cond}
use mathlib.Core.Path.{◌≡◌, refl, sym, ap, ◌∙◌}
use mathlib.Core.Logic.{⊎_elim}
use mathlib.Core.List.{List, [], ◌∷◌, reverse}
use mathlib.Core.Option.{Option, none, some}
use lib.Dec.{eqb}
use lib.ListN.{length, get_or, drop, set, replicate, length-set, length-reverse}
use lib.Seq.{get_or-set_same, get_or-set_other}
use Rattle.mtl.specs.Formula.{Formula}
use Rattle.mtl.specs.Formula.Formula.{letter, not, or, previous, next, since, until}
use Rattle.rule.specs.declared.Entry.{Entry}
use Rattle.rule.specs.declared.measuring.Ends.{Ends}
use Rattle.rule.specs.Entries.{entry}
use Rattle.rule.specs.Postfix.{unary, binary, push_kind, push, read, stack_after, left_by, formulas, start}
use Rattle.rule.specs.Operands.{operands}
use Rattle.rule.specs.Contract.{EndsOf}
use Rattle.rule.proofs.Stacks.{stack_more, stays_none, Left, left_over, no_stack}
use Rattle.rule.proofs.Order.{start_below, start_drop, counted}
use Rattle.rule.proofs.Run.{short}

-- what an entry makes of a stack that has its operands
abbrev Made : ℕ → List Formula → Option (List Formula) → Type 0
Made taken fs o = (χ : Formula) × (o ≡ some (χ ∷ drop taken fs))

unary_made : (f : Formula → Formula) (fs : List Formula) → 1 ≤ length fs → Made 1 fs (unary f fs)
unary_made f [] h = absurd (omega arith)
unary_made f (φ ∷ fs) h = (f φ, refl)

binary_made : (g : Formula → Formula → Formula) (fs : List Formula) → 2 ≤ length fs → Made 2 fs (binary g fs)
binary_made g [] h = absurd (omega arith)
binary_made g (ψ ∷ []) h = absurd (omega arith)
binary_made g (ψ ∷ (φ ∷ fs)) h = (g φ ψ, refl)

made : (kind : ℕ) (e : Entry) (fs : List Formula) → operands kind ≤ length fs → length fs < 200 → Made (operands kind) fs (push_kind kind e fs)
unfolding push_kind
made zero e fs h b = (letter e.letter, refl)
made (suc zero) e fs h b = unary_made not fs h
made (suc (suc zero)) e fs h b = binary_made or fs h
made (suc (suc (suc zero))) e fs h b = unary_made (previous e.low e.high) fs h
made (suc (suc (suc (suc zero)))) e fs h b = unary_made (next e.low e.high) fs h
made (suc (suc (suc (suc (suc zero))))) e fs h b = binary_made (since e.low e.high) fs h
made (suc (suc (suc (suc (suc (suc zero)))))) e fs h b = binary_made (until e.low e.high) fs h
made (suc (suc (suc (suc (suc (suc (suc above))))))) e fs h b = absurd (omega arith)

length-drop : (j : ℕ) (fs : List Formula) → length (drop j fs) ≡ length fs - j
length-drop zero fs = omega arith
length-drop (suc j) [] = omega arith
length-drop (suc j) (φ ∷ fs) = length-drop j fs ∙ omega arith

-- The array a holds, at positions 0 to d - 1 below 8, where the formulas on the stack after the first k entries end.
pub record Marking (t : List Entry) (a : List ℕ) (d k : ℕ) : Type 0 where
  pub deep : d ≤ k
  pub long : length a ≡ 9
  pub stack : List Formula
  pub stack_is : stack_after t k ≡ some stack
  pub height : length stack ≡ d
  pub marks : (i : ℕ) → i < d → i < 8 → get_or a i 0 ≡ start (reverse stack) (suc i)

-- before the first entry
pub none_marked : (t : List Entry) → Marking t (replicate 9 0) 0 0
unfolding read
none_marked t =
    record { deep = zero-le; long = refl; stack = []; stack_is = refl; height = refl; marks = λ i h few. absurd (omega arith) }

-- a turn of the loop
module _ (t : List Entry) (a : List ℕ) (d k : ℕ) (m : Marking t a d k) (h : k < length t) (b : k < 128) where
  pub mark_more : operands (entry t k).kind ≤ d
      → Marking t (set a (min (d - operands (entry t k).kind) 8) (k + 1)) (d - operands (entry t k).kind + 1) (k + 1)
  mark_more l =
      let e₀ = entry t k in
      let taken : ℕ = operands e₀.kind in
      let q : Made taken m.stack (push_kind e₀.kind e₀ m.stack) =
      made e₀.kind e₀ m.stack (omega (arith, m.height)) (omega (arith, m.height, m.deep)) in
      let top : ℕ = d - taken in
      let rest : List Formula = drop taken m.stack in
      let few : length rest ≡ top = length-drop taken m.stack ∙ omega (arith, m.height) in
      let now_is : stack_after t (suc k) ≡ some (q.0 ∷ rest) = stack_more t k h ∙ ap (push e₀) m.stack_is ∙ q.1 in
      record {
        deep = omega (arith, m.deep);
        long = length-set a (min top 8) (k + 1) ∙ m.long;
        stack = q.0 ∷ rest;
        stack_is = ap (stack_after t) (add-one k) ∙ now_is;
        height = omega arith;
        marks = λ i j below. ⊎_elim (at_top q.0 top rest few now_is i below) (under q.0 top rest few taken refl (omega arith) i below) (eq-or-lt_of_le (le_of_suc-le-suc (omega arith)));
      }
    where
      at_top : (χ : Formula) (top : ℕ) (rest : List Formula) → length rest ≡ top → stack_after t (suc k) ≡ some (χ ∷ rest) → (i : ℕ) → i < 8
          → i ≡ top → get_or (set a (min top 8) (k + 1)) i 0 ≡ start (reverse (χ ∷ rest)) (suc i)
      at_top χ top rest few is i below e =
          let place : min top 8 ≡ i = omega arith in
          ap (λ (p : ℕ). get_or (set a p (k + 1)) i 0) place
          ∙ rw e
          (get_or-set_same a top (k + 1) 0 (omega (arith, m.long))
          ∙ add-one k
          ∙ sym (counted t (suc k) (χ ∷ rest) h is)
          ∙ ap (λ (n : ℕ). start (reverse (χ ∷ rest)) (suc n)) few)

      under : (χ : Formula) (top : ℕ) (rest : List Formula) → length rest ≡ top → (taken : ℕ) → rest ≡ drop taken m.stack → top ≤ d → (i : ℕ) → i < 8
          → i < top → get_or (set a (min top 8) (k + 1)) i 0 ≡ start (reverse (χ ∷ rest)) (suc i)
      under χ top rest few taken is f i below l =
          get_or-set_other a (min top 8) i (k + 1) 0 (λ z. omega arith)
          ∙ m.marks i (omega arith) below
          ∙ start_drop taken m.stack (suc i) (omega (arith, ap length is))
          ∙ ap (λ (gs : List Formula). start (reverse gs) (suc i)) (sym is)
          ∙ sym (start_below χ rest (suc i) (omega arith))

  -- an operand is lacking: there is no formula of the n entries
  pub none_ends : (n : ℕ) (r : Ends) → k < n → d < operands (entry t k).kind → EndsOf t n r
  none_ends n r f l =
      let e₀ = entry t k in
      let s : push_kind e₀.kind e₀ m.stack ≡ none = short e₀.kind e₀ m.stack (omega (arith, m.height)) in
      let o : stack_after t n ≡ none = stays_none t (suc k) n f (stack_more t k h ∙ ap (push e₀) m.stack_is ∙ s) in
      record {
        number = λ version fs e. no_stack (sym (ap (left_by version) o) ∙ e);
        at = λ version fs e. no_stack (sym (ap (left_by version) o) ∙ e);
      }

-- the end of the loop
pub all_ends : (t : List Entry) (a : List ℕ) (d n : ℕ) → Marking t a d n → EndsOf t n (record { number = d; at = a })
all_ends t a d n m =
    record {
      number = λ version fs e. sym m.height ∙ sym (length-reverse m.stack) ∙ ap length (sym (same version fs e));
      at =
          λ version fs e k h.
          let q = ap length (same version fs e) in
          m.marks k (omega (arith, length-reverse m.stack, m.height)) (few version fs e k h) ∙ ap (λ (gs : List Formula). start gs (suc k)) (sym (same version fs e));
    }
  where
    eight : (one : Bool) → cond one 1 8 ≤ 8
    eight true = omega arith
    eight false = omega arith

    few : (version : ℕ) (fs : List Formula) → formulas version t n ≡ some fs → (k : ℕ) → k < length fs → k < 8
    few version fs e k h =
        let l : Left version (stack_after t n) fs = left_over version (stack_after t n) fs e in
        omega (arith, l.not_more, eight (eqb version 1), ap length l.order, length-reverse l.stack)

    same : (version : ℕ) (fs : List Formula) → formulas version t n ≡ some fs → fs ≡ reverse m.stack
    same version fs e =
        let l : Left version (stack_after t n) fs = left_over version (stack_after t n) fs e in
        let s : l.stack ≡ m.stack = cc (l.stack_is, m.stack_is) in
        l.order ∙ ap reverse s
