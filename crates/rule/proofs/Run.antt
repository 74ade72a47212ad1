-- The stack of quantities that `read` keeps in an array stands for the stack of formulas.
use Prim.Native.Nat.{ℕ, zero, suc, zero-le, ◌+◌, ◌-◌, ◌*◌, ◌≤◌, ◌<◌, max}
use native.Mathlib.Nat.{not-suc-le-zero, le_of_suc-le-suc}
use native.Mathlib.Numerals.{add-one}
use native.Mathlib.Omega.{arith}
use mathlib.Core.Path.{◌≡◌, refl, sym, ap, ap₂, subst, ◌∙◌}
use mathlib.Core.Bool.{true, false, ◌&&◌}
use mathlib.Core.List.{List, [], ◌∷◌, map, head-eq_of_cons-eq, tail-eq_of_cons-eq, nil≢cons, cons≢nil}
use mathlib.Core.Option.{Option, none, some}
use lib.Dec.{leb}
use lib.ListN.{length, get_or, drop, set, replicate, length-set, length-map}
use lib.Seq.{get_or-set_same, get_or-set_other}
use Rattle.mtl.specs.Formula.{Formula, reach, largest}
use Rattle.mtl.specs.Formula.Formula.{letter, not, or, previous, next, since, until}
use Rattle.mtl.specs.Wanted.{depth, deepest}
use Rattle.rule.specs.declared.Entry.{Entry}
use Rattle.std.specs.Prelude.{Some, None, unwrap_or}
use Rattle.std.specs.Prelude.{Option as OptionOf}
use Rattle.rule.specs.declared.measuring.Quantity.{Quantity}
use Rattle.rule.specs.declared.measuring.Quantity.TheVariants.{Reach, Depth}
use Rattle.rule.specs.Entries.{entry}
use Rattle.rule.specs.Postfix.{unary, binary, push_kind, push, read, stack_after, fewest_formulas, most_formulas, left_by, formulas, formulas_or}
use Rattle.rule.specs.Operands.{operands}
use Rattle.rule.specs.Code.{quantity, joined_by, greatest, reading}
use Rattle.rule.proofs.Stacks.{stack_more, stays_none}
use Rattle.rule.proofs.Order.{largest_reverse}

-- what an array holds from position d down to position 1
abbrev pub held : List ℕ → ℕ → List ℕ
held a zero = []
held a (suc d) = get_or a (suc d) 0 ∷ held a d

held_set : (a : List ℕ) (i v d : ℕ) → d < i → held (set a i v) d ≡ held a d
held_set a i v zero h = refl
held_set a i v (suc d) h =
    ap₂ (λ (x : ℕ) (l : List ℕ). x ∷ l) (get_or-set_other a i (suc d) v 0 (λ e. omega arith)) (held_set a i v d (omega arith))

length_held : (a : List ℕ) (d : ℕ) → length (held a d) ≡ d
length_held a zero = refl
length_held a (suc d) = ap suc (length_held a d)

-- the operands leave the stack
dropped : (of : Quantity) (fs : List Formula) (a : List ℕ) (d j : ℕ) → map (quantity of) fs ≡ held a d → j ≤ d
    → map (quantity of) (drop j fs) ≡ held a (d - j)
dropped of fs a d zero e h = let i : d ≡ d - 0 = omega arith in e ∙ ap (held a) i
dropped of [] a zero (suc j) e h = absurd (not-suc-le-zero h)
dropped of [] a (suc d) (suc j) e h = absurd (nil≢cons e)
dropped of (φ ∷ fs) a zero (suc j) e h = absurd (not-suc-le-zero h)
dropped of (φ ∷ fs) a (suc d) (suc j) e h =
    let i : d - j ≡ suc d - suc j = omega arith in
    dropped of fs a d j (tail-eq_of_cons-eq e) (le_of_suc-le-suc h) ∙ ap (held a) i

-- What an entry does to the stack: φ takes the place of its operands.
pub record Step (of : Quantity) (fs : List Formula) (taken : ℕ) (made : Option (List Formula)) (most_formulas : ℕ) : Type 0 where
  pub φ : Formula
  pub is : made ≡ some (φ ∷ drop taken fs)
  pub measures : quantity of φ ≡ most_formulas

unary_step : (of : Quantity) (f : Formula → Formula) (n : ℕ) (fs : List Formula) (a : List ℕ) (d : ℕ)
    → ((φ : Formula) → quantity of (f φ) ≡ n + quantity of φ) → map (quantity of) fs ≡ held a d → 1 ≤ d
    → Step of fs 1 (unary f fs) (n + max (get_or a (d + 1 - 1) 0) (get_or a d 0))
unary_step of f n [] a zero r e h = absurd (not-suc-le-zero h)
unary_step of f n [] a (suc d) r e h = absurd (nil≢cons e)
unary_step of f n (φ ∷ fs) a zero r e h = absurd (not-suc-le-zero h)
unary_step of f n (φ ∷ fs) a (suc d) r e h =
    record {
      φ = f φ;
      is = refl;
      measures =
          let i : suc d + 1 - 1 ≡ suc d = omega arith in
          rw i (r φ ∙ ap (λ (m : ℕ). n + m) (head-eq_of_cons-eq e ∙ omega arith));
    }

binary_step : (of : Quantity) (g : Formula → Formula → Formula) (n : ℕ) (fs : List Formula) (a : List ℕ) (d : ℕ)
    → ((φ ψ : Formula) → quantity of (g φ ψ) ≡ n + max (quantity of φ) (quantity of ψ)) → map (quantity of) fs ≡ held a d → 2 ≤ d
    → Step of fs 2 (binary g fs) (n + max (get_or a (d + 1 - 2) 0) (get_or a d 0))
binary_step of g n [] a zero r e l = absurd (not-suc-le-zero l)
binary_step of g n [] a (suc d) r e l = absurd (nil≢cons e)
binary_step of g n (ψ ∷ fs) a zero r e l = absurd (not-suc-le-zero l)
binary_step of g n (ψ ∷ fs) a (suc zero) r e l = absurd (not-suc-le-zero (le_of_suc-le-suc l))
binary_step of g n (ψ ∷ []) a (suc (suc d)) r e l = absurd (nil≢cons (tail-eq_of_cons-eq e))
binary_step of g n (ψ ∷ (φ ∷ fs)) a (suc (suc d)) r e l =
    record {
      φ = g φ ψ;
      is = refl;
      measures =
          let i : suc (suc d) + 1 - 2 ≡ suc d = omega arith in
          rw i (r φ ψ ∙ ap (λ (m : ℕ). n + m) (ap₂ max (head-eq_of_cons-eq (tail-eq_of_cons-eq e)) (head-eq_of_cons-eq e)));
    }

step : (of : Quantity) (kind l low high : ℕ) (fs : List Formula) (a : List ℕ) (d : ℕ) → map (quantity of) fs ≡ held a d
    → operands kind ≤ d → d < 200
    → Step of fs (operands kind) (push_kind kind (record { kind = kind; letter = l; low = low; high = high }) fs)
    (joined_by of (record { kind = kind; letter = l; low = low; high = high }) (get_or a (d + 1 - operands kind) 0) (get_or a d 0))
unfolding push_kind reach depth
step Reach zero l low high fs a d e h b = record { φ = letter l; is = refl; measures = refl }
step Depth zero l low high fs a d e h b = record { φ = letter l; is = refl; measures = refl }
step Reach (suc zero) l low high fs a d e h b = unary_step Reach not 0 fs a d (λ φ. omega arith) e h
step Depth (suc zero) l low high fs a d e h b = unary_step Depth not 0 fs a d (λ φ. omega arith) e h
step Reach (suc (suc zero)) l low high fs a d e h b = binary_step Reach or 0 fs a d (λ φ ψ. omega arith) e h
step Depth (suc (suc zero)) l low high fs a d e h b = binary_step Depth or 0 fs a d (λ φ ψ. omega arith) e h
step Reach (suc (suc (suc zero))) l low high fs a d e h b = unary_step Reach (previous low high) 0 fs a d (λ φ. omega arith) e h
step Depth (suc (suc (suc zero))) l low high fs a d e h b = unary_step Depth (previous low high) 1 fs a d (λ φ. omega arith) e h
step Reach (suc (suc (suc (suc zero)))) l low high fs a d e h b = unary_step Reach (next low high) 0 fs a d (λ φ. omega arith) e h
step Depth (suc (suc (suc (suc zero)))) l low high fs a d e h b = unary_step Depth (next low high) 0 fs a d (λ φ. omega arith) e h
step Reach (suc (suc (suc (suc (suc zero))))) l low high fs a d e h b =
    binary_step Reach (since low high) 0 fs a d (λ φ ψ. omega arith) e h
step Depth (suc (suc (suc (suc (suc zero))))) l low high fs a d e h b =
    binary_step Depth (since low high) 0 fs a d (λ φ ψ. omega arith) e h
step Reach (suc (suc (suc (suc (suc (suc zero)))))) l low high fs a d e h b =
    binary_step Reach (until low high) high fs a d (λ φ ψ. refl) e h
step Depth (suc (suc (suc (suc (suc (suc zero)))))) l low high fs a d e h b =
    binary_step Depth (until low high) 0 fs a d (λ φ ψ. omega arith) e h
step of (suc (suc (suc (suc (suc (suc (suc above))))))) l low high fs a d e h b = absurd (omega arith)

unary_short : (f : Formula → Formula) (fs : List Formula) → length fs < 1 → unary f fs ≡ none
unary_short f [] h = refl
unary_short f (φ ∷ fs) h = absurd (omega arith)

binary_short : (g : Formula → Formula → Formula) (fs : List Formula) → length fs < 2 → binary g fs ≡ none
binary_short g [] h = refl
binary_short g (φ ∷ []) h = refl
binary_short g (φ ∷ (ψ ∷ fs)) h = absurd (omega arith)

-- an entry that lacks an operand
pub short : (kind : ℕ) (e : Entry) (fs : List Formula) → length fs < operands kind → push_kind kind e fs ≡ none
unfolding push_kind
short zero e fs h = absurd (not-suc-le-zero h)
short (suc zero) e fs h = unary_short not fs h
short (suc (suc zero)) e fs h = binary_short or fs h
short (suc (suc (suc zero))) e fs h = unary_short (previous e.low e.high) fs h
short (suc (suc (suc (suc zero)))) e fs h = unary_short (next e.low e.high) fs h
short (suc (suc (suc (suc (suc zero))))) e fs h = binary_short (since e.low e.high) fs h
short (suc (suc (suc (suc (suc (suc zero)))))) e fs h = binary_short (until e.low e.high) fs h
short (suc (suc (suc (suc (suc (suc (suc above))))))) e fs h = refl

-- The array a holds, from position d down, the quantities of the stack after the first k entries.
pub record Running (of : Quantity) (t : List Entry) (a : List ℕ) (d k : ℕ) : Type 0 where
  pub deep : d ≤ k
  pub long : length a ≡ 129
  pub bottom : get_or a 0 0 ≡ 0
  pub bound : (i : ℕ) → get_or a i 0 ≤ k * 4294967295
  pub formulas : List Formula
  pub stack_is : stack_after t k ≡ some formulas
  pub measures : map (quantity of) formulas ≡ held a d

height_is : (of : Quantity) (t : List Entry) (a : List ℕ) (d k : ℕ) (r : Running of t a d k) → length r.formulas ≡ d
height_is of t a d k r = sym (length-map r.formulas (quantity of)) ∙ ap length r.measures ∙ length_held a d

bound_set : (a : List ℕ) (j v i b : ℕ) → ((n : ℕ) → get_or a n 0 ≤ b) → v ≤ b → get_or (set a j v) i 0 ≤ b
bound_set [] j v i b h l = h i
bound_set (x ∷ a) zero v zero b h l = l
bound_set (x ∷ a) zero v (suc i) b h l = h (suc i)
bound_set (x ∷ a) (suc j) v zero b h l = h zero
bound_set (x ∷ a) (suc j) v (suc i) b h l = bound_set a j v i b (λ n. h (suc n)) l

-- a turn of the loop
pub one_more : (of : Quantity) (t : List Entry) (a : List ℕ) (d k v : ℕ) → Running of t a d k → k < length t → k < 128 → operands (entry t k).kind ≤ d
    → v ≡ joined_by of (entry t k) (get_or a (d + 1 - operands (entry t k).kind) 0) (get_or a d 0)
    → v ≤ max (get_or a (d + 1 - operands (entry t k).kind) 0) (get_or a d 0) + 4294967295
    → Running of t (set a (d + 1 - operands (entry t k).kind) v) (d + 1 - operands (entry t k).kind) (k + 1)
one_more of t a d k v r h b l e m =
    let e₀ = entry t k in
    let taken : ℕ = operands e₀.kind in
    let at : ℕ = d + 1 - taken in
    let q : Step of r.formulas taken (push_kind e₀.kind e₀ r.formulas) (joined_by of e₀ (get_or a at 0) (get_or a d 0)) =
    step of e₀.kind e₀.letter e₀.low e₀.high r.formulas a d r.measures l (omega (arith, r.deep)) in
    let i : at ≡ suc (d - taken) = omega arith in
    let f : suc (d - taken) < length a = omega (arith, r.deep, r.long) in
    record {
      deep = omega (arith, r.deep);
      long = length-set a at v ∙ r.long;
      bottom = get_or-set_other a at 0 v 0 (λ z. omega arith) ∙ r.bottom;
      bound =
          λ n. bound_set a at v n ((k + 1) * 4294967295) (λ n. omega (arith, r.bound n)) (omega (arith, r.bound at, r.bound d));
      formulas = q.φ ∷ drop taken r.formulas;
      stack_is = ap (stack_after t) (add-one k) ∙ stack_more t k h ∙ ap (push e₀) r.stack_is ∙ q.is;
      measures =
          subst (λ (n : ℕ). quantity of q.φ ∷ map (quantity of) (drop taken r.formulas) ≡ held (set a n v) n) (sym i)
          (ap₂ (λ (x : ℕ) (xs : List ℕ). x ∷ xs)
          (q.measures ∙ sym e ∙ sym (get_or-set_same a (suc (d - taken)) v 0 f))
          (dropped of r.formulas a d taken r.measures l ∙ sym (held_set a (suc (d - taken)) v (d - taken) (omega arith))));
    }

zeros : (n i : ℕ) → ◌≡◌ {A = ℕ} (get_or (replicate n 0) i 0) 0
zeros zero i = refl
zeros (suc n) zero = refl
zeros (suc n) (suc i) = zeros n i

-- before the first entry
pub none_read : (of : Quantity) (t : List Entry) → Running of t (replicate 129 0) 0 0
unfolding read
none_read of t = record { deep = zero-le; long = refl; bottom = refl; bound = λ i. omega (arith, zeros 129 i); formulas = []; stack_is = refl; measures = refl }

-- an operand is lacking at entry k: there is no formula of the n entries
pub lacks_operand : (of : Quantity) (version : ℕ) (t : List Entry) (a : List ℕ) (d k n : ℕ) → Running of t a d k → k < length t → k < n
    → d < operands (entry t k).kind → reading of (formulas version t n) ≡ None
lacks_operand of version t a d k n r h m l =
    let e₀ = entry t k in
    let s : push_kind e₀.kind e₀ r.formulas ≡ none =
    short e₀.kind e₀ r.formulas (omega (arith, height_is of t a d k r)) in
    let o : stack_after t (suc k) ≡ none = stack_more t k h ∙ ap (push e₀) r.stack_is ∙ s in
    ap (λ (o : Option (List Formula)). reading of (left_by version o)) (stays_none t (suc k) n m o)

-- the largest (quantity of) the stack's quantities
greatest_held : (of : Quantity) (fs : List Formula) (a : List ℕ) (d : ℕ) → map (quantity of) fs ≡ held a d → largest (quantity of) fs ≡ greatest a d
unfolding largest greatest
greatest_held of [] a zero e = refl
greatest_held of [] a (suc d) e = absurd (nil≢cons e)
greatest_held of (φ ∷ fs) a zero e = absurd (cons≢nil e)
greatest_held of (φ ∷ fs) a (suc d) e =
    let top = head-eq_of_cons-eq e in
    omega (arith, greatest_held of fs a d (tail-eq_of_cons-eq e))

-- the end of the loop: as many formulas as the version wants
pub enough_formulas : (of : Quantity) (version : ℕ) (t : List Entry) (a : List ℕ) (d n : ℕ) → Running of t a d n
    → (leb (fewest_formulas version) d && leb d (most_formulas version)) ≡ true → reading of (formulas version t n) ≡ Some (greatest a d)
enough_formulas of version t a d n r e =
    ap (λ (o : Option (List Formula)). reading of (left_by version o)) r.stack_is
    ∙ simp (height_is of t a d n r, e) (ap Some (largest_reverse of r.formulas ∙ greatest_held of r.formulas a d r.measures))

-- too few or too many
pub other_number : (of : Quantity) (version : ℕ) (t : List Entry) (a : List ℕ) (d n : ℕ) → Running of t a d n
    → (leb (fewest_formulas version) d && leb d (most_formulas version)) ≡ false → reading of (formulas version t n) ≡ None
other_number of version t a d n r e =
    ap (λ (o : Option (List Formula)). reading of (left_by version o)) r.stack_is
    ∙ simp (height_is of t a d n r, e)

-- the largest depth, where the entries are formulas, and 0 where not
pub depth_of : (o : Option (List Formula)) → unwrap_or (reading Depth o) 0 ≡ deepest (formulas_or o)
unfolding largest
depth_of none = refl
depth_of (some fs) = refl

pub depth_found : (o : Option (List Formula)) (most_formulas : ℕ) → reading Depth o ≡ Some most_formulas → most_formulas ≡ deepest (formulas_or o)
depth_found o most_formulas e = sym (ap (λ (r : OptionOf ℕ). unwrap_or r 0) e) ∙ depth_of o

pub depth_faulty : (o : Option (List Formula)) → reading Depth o ≡ None → 0 ≡ deepest (formulas_or o)
depth_faulty o e = sym (ap (λ (r : OptionOf ℕ). unwrap_or r 0) e) ∙ depth_of o
