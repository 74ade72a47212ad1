-- Reading entries one after the other: the stack after one entry more, and that a fault stays.
use Prim.Native.Nat.{ℕ, zero, suc, ◌-◌, ◌≤◌, ◌<◌}
use native.Mathlib.Nat.{add-sub_of_le}
use native.Mathlib.Omega.{arith}
use borrow.Author.Tests.{leb-true}
use mathlib.Core.Path.{◌≡◌, refl, sym, ap, subst, ◌∙◌}
use mathlib.Core.Bool.{Bool, true, false, cond, ◌&&◌}
use mathlib.Core.List.{List, [], ◌∷◌, ◌++◌, reverse}
use mathlib.Core.Option.{Option, none, some}
use lib.Dec.{leb}
use lib.ListN.{length, take, drop}
use lib.Seq.{take-suc, take-add}
use Rattle.mtl.specs.Formula.{Formula}
use Rattle.rule.specs.declared.Entry.{Entry}
use Rattle.rule.specs.Entries.{entry, blank}
use Rattle.rule.specs.Postfix.{push_kind, push, read, stack_after, fewest_formulas, most_formulas, left_by}

pub read_append : (xs ys : List Entry) (stack : Option (List Formula)) → read (xs ++ ys) stack ≡ read ys (read xs stack)
unfolding read
read_append [] ys stack = refl
read_append (e ∷ xs) ys stack = read_append xs ys (push e stack)

pub read_none : (xs : List Entry) → read xs none ≡ none
unfolding read
read_none [] = refl
read_none (e ∷ xs) = read_none xs

-- the stack after entry k from the stack before it
pub stack_more : (t : List Entry) (k : ℕ) → k < length t → stack_after t (suc k) ≡ push (entry t k) (stack_after t k)
unfolding read
stack_more t k h = ap (λ (l : List Entry). read l (some [])) (take-suc t k blank h) ∙ read_append (take k t) (entry t k ∷ []) (some [])

-- the stack after n entries from the stack after the first k of them
pub stack_on : (t : List Entry) (k n : ℕ) → k ≤ n → stack_after t n ≡ read (take (n - k) (drop k t)) (stack_after t k)
stack_on t k n h =
    ap (λ (m : ℕ). read (take m t) (some [])) (sym (add-sub_of_le h))
    ∙ ap (λ (l : List Entry). read l (some [])) (take-add k (n - k) t)
    ∙ read_append (take k t) (take (n - k) (drop k t)) (some [])

-- once an operand was lacking, there is no stack
pub stays_none : (t : List Entry) (k n : ℕ) → k ≤ n → stack_after t k ≡ none → stack_after t n ≡ none
stays_none t k n h e = stack_on t k n h ∙ rw e (read_none (take (n - k) (drop k t)))

-- P holds of the stack, if there is one
abbrev pub Each : (List Formula → Type 0) → Option (List Formula) → Type 0
Each P none = Unit {0}
Each P (some stack) = P stack

pub no_stack : {stack : List Formula} {A : Type 0} → none ≡ some stack → A
no_stack e = let z : ◌≡◌ {A = ℕ} 0 1 = cc in absurd (omega arith)

same_stack : {xs ys : List Formula} → some xs ≡ some ys → xs ≡ ys
same_stack e = cc

-- the formulas that are left are the stack, from its bottom, and are as many as the version wants
pub record Left (version : ℕ) (o : Option (List Formula)) (fs : List Formula) : Type 0 where
  pub stack : List Formula
  pub stack_is : o ≡ some stack
  pub order : fs ≡ reverse stack
  pub enough : fewest_formulas version ≤ length stack
  pub not_more : length stack ≤ most_formulas version

pub left_over : (version : ℕ) (o : Option (List Formula)) (fs : List Formula) → left_by version o ≡ some fs → Left version o fs
left_over version none fs e = no_stack e
left_over version (some st) fs e = go (leb (fewest_formulas version) (length st)) (leb (length st) (most_formulas version)) refl refl e
  where
    go : (a b : Bool) → leb (fewest_formulas version) (length st) ≡ a → leb (length st) (most_formulas version) ≡ b
        → cond (a && b) (some (reverse st)) none ≡ some fs → Left version (some st) fs
    go true true p q e =
        record {
          stack = st;
          stack_is = refl;
          order = sym (same_stack e);
          enough = leb-true (fewest_formulas version) (length st) p;
          not_more = leb-true (length st) (most_formulas version) q;
        }
    go true false p q e = no_stack e
    go false b p q e = no_stack e

-- What holds of the empty stack, and stays true as each of the first n entries is pushed, holds of each stack on the way.
module _
    (Q : ℕ → List Formula → Type 0)
    (t : List Entry)
    (n : ℕ)
    (fits : n ≤ length t)
    (base : Q 0 [])
    (grows : (k : ℕ) (fs : List Formula) → k < n → Q k fs → Each (Q (suc k)) (push_kind (entry t k).kind (entry t k) fs))
  where
    pub along : (k : ℕ) → k ≤ n → (fs : List Formula) → stack_after t k ≡ some fs → Q k fs
    unfolding read
    along zero h fs e = subst (Q 0) (same_stack e) base
    along (suc k) h fs e = go (stack_after t k) (along k (omega arith)) (sym (stack_more t k (omega arith)) ∙ e)
      where
        go : (o : Option (List Formula)) → ((gs : List Formula) → o ≡ some gs → Q k gs) → push (entry t k) o ≡ some fs → Q (suc k) fs
        go none ih p = no_stack p
        go (some gs) ih p = subst (Each (Q (suc k))) p (grows k gs h (ih gs refl))
