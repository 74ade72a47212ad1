-- Small laws on lists and sums that several proofs use.
use Prim.Native.Nat.{ℕ, zero, suc, ◌+◌, ◌≤◌, ◌<◌, max}
use native.Mathlib.Nat.{not-suc-le-zero, le_of_suc-le-suc, eq-or-lt_of_le}
use native.Mathlib.Numerals.{add-one}
use native.Mathlib.Omega.{arith}
use mathlib.Core.Path.{◌≡◌, refl, sym, ap, ◌∙◌}
use mathlib.Core.Logic.{⊎_elim}
use mathlib.Core.List.{List, [], ◌∷◌, ◌++◌}
use lib.ListN.{length, get_or, length-append, get_or-append}
use lib.Seq.{get_or_at}
use Rattle.mtl.specs.Satisfaction.{any}
use Rattle.rule.specs.declared.Entry.{Entry}
use Rattle.rule.specs.Entries.{entry}
use Rattle.rule.specs.Words.{offset}
use Rattle.rule.specs.Code.{totals, with_entry, greatest}

-- what does not fall from one number to the next is no less at any later one
pub grows : (f : ℕ → ℕ) → ((k : ℕ) → f k ≤ f (suc k)) → (k m : ℕ) → k ≤ m → f k ≤ f m
grows f step k zero h = let e : k ≡ 0 = omega arith in rw e (omega arith)
grows f step k (suc m) h =
    ⊎_elim
    (λ (e : k ≡ suc m). rw e (omega arith))
    (λ (l : k < suc m). omega (arith, grows f step k m (omega arith), step m))
    (eq-or-lt_of_le {n = k} {m = suc m} h)

-- within a list the default does not count
pub get_d_default : (l : List ℕ) (i d d' : ℕ) → i < length l → get_or l i d ≡ get_or l i d'
get_d_default [] i d d' h = absurd (not-suc-le-zero h)
get_d_default (x ∷ xs) zero d d' h = refl
get_d_default (x ∷ xs) (suc i) d d' h = get_d_default xs i d d' (le_of_suc-le-suc h)

pub totals_more : (t : List Entry) (k : ℕ) → totals t (k + 1) ≡ with_entry (totals t k) (entry t k)
unfolding any offset
totals_more t k = rw add-one refl

-- one position more
pub greatest_more : (a : List ℕ) (k : ℕ) → greatest a (k + 1) ≡ max (greatest a k) (get_or a (k + 1) 0)
unfolding greatest
greatest_more a k = ap (greatest a) (add-one k) ∙ ap (λ (n : ℕ). max (greatest a k) (get_or a n 0)) (sym (add-one k))

-- a list that grows at its end: f n has the elements x 0 to x (n - 1)
module _
    {A : Type 0}
    (d : A)
    (f : ℕ → List A)
    (x : ℕ → A)
    (empty : f 0 ≡ [])
    (more : (n : ℕ) → f (suc n) ≡ f n ++ (x n ∷ []))
  where
    pub grown_length : (n : ℕ) → length (f n) ≡ n
    grown_length zero = ap length empty
    grown_length (suc n) =
        ap length (more n) ∙ length-append (f n) (x n ∷ []) ∙ ap (λ (m : ℕ). m + 1) (grown_length n) ∙ add-one n

    pub grown_at : (n k : ℕ) → k < n → get_or (f n) k d ≡ x k
    grown_at zero k h = absurd (not-suc-le-zero h)
    grown_at (suc n) k h =
        ap (λ (l : List A). get_or l k d) (more n) ∙ ⊎_elim last (before (grown_at n k)) (eq-or-lt_of_le (le_of_suc-le-suc h))
      where
        last : k ≡ n → get_or (f n ++ (x n ∷ [])) k d ≡ x k
        last e = rw e (get_or_at (f n) (x n) [] d n (grown_length n))

        before : (k < n → get_or (f n) k d ≡ x k) → k < n → get_or (f n ++ (x n ∷ [])) k d ≡ x k
        before ih l = get_or-append (f n) (x n ∷ []) d k (rw grown_length l) ∙ ih l
