-- Numbers of the first formulas, one behind the other, in the first of lent words. Assumes nothing.
use Prim.Native.Nat.{ℕ, zero, suc, ◌+◌, ◌<◌}
use mathlib.Core.List.{List, [], ◌∷◌, ◌++◌, append_assoc}
use mathlib.Core.Path.{◌≡◌, refl, sym, ap, ap₂, ◌∙◌}
use native.Mathlib.Numerals.{add-one}
use native.Mathlib.Omega.{arith}
use lib.ListN.{length, get_or, drop, set, length-append}
use lib.Seq.{drop-cons, set_at}
use Rattle.verdicts.specs.Counts.{listed}

module _ (f : ℕ → ℕ) where
  length_listed : (n : ℕ) → length (listed f n) ≡ n
  unfolding listed
  length_listed zero = refl
  length_listed (suc k) =
      let e = length_listed k in
      let sum = length-append (listed f k) (f k ∷ []) in
      omega arith

  pub listed_none : (l : List ℕ) → l ≡ listed f 0 ++ drop 0 l
  unfolding listed
  listed_none l = refl

  -- one formula more
  pub listed_more : (k v : ℕ) (l l' : List ℕ) → k < length l → v ≡ f k → l' ≡ listed f k ++ drop k l →
      set l' k v ≡ listed f (k + 1) ++ drop (k + 1) l
  unfolding listed
  listed_more k v l l' below e before =
      ap (λ (m : List ℕ). set m k v) (before ∙ ap (λ (m : List ℕ). listed f k ++ m) (drop-cons l k 0 below)) ∙
      set_at (listed f k) (get_or l k 0) (drop (suc k) l) v k (length_listed k) ∙
      ap (λ (w : ℕ). listed f k ++ (w ∷ drop (suc k) l)) e ∙
      sym (append_assoc (listed f k) (f k ∷ []) (drop (suc k) l)) ∙
      ap (λ (m : ℕ). listed f m ++ drop m l) (sym (add-one k))

-- the numbers are the same where those of each formula are
pub listed_same : (f g : ℕ → ℕ) (n : ℕ) → ((k : ℕ) → k < n → f k ≡ g k) → listed f n ≡ listed g n
unfolding listed
listed_same f g zero same = refl
listed_same f g (suc n) same =
    ap₂ (λ (l : List ℕ) (v : ℕ). l ++ (v ∷ [])) (listed_same f g n (λ k h. same k (omega arith))) (same n (omega arith))
