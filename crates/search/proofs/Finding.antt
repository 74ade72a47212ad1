-- The first and the last position that a test finds, among answers that come batch by batch. Assumes nothing.
use Prim.Native.Nat.{ℕ, zero, suc, ◌+◌, ◌-◌, ◌≤◌, ◌<◌}
use mathlib.Core.Bool.{Bool, true, false, cond, ◌&&◌}
use mathlib.Core.Bool.{not as negate}
use mathlib.Core.Logic.{⊎_elim}
use mathlib.Core.Path.{◌≡◌, refl, sym, ◌∙◌, ap}
use native.Mathlib.Omega.{arith}
use lib.Dec.{leb}
use Rattle.mtl.proofs.Bounded.{true_and_false, false_iff, not_iff, le_or_lt, run_le, run_holds, run_stops, run_least}
use Rattle.bits.specs.Packed.{bit, last_zero, Packed}
use Rattle.reasons.specs.Search.{first_where, after_last}
use Rattle.reasons.proofs.Searches.{last_holds, none_after}
use Rattle.search.specs.Scan.{is, sought, sought_bit}

unturned : (b : Bool) → negate b ≡ true → b ≡ false
unturned b e = (false_iff b).1 ((not_iff b).0 e)

turned_back : (b : Bool) → negate b ≡ false → b ≡ true
turned_back true e = refl
turned_back false e = sym e

-- THE FIRST

module _ (n : ℕ) (p : ℕ → Bool) where
  pub first_most : first_where n p ≤ n
  first_most = run_le n (λ (k : ℕ). negate (p k))

  pub none_before : (q : ℕ) → q < first_where n p → p q ≡ false
  none_before q h = unturned (p q) (run_holds n (λ (k : ℕ). negate (p k)) q h)

  pub first_holds : first_where n p < n → p (first_where n p) ≡ true
  first_holds h = turned_back (p (first_where n p)) (run_stops n (λ (k : ℕ). negate (p k)) h)

  pub first_unique : (r : ℕ) → r ≤ n → ((q : ℕ) → q < r → p q ≡ false) → (r < n → p r ≡ true) → first_where n p ≡ r
  first_unique r most none hit =
      let least : r ≤ first_where n p = run_least n (λ (k : ℕ). negate (p k)) r most (λ q h. ap negate (none q h)) in
      let not_behind : r < first_where n p → ⊥ = λ h. true_and_false (hit (omega (arith, first_most))) (none_before r h) in
      omega arith

-- n more positions behind those below d
pub first_more : (d n : ℕ) (p : ℕ → Bool) → first_where d p ≡ d → first_where (d + n) p ≡ d + first_where n (λ (i : ℕ). p (d + i))
first_more d n p none =
    let r = first_where n (λ (i : ℕ). p (d + i)) in
    let most = first_most n (λ (i : ℕ). p (d + i)) in
    first_unique (d + n) p (d + r) (omega arith)
    (λ q h.
    ⊎_elim
    (λ (b : d ≤ q).
    let e : d + (q - d) ≡ q = omega arith in
    ap p (sym e) ∙ none_before n (λ (i : ℕ). p (d + i)) (q - d) (omega arith))
    (λ (b : q < d). none_before d p q (omega arith))
    (le_or_lt d q))
    (λ h. first_holds n (λ (i : ℕ). p (d + i)) (omega arith))

pub first_stays : (d n : ℕ) (p : ℕ → Bool) → first_where d p < d → first_where (d + n) p ≡ first_where d p
first_stays d n p found =
    first_unique (d + n) p (first_where d p) (omega arith) (none_before d p) (λ h. first_holds d p found)

pub first_congr : (n : ℕ) (p q : ℕ → Bool) → ((i : ℕ) → i < n → p i ≡ q i) → first_where n p ≡ first_where n q
first_congr n p q same =
    first_unique n p (first_where n q) (first_most n q)
    (λ i h. same i (omega (arith, first_most n q)) ∙ none_before n q i h)
    (λ h. same (first_where n q) h ∙ first_holds n q h)

-- THE LAST

pub last_most : (n : ℕ) (p : ℕ → Bool) → after_last n p ≤ n
unfolding after_last
last_most zero p = omega arith
last_most (suc n) p = by (p n) (last_most n p)
  where
    by : (b : Bool) → after_last n p ≤ n → cond b (suc n) (after_last n p) ≤ suc n
    by true ih = omega arith
    by false ih = omega arith

pub last_unique : (n : ℕ) (p : ℕ → Bool) (r : ℕ) → r ≤ n → (0 < r → p (r - 1) ≡ true) → ((q : ℕ) → r ≤ q → q < n → p q ≡ false) → after_last n p ≡ r
last_unique n p r most hit none =
    let a = after_last n p in
    let not_less : a < r → ⊥ = λ h. true_and_false (hit (omega arith)) (none_after n p (r - 1) (omega arith) (omega arith)) in
    let not_more : r < a → ⊥ = λ h. let (inside, holds) = last_holds n p (omega arith) in true_and_false holds (none (a - 1) (omega arith) (omega arith)) in
    omega arith

-- none among n more positions behind those below d
pub last_stays : (d n : ℕ) (p : ℕ → Bool) → after_last n (λ (i : ℕ). p (d + i)) ≡ 0 → after_last (d + n) p ≡ after_last d p
last_stays d n p e =
    last_unique (d + n) p (after_last d p) (omega (arith, last_most d p)) (λ h. (last_holds d p h).1)
    (λ q a b.
    ⊎_elim
    (λ (c : d ≤ q).
    let back : d + (q - d) ≡ q = omega arith in
    ap p (sym back) ∙ none_after n (λ (i : ℕ). p (d + i)) (q - d) (omega arith) (omega arith))
    (λ (c : q < d). none_after d p q a c)
    (le_or_lt d q))

-- one among them
pub last_more : (d n : ℕ) (p : ℕ → Bool) → 0 < after_last n (λ (i : ℕ). p (d + i)) → after_last (d + n) p ≡ d + after_last n (λ (i : ℕ). p (d + i))
last_more d n p some =
    let l = after_last n (λ (i : ℕ). p (d + i)) in
    let (inside, holds) = last_holds n (λ (i : ℕ). p (d + i)) some in
    last_unique (d + n) p (d + l) (omega arith)
    (λ h. let e : d + l - 1 ≡ d + (l - 1) = omega arith in ap p e ∙ holds)
    (λ q a b.
    let back : d + (q - d) ≡ q = omega arith in
    ap p (sym back) ∙ none_after n (λ (i : ℕ). p (d + i)) (q - d) (omega arith) (omega arith))

-- WORDS OF ANSWERS

pub last_in_word : (n w : ℕ) (g : ℕ → Bool) → ((i : ℕ) → i < n → g i ≡ bit w i) → after_last n (λ (i : ℕ). negate (g i)) ≡ last_zero n w
unfolding after_last last_zero
last_in_word zero w g same = refl
last_in_word (suc n) w g same = by (g n) (bit w n) (same n (omega arith)) (last_in_word n w g (λ i h. same i (omega arith)))
  where
    by : (a b : Bool) → a ≡ b → after_last n (λ (i : ℕ). negate (g i)) ≡ last_zero n w →
        cond (negate a) (suc n) (after_last n (λ (i : ℕ). negate (g i))) ≡ cond b (last_zero n w) (suc n)
    by true b e ih = rw (sym e) ih
    by false b e ih = rw (sym e) refl

pub first_in_word : (n w done : ℕ) (want : Bool) (from : ℕ) (f : ℕ → Bool) → Packed f done n w →
    first_where n (λ (i : ℕ). sought want from f (done + i)) ≡ first_where n (sought_bit w done want from)
first_in_word n w done want from f packed =
    first_congr n (λ (i : ℕ). sought want from f (done + i)) (sought_bit w done want from)
    (λ i h. ap (λ (x : Bool). leb from (done + i) && is want x) (packed.same i h))
