-- The first and the last of the positions below n that a test finds. proofs/Searches.antt shows that they are that.
use Rattle.std.specs.Prelude.{ℕ, zero, suc, ◌<◌, Bool, true, false, cond, not as negate, ◌≡◌}
use Rattle.mtl.specs.Progress.{run}

-- the first position below n at which p holds; n where there is none: as far as p holds nowhere
abbrev pub first_where : (n : ℕ) → (ℕ → Bool) → ℕ
first_where n p = run n (λ (k : ℕ). negate (p k))

-- one more than the last position below n at which p holds; 0 where there is none
unfoldable pub after_last : (n : ℕ) → (ℕ → Bool) → ℕ
after_last zero p = 0
after_last (suc n) p = cond (p n) (suc n) (after_last n p)

-- r is the first position below n at which p holds
pub record IsFirst (n : ℕ) (p : ℕ → Bool) (r : ℕ) : Type 0 where
  pub inside : r < n
  pub holds : p r ≡ true
  pub none_before : (q : ℕ) → q < r → p q ≡ false

-- r is the last
pub record IsLast (n : ℕ) (p : ℕ → Bool) (r : ℕ) : Type 0 where
  pub inside : r < n
  pub holds : p r ≡ true
  pub none_behind : (q : ℕ) → r < q → q < n → p q ≡ false
