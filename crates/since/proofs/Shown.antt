-- The positions that a since is shown: what is known of one of them.
use Prim.Native.Nat.{ℕ, suc, ◌+◌, ◌-◌, ◌≤◌, ◌<◌}
use native.Mathlib.Omega.{arith}
use mathlib.Core.Bool.{Bool}
use mathlib.Core.Path.{◌≡◌, ap}
use Rattle.mtl.specs.Formula.{unbounded}
use Rattle.blocks.specs.Ring.{Rises, Shown}

pub next : (g i : ℕ) → g + suc i ≡ g + i + 1
next g i = omega arith

pub before_next : (p : ℕ) → p + 1 - 1 ≡ p
before_next p = omega arith

-- what is in reach of a position was in reach of the one before it
pub was_near : (high : ℕ) (time : ℕ → ℕ) (p : ℕ) → ((i j : ℕ) → i ≤ j → j ≤ p → time i ≤ time j) → (j : ℕ) →
    time (p + 1 - 1) - time j ≤ high → time (p - 1) - time j ≤ high
was_near high time p falls j h =
    let f = falls (p - 1) p (omega arith) (omega arith) in
    let e = ap time (before_next p) in
    omega arith

module _ {time : ℕ → ℕ} {left right : ℕ → Bool} {g n : ℕ} {at : ℕ → ℕ} {v w : ℕ} (shown : Shown time left right g n at v w) (i : ℕ) (h : i < n) where
  pub time_small : time (g + i) ≤ unbounded
  time_small = omega (arith, shown.small i h, shown.same i h)

  pub falls_here : (j k : ℕ) → j ≤ k → k ≤ g + i → time j ≤ time k
  falls_here j k l m = shown.falls j k l (omega arith)

-- their times never fall, and `first` is not later
pub shown_rises : {time : ℕ → ℕ} {left right : ℕ → Bool} {g n : ℕ} {at : ℕ → ℕ} {v w : ℕ} → Shown time left right g n at v w → {first : ℕ} → first ≤ at 0 → Rises at n first
shown_rises {g = g} shown h = (
  λ i j l k. let f = shown.falls (g + i) (g + j) (omega arith) (omega arith) in omega (arith, shown.same i (omega arith), shown.same j k),
  h,
)
