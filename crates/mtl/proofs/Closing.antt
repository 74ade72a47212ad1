-- The answered number of a formula on a log that may be closed: within the log, by operator, and on a log that continues it.
-- Assumes nothing.
use Prim.Native.Nat.{ℕ, suc, ◌-◌, ◌≤◌, ◌<◌, min}
use mathlib.Core.Bool.{true, false}
use mathlib.Core.Logic.{◌⊎◌, inl, inr, ⊎_elim}
use mathlib.Core.Path.{◌≡◌, refl, sym, ◌∙◌, ap₂}
use native.Mathlib.Omega.{arith}
use Rattle.mtl.specs.Formula.{Formula}
use Rattle.mtl.specs.Formula.Formula.{letter, not, or, previous, next, since, until}
use Rattle.mtl.specs.Log.{Log, NeverFalls, Continues}
use Rattle.mtl.specs.Satisfaction.{sat}
use Rattle.mtl.specs.Progress.{settled_yes, progress, settled_to}
use Rattle.mtl.proofs.Bounded.{true_or_false, false_iff}
use Rattle.mtl.proofs.Until.{
  progress_le_size,
  SettledYes,
  SettledNo,
  settled_yes_iff,
  settled_iff,
  settled_verdict,
  answered_operands,
  until_answered,
}
use Rattle.mtl.proofs.Lengthening.{progress_grows, answers_stay, same_sat}

pub settled_closed : (φ : Formula) (L : Log) → L.closed ≡ true → settled_to φ L ≡ L.size
unfolding settled_to
settled_closed φ L e = rw e

pub settled_open : (φ : Formula) (L : Log) → L.closed ≡ false → settled_to φ L ≡ progress φ L
unfolding settled_to
settled_open φ L e = rw e

-- what holds of a closed log and of an open one
pub by_closed : {P : Type 0} (L : Log) → (L.closed ≡ true → P) → (L.closed ≡ false → P) → P
by_closed L when_closed when_open = ⊎_elim when_closed when_open (true_or_false L.closed)

module _ (φ : Formula) (L : Log) where
  pub settled_le_size : settled_to φ L ≤ L.size
  settled_le_size =
      by_closed L
      (λ c. omega (arith, settled_closed φ L c))
      (λ o. omega (arith, settled_open φ L o, progress_le_size φ L))

  pub progress_le_settled : progress φ L ≤ settled_to φ L
  progress_le_settled =
      by_closed L
      (λ c. omega (arith, settled_closed φ L c, progress_le_size φ L))
      (λ o. omega (arith, settled_open φ L o))

-- BY OPERATOR: as progress has it, but for next and until, which have answered every position of a closed log.

module _ (L : Log) where
  pub settled_letter : (k : ℕ) → settled_to (letter k) L ≡ L.size
  unfolding progress
  settled_letter k = by_closed L (settled_closed (letter k) L) (settled_open (letter k) L)

  pub settled_not : (φ : Formula) → settled_to (not φ) L ≡ settled_to φ L
  unfolding progress settled_to
  settled_not φ = refl

  pub settled_previous : (low high : ℕ) (φ : Formula) → settled_to (previous low high φ) L ≡ min L.size (suc (settled_to φ L))
  unfolding progress
  settled_previous low high φ =
      by_closed L
      (λ c. omega (arith, settled_closed (previous low high φ) L c, settled_closed φ L c))
      (λ o. omega (arith, settled_open (previous low high φ) L o, settled_open φ L o))

  module _ (φ ψ : Formula) where
    pub settled_or : settled_to (or φ ψ) L ≡ min (settled_to φ L) (settled_to ψ L)
    unfolding progress
    settled_or =
        by_closed L
        (λ c. omega (arith, settled_closed (or φ ψ) L c, settled_closed φ L c, settled_closed ψ L c))
        (λ o. omega (arith, settled_open (or φ ψ) L o, settled_open φ L o, settled_open ψ L o))

    pub settled_since : (low high : ℕ) → settled_to (since low high φ ψ) L ≡ min (settled_to φ L) (settled_to ψ L)
    unfolding progress
    settled_since low high =
        by_closed L
        (λ c. omega (arith, settled_closed (since low high φ ψ) L c, settled_closed φ L c, settled_closed ψ L c))
        (λ o. omega (arith, settled_open (since low high φ ψ) L o, settled_open φ L o, settled_open ψ L o))

  -- on an open log; on a closed one it is `settled_closed`
  pub settled_next : L.closed ≡ false → (low high : ℕ) (φ : Formula) → settled_to (next low high φ) L ≡ settled_to φ L - 1
  unfolding progress
  settled_next o low high φ = omega (arith, settled_open (next low high φ) L o, settled_open φ L o)

-- UNTIL, over the positions that both operands have answered.

abbrev pub both_settled : (φ ψ : Formula) (L : Log) → ℕ
both_settled φ ψ L = min (settled_to φ L) (settled_to ψ L)

pub both_fit : (φ ψ : Formula) (L : Log) → both_settled φ ψ L ≤ L.size
both_fit φ ψ L = omega (arith, settled_le_size φ L)

module _ (low high : ℕ) (φ ψ : Formula) (L : Log) (falls : NeverFalls L) (i : ℕ) where
  abbrev pub MetBelow : Type 0
  MetBelow = SettledYes low high L.time (sat φ L) (sat ψ L) L.size (both_settled φ ψ L) i

  abbrev pub UnmetBelow : Type 0
  UnmetBelow = SettledNo low high L.time (sat φ L) (sat ψ L) L.size (both_settled φ ψ L) i

  open_operands : L.closed ≡ false → both_settled φ ψ L ≡ answered_operands φ ψ L
  open_operands o = ap₂ min (settled_open φ L o) (settled_open ψ L o)

  -- an answered position of an open log is settled
  pub until_open : L.closed ≡ false → i < settled_to (until low high φ ψ) L → MetBelow ⊎ UnmetBelow
  until_open o l =
      rw (open_operands o) ((until_answered low high φ ψ L falls i).0 (omega (arith, settled_open (until low high φ ψ) L o))).1

  module _ (h : i < both_settled φ ψ L) where
    -- what is settled is answered
    pub until_settles : MetBelow ⊎ UnmetBelow → i < settled_to (until low high φ ψ) L
    until_settles s =
        by_closed L
        (λ c. omega (arith, settled_closed (until low high φ ψ) L c, both_fit φ ψ L))
        (λ o.
        let m = open_operands o in
        omega (arith, settled_open (until low high φ ψ) L o, (until_answered low high φ ψ L falls i).1 (omega arith, rw m at s)))

    until_decided : MetBelow ⊎ UnmetBelow →
        sat (until low high φ ψ) L i ≡ settled_yes low high L.time (sat φ L) (sat ψ L) L.size (both_settled φ ψ L) i
    unfolding sat
    until_decided s =
        settled_verdict low high L.time (sat φ L) (sat ψ L) L.size (both_settled φ ψ L) (both_fit φ ψ L) falls i h
        ((settled_iff low high L.time (sat φ L) (sat ψ L) L.size (both_settled φ ψ L) i).1 s)

    pub until_met : MetBelow → sat (until low high φ ψ) L i ≡ true
    until_met y =
        until_decided (inl y) ∙
        (settled_yes_iff low high L.time (sat φ L) (sat ψ L) L.size (both_settled φ ψ L) i).1 y

    pub until_unmet : UnmetBelow → sat (until low high φ ψ) L i ≡ false
    until_unmet n =
        until_decided (inr n) ∙
        (false_iff _).1 (λ y. n.0 ((settled_yes_iff low high L.time (sat φ L) (sat ψ L) L.size (both_settled φ ψ L) i).0 y))

  -- on a closed log no j follows: what no j of it meets is no
  pub until_ends : L.closed ≡ true → (MetBelow → ⊥) → sat (until low high φ ψ) L i ≡ false
  unfolding sat
  until_ends c never =
      let all : both_settled φ ψ L ≡ L.size = omega (arith, settled_closed φ L c, settled_closed ψ L c) in
      (false_iff _).1 (λ y. never (rw all ((settled_yes_iff low high L.time (sat φ L) (sat ψ L) L.size L.size i).0 y)))

-- ON A LOG THAT CONTINUES IT

module _ (φ : Formula) (K L : Log) (longer : Continues K L) (falls : NeverFalls L) where
  pub settled_grows : settled_to φ K ≤ settled_to φ L
  settled_grows =
      by_closed K
      (λ c. let e = longer.ended c in omega (arith, settled_closed φ K c, settled_closed φ L e.0, e.1))
      (λ o. omega (arith, settled_open φ K o, progress_grows φ K L longer falls, progress_le_settled φ L))

  -- an answer stays; on a closed log because the other has its records and no more
  pub settled_stays : (i : ℕ) → i < settled_to φ K → sat φ K i ≡ sat φ L i
  settled_stays i h =
      by_closed K
      (λ c. same_sat φ K L (sym (longer.ended c).1) longer.same i (omega (arith, settled_le_size φ K)))
      (λ o. answers_stay φ K L longer falls i (omega (arith, settled_open φ K o)))
