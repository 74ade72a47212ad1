-- `walks::answer_told` meets its contract, by the laws of proofs/Told. Assumes nothing.
use Prim.Native.Nat.{ℕ}
use native.Mathlib.Omega.{arith}
use mathlib.Core.Logic.{inl}
use mathlib.Core.Path.{refl}
use Rattle.walks.proofs.Told.{Found, none_found, found_by, found_most, tells, told_walk}
use Rattle.walks.proofs.answer_told.Goals as goal
use Rattle.walks.proofs.answer_told.Goals.{Joined-from, then-from, else-from}

found : (k : Joined-from) (start : ℕ → ℕ) → let a = k.args in Found 0 start a.from a.lead k.if-from.met
found k start =
    let a = k.args in
    elim k.if-from.branch [
      | then-from w ↦ found_by 0 start a.from a.lead k.if-from.met w.if-from.true (inl (refl, w.met-is))
      | else-from w ↦ none_found 0 start a.from a.lead k.if-from.met w.if-from.false w.met-is
    ]

pub yes_for-requires : goal.yes_for-requires
yes_for-requires c =
    let a = c.args in
    let most = found_most 0 (λ i. 0) a.from a.lead c.if-from.met (found (goal.at.yes_for-requires c).Joined-from (λ i. 0)) in
    omega arith

pub returns : goal.returns
returns c =
    record {
      walk = λ high n left right start next.
          rw c.yes_for.ensures (told_walk (tells 0 c.args.lead c.args.from c.requires.0) (omega arith) (found (goal.at.returns c).Joined-from start));
      count_value = refl;
    }
