-- Of a formula without next and without an until that has no upper end, a position is answered once the last record lies
-- more than the reach after it.
use Prim.Native.Nat.{ℕ, ◌+◌, ◌-◌, ◌<◌, max}
use mathlib.Core.Bool.{Bool, true, false, ◌&&◌, ◌||◌, true≢false}
use mathlib.Core.Bool.{not as negate}
use mathlib.Core.Logic.{⊎_elim, inr}
use mathlib.Core.Path.{◌≡◌, refl}
use native.Mathlib.Omega.{arith}
use lib.Dec.{eqb}
use borrow.Author.Tests.{eq-eqb}
use Rattle.mtl.specs.Formula.{Formula, unbounded, has_next, untils_end, reach}
use Rattle.mtl.specs.Formula.Formula.{letter, not, or, previous, next, since, until}
use Rattle.mtl.specs.Log.{Log, NeverFalls}
use Rattle.mtl.specs.Satisfaction.{sat}
use Rattle.mtl.specs.Progress.{progress}
use Rattle.mtl.proofs.Bounded.{and_iff, not_iff, le_or_lt}
use Rattle.mtl.proofs.Until.{answered_operands, Ended, ended_settled, until_settled_iff, until_answered}

neither : (a b : Bool) → a || b ≡ false → (a ≡ false) × (b ≡ false)
neither true b e = absurd (true≢false e)
neither false b e = (refl, e)

-- until: it is over at m, if some operand is not answered there, the last record then lying within the operands' reach of
-- it, or else at the last record
until_reach : (low high : ℕ) (φ ψ : Formula) (L : Log) → (high ≡ unbounded → ⊥) → NeverFalls L → let m = answered_operands φ ψ L in
    (m < L.size → L.time m + max (reach φ) (reach ψ) < L.time (L.size - 1) → ⊥) →
    (i : ℕ) → i < m → i < L.size → L.time i + (high + max (reach φ) (reach ψ)) < L.time (L.size - 1) → i < progress (until low high φ ψ) L
until_reach low high φ ψ L ends falls near i h b far =
    (until_answered low high φ ψ L falls i).1
    (h, (until_settled_iff low high φ ψ L i).0 (ended_settled low high L.time (sat φ L) (sat ψ L) L.size (answered_operands φ ψ L) i ended))
  where
    ended : Ended low high L.time (sat φ L) (sat ψ L) L.size (answered_operands φ ψ L) i
    ended =
        ⊎_elim
        (λ g. inr (L.size - 1, omega arith, omega arith, omega arith, (omega arith, ends)))
        (λ g. let n = near g in inr (answered_operands φ ψ L, omega arith, omega arith, g, (omega arith, ends)))
        (le_or_lt L.size (answered_operands φ ψ L))

-- THEOREM. "For rules without next, position i is answered whenever the last record lies more than the reach after i." A rule
-- that is not refused has an upper end at every until.

pub reach_answered : (φ : Formula) (L : Log) → has_next φ ≡ false → untils_end φ ≡ true → NeverFalls L →
    (i : ℕ) → i < L.size → L.time i + reach φ < L.time (L.size - 1) → i < progress φ L
unfolding has_next untils_end reach progress
reach_answered (letter k) L free ends falls i b far = b
reach_answered (not φ) L free ends falls i b far = reach_answered φ L free ends falls i b far
reach_answered (or φ ψ) L free ends falls i b far =
    let (f, g) = neither (has_next φ) (has_next ψ) free in
    let (e, d) = (and_iff (untils_end φ) (untils_end ψ)).0 ends in
    let p = reach_answered φ L f e falls i b (omega arith) in
    let q = reach_answered ψ L g d falls i b (omega arith) in
    omega arith
reach_answered (previous low high φ) L free ends falls i b far = let p = reach_answered φ L free ends falls i b far in omega arith
reach_answered (next low high φ) L free ends falls i b far = absurd (true≢false free)
reach_answered (since low high φ ψ) L free ends falls i b far =
    let (f, g) = neither (has_next φ) (has_next ψ) free in
    let (e, d) = (and_iff (untils_end φ) (untils_end ψ)).0 ends in
    let p = reach_answered φ L f e falls i b (omega arith) in
    let q = reach_answered ψ L g d falls i b (omega arith) in
    omega arith
reach_answered (until low high φ ψ) L free ends falls i b far =
    let (f, g) = neither (has_next φ) (has_next ψ) free in
    let (finite, both) = (and_iff (negate (eqb high unbounded)) (untils_end φ && untils_end ψ)).0 ends in
    let (e, d) = (and_iff (untils_end φ) (untils_end ψ)).0 both in
    let p = reach_answered φ L f e falls i b (omega arith) in
    let q = reach_answered ψ L g d falls i b (omega arith) in
    let m = answered_operands φ ψ L in
    until_reach low high φ ψ L (λ u. (not_iff (eqb high unbounded)).0 finite (eq-eqb high unbounded u)) falls
    (λ h v.
    let p' = reach_answered φ L f e falls m h (omega arith) in
    let q' = reach_answered ψ L g d falls m h (omega arith) in
    omega arith)
    i (omega arith) b far
