-- `walks::walk_told` meets its contract, by the laws of proofs/Told. Assumes nothing.
use Prim.Native.Nat.{◌≤◌, ◌<◌}
use native.Mathlib.Omega.{arith}
use mathlib.Core.Logic.{◌⊎◌, inl, inr, ⊎_elim}
use mathlib.Core.Path.{◌≡◌, ◌∙◌}
use Rattle.trace.specs.Format.{time_at}
use Rattle.walks.specs.Settle.{Met}
use Rattle.walks.proofs.Told.{Tells, tells, Found, none_found, found_by, found_most, told_walk}
use Rattle.walks.proofs.walk_told.Goals as goal
use Rattle.walks.proofs.walk_told.Goals.{Joined-low-eq0, Start, then-from, else-from, then-low-eq0, else-low-eq0}

settles : (b : Start) → Tells b.args.low b.args.lead b.args.from
settles b = tells b.args.low b.args.lead b.args.from b.requires.0

-- where right fails, no more than none is yes
found : (j : Joined-low-eq0) →
    let a = j.args in
    Found a.low (time_at a.starts.now) a.from j.min-count.result j.if-low-eq0.met
found j =
    let a = j.args in
    let at = time_at a.starts.now in
    let last = a.from in
    let count = j.min-count.result in
    let met = j.if-low-eq0.met in
    let counted : ((a.low ≡ 0) × (met ≡ j.if-from.most)) ⊎ ((0 < a.low) × Met a.low at last.time j.if-from.most met) =
    elim j.if-low-eq0.branch [
      | then-low-eq0 w ↦ inl (w.if-low-eq0.true, w.met-is)
      | else-low-eq0 w ↦ inr (omega arith, rw w.met-is w.count_met-met.ensures)
    ] in
    elim j.if-from.branch [
      | then-from w ↦ found_by a.low at last count met w.if-from.true (rw w.most-is at counted)
      | else-from w ↦
          none_found a.low at last count met w.if-from.false
          (⊎_elim (λ n. n.1 ∙ w.most-is) (λ m. let few = m.1.most in let none = w.most-is in omega arith) counted)
    ]

pub count_met-met-requires : goal.count_met-met-requires
count_met-met-requires c =
    let small = (settles (goal.at.count_met-met-requires c).Start).small in
    let most : c.if-from.most ≤ c.min-count.result = elim c.if-from.branch [ then-from w ↦ let e = w.most-is in omega arith | else-from w ↦ let e = w.most-is in omega arith ] in
    (omega arith, omega arith)

pub yes_for-requires : goal.yes_for-requires
yes_for-requires c =
    let a = c.args in
    let most = found_most a.low (time_at a.starts.now) a.from c.min-count.result c.if-low-eq0.met (found (goal.at.yes_for-requires c).Joined-low-eq0) in
    omega arith

pub returns : goal.returns
returns c high n left right next =
    rw c.yes_for.ensures (told_walk (settles (goal.at.returns c).Start) c.min-count.ensures (found (goal.at.returns c).Joined-low-eq0))
