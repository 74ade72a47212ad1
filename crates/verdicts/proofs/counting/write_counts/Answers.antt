-- `counting::write_counts` meets its contract. The loop's invariant: the counts of the first k formulas are written.
use Prim.Native.Nat.{ℕ, ◌-◌}
use native.Mathlib.Omega.{arith}
use mathlib.Core.Bool.{Bool, true, false}
use mathlib.Core.List.{List}
use mathlib.Core.Path.{◌≡◌, refl, ap, ◌∙◌}
use lib.ListN.{length, length-set}
use Rattle.verdicts.specs.Counts.{count_of}
use Rattle.verdicts.proofs.Listed.{listed_none, listed_more}
use Rattle.verdicts.proofs.Tallies.{count_no_is}
use Rattle.verdicts.proofs.counting.write_counts.Goals as goal

-- formula k's count over the whole sheet
abbrev numbers : Bool → List ℕ → ℕ → ℕ
numbers x s k = count_of x k s (length s)

pub loop-k-init : goal.loop-k-init
loop-k-init c =
    let a = c.args in
    (refl, refl, listed_none (numbers false a.sheet.now) a.no.now, listed_none (numbers true a.sheet.now) a.yes.now)

pub loop-k-preserved : goal.loop-k-preserved
loop-k-preserved c =
    let a = c.args in
    let l = c.loop-k in
    let s = a.sheet.now in
    let count = c.count_yes-count.result in
    let is : count ≡ count_of true l.k s (length s) = c.count_yes-count.ensures.0 in
    let is_no : length s - count ≡ count_of false l.k s (length s) = ap (λ (n : ℕ). length s - n) is ∙ count_no_is l.k s (length s) in (
      simp length-set l.invariant.0,
      simp length-set l.invariant.1,
      listed_more (numbers false s) l.k (length s - count) a.no.now l.no (omega arith) is_no l.invariant.2,
      listed_more (numbers true s) l.k count a.yes.now l.yes (omega arith) is l.invariant.3,
    )
