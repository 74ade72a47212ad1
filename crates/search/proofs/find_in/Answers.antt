-- `search::find_in` meets its contract.
use Prim.Native.Nat.{ℕ, ◌+◌, ◌≤◌, ◌<◌}
use mathlib.Core.Logic.{⊎_elim}
use mathlib.Core.Path.{◌≡◌, sym, ◌∙◌, ap}
use native.Mathlib.Omega.{arith}
use Rattle.mtl.proofs.Bounded.{le_or_lt}
use Rattle.search.specs.Scan.{sought_bit}
use Rattle.search.proofs.Finding.{first_unique}
use Rattle.search.proofs.find_in.Goals as goal

pub loop-i-init : goal.loop-i-init
loop-i-init c = λ j h. absurd (omega arith)

pub returns-then-hits : goal.returns-then-hits
returns-then-hits c =
    let a = c.args in
    let l = c.loop-i in
    let e = first_unique a.n (sought_bit a.bits a.done a.want a.from) l.i (omega arith) l.invariant
    (λ h. sym c.hits.ensures ∙ c.if-hits.true) in
    (ap (λ (x : ℕ). a.done + x) (sym e), omega arith)

pub loop-i-preserved : goal.loop-i-preserved
loop-i-preserved c =
    let l = c.loop-i in
    λ j h.
    ⊎_elim
    (λ (s : l.i ≤ j). let e : j ≡ l.i = omega arith in rw e (sym c.hits.ensures ∙ c.if-hits.false))
    (λ (s : j < l.i). l.invariant j s)
    (le_or_lt l.i j)

pub returns : goal.returns
returns c =
    let a = c.args in
    let l = c.loop-i in
    let e = first_unique a.n (sought_bit a.bits a.done a.want a.from) a.n (omega arith)
    (λ q h. l.invariant q (omega arith)) (λ h. absurd (omega arith)) in
    (ap (λ (x : ℕ). a.done + x) (sym e), omega arith)
