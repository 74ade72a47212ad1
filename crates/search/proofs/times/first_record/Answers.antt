-- `search::times::first_record` meets its contract.
use Prim.Native.Nat.{ℕ, ◌≤◌, ◌<◌}
use mathlib.Core.Logic.{⊎_elim}
use mathlib.Core.Path.{◌≡◌, sym}
use native.Mathlib.Omega.{arith}
use lib.Dec.{leb}
use borrow.Author.Tests.{le-leb, lt-leb}
use Rattle.mtl.proofs.Bounded.{le_or_lt}
use Rattle.trace.specs.Format.{record_count, time_at}
use Rattle.search.proofs.Finding.{first_unique}
use Rattle.search.proofs.times.first_record.Goals as goal

pub loop-r-init : goal.loop-r-init
loop-r-init c = λ j h. absurd (omega arith)

pub returns-then-bound-time : goal.returns-then-bound-time
returns-then-bound-time c =
    let a = c.args in
    let l = c.loop-r in
    let t = c.time.ensures.0 in
    let n = c.count-end.ensures in (
      sym (first_unique (record_count a.records.now) (λ (j : ℕ). leb a.bound (time_at a.records.now j)) l.r (omega arith) l.invariant
          (λ h. le-leb a.bound (time_at a.records.now l.r) (omega arith))),
      omega arith,
    )

pub loop-r-preserved : goal.loop-r-preserved
loop-r-preserved c =
    let a = c.args in
    let l = c.loop-r in
    let t = c.time.ensures.0 in
    λ j h.
    ⊎_elim
    (λ (s : l.r ≤ j). let e : j ≡ l.r = omega arith in rw e (lt-leb a.bound (time_at a.records.now l.r) (omega arith)))
    (λ (s : j < l.r). l.invariant j s)
    (le_or_lt l.r j)

pub returns : goal.returns
returns c =
    let a = c.args in
    let l = c.loop-r in
    let n = c.count-end.ensures in (
      sym (first_unique (record_count a.records.now) (λ (j : ℕ). leb a.bound (time_at a.records.now j)) c.count-end.result (omega arith)
          (λ q h. l.invariant q (omega arith)) (λ h. absurd (omega arith))),
      omega arith,
    )
