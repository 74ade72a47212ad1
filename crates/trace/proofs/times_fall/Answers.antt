-- `trace::times_fall` meets its contract. The loop's invariant: the groups before are counted. Assumes nothing.
use Prim.Native.Nat.{ℕ, ◌+◌, ◌-◌, ◌*◌, ◌%◌}
use native.Mathlib.Omega.{arith}
use mathlib.Core.Path.{◌≡◌, sym, subst}
use Rattle.mtl.proofs.Bounded.{any_false_iff}
use Rattle.trace.specs.Format.{record_count}
use Rattle.trace.specs.Order.{falls_at, FallsBetween}
use Rattle.trace.proofs.Falling.{joined, all_between}
use Rattle.trace.proofs.times_fall.Goals as goal

pub returns-then-end-eq0 : goal.returns-then-end-eq0
returns-then-end-eq0 c =
    let s = c.args.records.now in
    sym ((any_false_iff (record_count s) (falls_at s)).1 (λ i h. absurd (omega arith)))

pub returns : goal.returns
returns c =
    let s = c.args.records.now in
    let l = c.loop-group in
    let n = c.count-end.result in
    let left = (n - 1) % 8 in
    let groups : 1 + l.group * 8 ≡ n - left = omega arith in
    let all : n - left + left ≡ record_count s = omega arith in
    all_between s (record_count s) (l.falls + c.count_falls.result)
    (joined s 1 (n - left) (record_count s) l.falls c.count_falls.result (omega arith) (omega arith) (rw groups at l.invariant) (subst (λ (e : ℕ). FallsBetween s (n - left) e c.count_falls.result) all c.count_falls.ensures))
