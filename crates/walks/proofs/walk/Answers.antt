-- `walks::walk` meets its contract. The loop's invariant is its promise, by the laws of proofs/Single. Assumes nothing.
use native.Mathlib.Omega.{arith}
use mathlib.Core.Path.{◌≡◌, sym, ◌∙◌}
use borrow.Author.Tests.{lt-ltb}
use Rattle.trace.specs.Format.{time_at}
use Rattle.walks.specs.Settle.{next_of}
use Rattle.walks.proofs.Single.{known_behind, walks_known, walks_unknown}
use Rattle.walks.proofs.walk.Goals as goal

pub loop-count-init : goal.loop-count-init
loop-count-init c = (
  omega arith,
  record { few = omega arith; most = omega arith; behind = omega arith; bound = λ h. h },
  λ high φ ψ L g at clamp behind falls reads left right begun. begun,
)

pub look-requires : goal.look-requires
look-requires c = (omega arith, omega arith, λ h. omega arith)

pub loop-count-preserved-in-Some : goal.loop-count-preserved-in-Some
loop-count-preserved-in-Some c =
    let l = c.loop-count in
    let a = c.args in
    let w = l.invariant.1 in
    let start = time_at a.starts.now in
    let next = next_of (time_at a.ahead.now) a.n a.after in
    let e = sym c.look.ensures ∙ c.in-Some.is in
    let some = known_behind a.low a.high start next a.lead l.count l.took l.last c.in-Some.holds e in (
      c.push-bits.ensures.1,
      record {
        few = omega arith;
        most = w.most;
        behind = omega arith;
        bound = w.bound;
      },
      rw c.push-bits.ensures.0
          (walks_known a.low a.high start next a.lead a.n a.left a.right a.from l.bits l.count l.took l.last
          (omega arith)
          w.most
          c.in-Some.holds
          e
          l.invariant.0
          l.invariant.2),
    )

pub loop-count-preserved : goal.loop-count-preserved
loop-count-preserved c =
    let l = c.loop-count in
    let a = c.args in
    let w = l.invariant.1 in
    let start = time_at a.starts.now in
    let next = next_of (time_at a.ahead.now) a.n a.after in
    let t = c.take-last.ensures in
    let here : next l.took ≡ time_at a.ahead.now l.took = simp (lt-ltb l.took a.n (omega arith)) in (
      l.invariant.0,
      record { few = w.few; most = omega arith; behind = omega arith; bound = λ h. t.1 },
      rw (t.0, ← here)
          (walks_unknown a.low a.high start next a.lead a.n a.left a.right a.from l.bits l.count l.took l.last
          (omega arith)
          w.most
          (sym c.look.ensures ∙ c.in-None.is)
          (omega arith)
          l.invariant.2),
    )

pub returns-after-loop-count : goal.returns-after-loop-count
returns-after-loop-count c = let l = c.loop-count in record { limits = l.invariant.1; waiting = λ h t. absurd (omega arith); walks = l.invariant.2 }

pub returns-then-took-n : goal.returns-then-took-n
returns-then-took-n c =
    let l = c.loop-count in
    record {
      limits = l.invariant.1;
      waiting = λ h t. record { all = c.if-took-n.true; unknown = sym c.look.ensures ∙ c.in-None.is };
      walks = l.invariant.2;
    }
