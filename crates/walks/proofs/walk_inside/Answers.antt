-- `walks::walk_inside` meets its contract, by the laws of proofs/Words. Assumes nothing.
use Prim.Native.Nat.{◌-◌, ◌≤◌}
use native.Mathlib.Omega.{arith}
use mathlib.Core.Logic.{inl, inr}
use mathlib.Core.Path.{refl, ◌∙◌}
use Rattle.trace.specs.Format.{time_at}
use Rattle.walks.specs.Settle.{next_of}
use Rattle.walks.proofs.Log.{takes_few}
use Rattle.walks.proofs.Words.{Known, known_is, settled_walk, taken_at, by_next}
use Rattle.walks.proofs.FirstRight.{soon_none, soon_some}
use Rattle.walks.proofs.walk_inside.Goals as goal
use Rattle.walks.proofs.walk_inside.Goals.{After-find_last_zero-known, After-taken_for-took}

known : (c : After-find_last_zero-known) → let a = c.args in Known a.left a.right a.n c.find_last_zero-known.result
known c =
    let a = c.args in
    known_is a.left a.right a.n (omega arith) (omega arith) c.find_last_zero-known.ensures

took : (c : After-taken_for-took) → (1 ≤ c.taken_for-took.result) × (c.taken_for-took.result ≤ c.args.n)
took c =
    let a = c.args in
    takes_few a.lead c.find_last_zero-known.result a.n c.taken_for-took.result (omega arith) (omega arith) c.find_last_zero-known.ensures.1 c.taken_for-took.ensures

pub returns-then-known-eq0 : goal.returns-then-known-eq0
returns-then-known-eq0 c =
    let a = c.args in record {
      by_index = λ high after start from by.
          let next = next_of (time_at a.ahead.now) a.n after in
          settled_walk (by_next after by) (omega arith) (λ rises. soon_none next (known (goal.at.returns-then-known-eq0 c).After-find_last_zero-known) start a.lead c.if-known-eq0.true) 0 a.n refl (λ h. refl, λ h. absurd (omega arith)) c.take.result
          (c.take.ensures.0 ∙ taken_at (time_at a.ahead.now) a.n after (a.n - 1) a.left a.right (omega arith))
          c.take.ensures.1;
      fact = inl refl;
    }

pub overflow_sub-took : goal.overflow_sub-took
overflow_sub-took c = (took (goal.at.overflow_sub-took c).After-taken_for-took).0

pub take-requires-2 : goal.take-requires-2
take-requires-2 c = omega (arith, took (goal.at.take-requires-2 c).After-taken_for-took)

pub returns : goal.returns
returns c =
    let a = c.args in
    let most = c.find_last_zero-known.ensures.1 in record {
      by_index = λ high after start from by.
          let next = next_of (time_at a.ahead.now) a.n after in
          settled_walk (by_next after by) (omega arith)
          (λ rises.
          soon_some next (known (goal.at.returns c).After-find_last_zero-known) start a.lead (omega arith) c.fill_down-own.ensures (λ i h. c.repeat-front.ensures.1 i h ∙ c.test.ensures) c.prolong.ensures)
          c.min.result c.taken_for-took.result c.min.ensures c.taken_for-took.ensures c.take-2.result
          (c.take-2.ensures.0 ∙ taken_at (time_at a.ahead.now) a.n after (c.taken_for-took.result - 1) a.left a.right (omega (arith, took (goal.at.returns c).After-taken_for-took)))
          c.take-2.ensures.1;
      fact = inr (omega (arith, c.min.ensures));
    }
