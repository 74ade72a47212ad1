-- `copy_answers` meets its contract. The invariant: the words of the first k formulas stand in their places.
use Prim.Native.Nat.{◌≤◌, ◌<◌}
use mathlib.Core.Path.{◌≡◌, ◌∙◌}
use mathlib.Core.Logic.{⊎_elim}
use native.Mathlib.Omega.{arith}
use lib.ListN.{length-set}
use lib.Seq.{get_or-set_same, get_or-set_other}
use Rattle.mtl.proofs.Bounded.{le_or_lt}
use Rattle.held.proofs.copy_answers.Goals as goal

pub loop-k-init : goal.loop-k-init
loop-k-init c =
    let first = length-set c.args.answers.now 0 _ in
    (first ∙ c.requires.1, λ j h. absurd (omega arith), λ e. get_or-set_same c.args.answers.now 0 _ 0 (omega (arith, c.requires.1)))

pub loop-k-preserved : goal.loop-k-preserved
loop-k-preserved c =
    let l = c.loop-k in
    let few = c.requires.0 in (
      length-set l.answers l.k _ ∙ l.invariant.0,
      λ j h.
          ⊎_elim
          (λ (late : l.k ≤ j).
          let same : j ≡ l.k = omega arith in
          rw same (get_or-set_same l.answers l.k _ 0 (omega (arith, l.invariant.0))))
          (λ (early : j < l.k). get_or-set_other l.answers l.k j _ 0 (λ e. omega arith) ∙ l.invariant.1 j early)
          (le_or_lt l.k j),
      λ e. absurd (omega arith),
    )

pub returns : goal.returns
returns c =
    let l = c.loop-k in
    record { long = l.invariant.0; each = λ k h. l.invariant.1 k (omega arith); none = λ e. l.invariant.2 (omega arith) }
