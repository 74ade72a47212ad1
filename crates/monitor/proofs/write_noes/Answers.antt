-- `write_noes` meets its contract. The loop's invariant: the counts and the latest positions of the first k formulas are written.
use Prim.Native.Nat.{ℕ}
use native.Mathlib.Omega.{arith}
use mathlib.Core.Option.{Option}
use mathlib.Core.Path.{◌≡◌, refl, ap, ◌∙◌}
use lib.ListN.{length-set}
use Rattle.checkpoint.specs.Checkpoint.{stored_noes}
use Rattle.std.specs.Prelude.{Some, None, unwrap_or}
use Rattle.std.specs.Prelude.{Option as Found}
use Rattle.monitor.specs.Summary.{position, position_or, no_position}
use Rattle.verdicts.proofs.Listed.{listed_none, listed_more}
use Rattle.monitor.proofs.write_noes.Goals as goal

same_position : (o : Found ℕ) → unwrap_or o no_position ≡ position_or (position o) no_position
same_position (Some i) = refl
same_position None = refl

pub loop-k-init : goal.loop-k-init
loop-k-init c =
    let a = c.args in
    let x = stored_noes a.most a.point.now in (
      refl,
      refl,
      listed_none (λ k. (x k).count) a.no.now,
      listed_none (λ k. position_or (x k).latest no_position) a.latest.now,
    )

pub loop-k-preserved : goal.loop-k-preserved
loop-k-preserved c =
    let a = c.args in
    let l = c.loop-k in
    let x = stored_noes a.most a.point.now in
    let is : c.unwrap_or.result ≡ position_or (x l.k).latest no_position =
    c.unwrap_or.ensures ∙ same_position c.latest_of.result ∙ ap (λ (o : Option ℕ). position_or o no_position) c.latest_of.ensures in (
      simp length-set l.invariant.0,
      simp length-set l.invariant.1,
      listed_more (λ k. (x k).count) l.k _ a.no.now l.no (omega arith) refl l.invariant.2,
      listed_more (λ k. position_or (x k).latest no_position) l.k c.unwrap_or.result a.latest.now l.latest (omega arith) is l.invariant.3,
    )

pub returns : goal.returns
returns c =
    let l = c.loop-k in
    let last : l.k ≡ c.args.formulas = omega arith in
    record { no_after = rw last at l.invariant.2; latest_after = rw last at l.invariant.3 }
