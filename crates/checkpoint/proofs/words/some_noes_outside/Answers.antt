-- `check::some_noes_outside` meets its contract. The loop's invariant: `outside` is the answer for the formulas passed.
use mathlib.Core.Path.{refl, sym}
use Rattle.mtl.specs.Satisfaction.{any}
use Rattle.checkpoint.specs.Checkpoint.{noes_outside}
use Rattle.checkpoint.proofs.Offsets.{any_more}
use Rattle.checkpoint.proofs.words.some_noes_outside.Goals as goal

pub loop-k-init : goal.loop-k-init
unfolding any
loop-k-init c = (refl, refl)

pub loop-k-preserved : goal.loop-k-preserved
loop-k-preserved c =
    let i = c.loop-k in
    let a = c.args in
    (refl, simp (i.invariant.1, c.noes_fit.ensures) (sym (any_more i.k (noes_outside a.most a.point.now))))
