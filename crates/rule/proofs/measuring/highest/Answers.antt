-- `measuring::highest` meets its contract. The loop's invariant: the largest so far is that of the positions passed.
use Prim.Native.Nat.{ℕ, ◌+◌, max}
use mathlib.Core.Path.{refl, sym, ap, ◌∙◌}
use lib.ListN.{get_or}
use Rattle.rule.specs.Code.{greatest}
use Rattle.rule.proofs.Laws.{greatest_more}
use Rattle.rule.proofs.measuring.highest.Goals as goal

pub loop-at-init : goal.loop-at-init
unfolding greatest
loop-at-init c = refl

pub loop-at-preserved : goal.loop-at-preserved
loop-at-preserved c =
    let i = c.loop-at in
    c.max-most.ensures ∙ ap (λ (m : ℕ). max m (get_or c.args.stack.now (i.at + 1) 0)) i.invariant ∙ sym (greatest_more _ i.at)
