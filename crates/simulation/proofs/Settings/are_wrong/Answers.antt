-- `simulation::Settings::are_wrong` meets its contract: a number that no range contains lies outside it. Assumes nothing.
use Prim.Native.Nat.{ℕ}
use mathlib.Core.Bool.{Bool, false, cond, not, ◌&&◌}
use mathlib.Core.Path.{◌≡◌, ap, ◌∙◌}
use Rattle.std.proofs.Common.{arith}
use Rattle.std.proofs.Math.Bool.{or_assoc}
use Rattle.std.proofs.lemmas.Bool.Decides.{nat_tests}
use Rattle.std.specs.Ordering.{partial_le, partial_lt}
use Rattle.std.specs.contracts.prelude.U32PartialOrd.TheImpl.{partial_cmp-value}
use Rattle.simulation.specs.Simulate.{outside}
use Rattle.simulation.proofs.Settings.are_wrong.Goals as goal

not_contained : (low high x a b : ℕ) (spent : Bool) → a ≡ low → b ≡ high → spent ≡ false →
    not (partial_le partial_cmp-value.it a x && cond spent (partial_lt partial_cmp-value.it x b) (partial_le partial_cmp-value.it x b)) ≡ outside low high x
not_contained low high x a b spent e f g = rw (e, f, g) (grind (arith, nat_tests))

pub returns : goal.returns
returns c =
    let s = c.args.self in
    let warmup = ap not c.contains.ensures.value ∙ not_contained 1 600 s.warmup _ _ _ c.new.ensures.start c.new.ensures.end c.new.ensures.exhausted in
    let print = ap not c.contains-2.ensures.value ∙ not_contained 1 600 s.print _ _ _ c.new-2.ensures.start c.new-2.ensures.end c.new-2.ensures.exhausted in
    let switchoff = ap not c.contains-3.ensures.value ∙ not_contained 1 3600 s.switchoff _ _ _ c.new-3.ensures.start c.new-3.ensures.end c.new-3.ensures.exhausted in
    let gap = ap not c.contains-4.ensures.value ∙ not_contained 1 3600 s.gap _ _ _ c.new-4.ensures.start c.new-4.ensures.end c.new-4.ensures.exhausted in
    rw (warmup, print, switchoff, gap) (simp or_assoc)
