-- `Rule::has_previous` meets its contract. The loop's invariant: what was found is found among the entries passed.
use Prim.Native.Nat.{ℕ}
use native.Mathlib.Numerals.{add-one}
use mathlib.Core.Bool.{Bool, ◌||◌}
use mathlib.Core.Path.{refl, sym, ap, ◌∙◌}
use Rattle.mtl.specs.Satisfaction.{any}
use Rattle.rule.specs.Code.{is_previous}
use Rattle.rule.proofs.decoding.Rule.has_previous.Goals as goal

pub loop-k-init : goal.loop-k-init
unfolding any
loop-k-init c = refl

pub loop-k-preserved : goal.loop-k-preserved
unfolding any
loop-k-preserved c =
    let l = c.loop-k in
    let t = c.args.self.now.entries in
    ap (λ (b : Bool). b || is_previous t l.k) l.invariant ∙ sym (ap (λ (m : ℕ). any m (is_previous t)) (add-one l.k))
