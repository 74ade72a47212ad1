-- `Rule::add_up` meets its contract. The loop's invariant: the sums are those over the entries passed, and the words have a bound that fits.
use Prim.Native.Nat.{zero-le}
use native.Mathlib.Omega.{arith}
use mathlib.Core.Path.{sym, ap, ◌∙◌, refl}
use Rattle.mtl.specs.Satisfaction.{any}
use Rattle.rule.specs.declared.measuring.Totals.{Totals}
use Rattle.rule.specs.Entries.{entry}
use Rattle.rule.specs.Code.{with_entry}
use Rattle.rule.specs.Words.{offset}
use Rattle.rule.proofs.Laws.{totals_more}
use Rattle.rule.proofs.decoding.Rule.add_up.Goals as goal

pub loop-k-init : goal.loop-k-init
unfolding any offset
loop-k-init c = (refl, zero-le)

pub with-sums-requires : goal.with-sums-requires
with-sums-requires c = let few = c.args.self.now.few in omega (arith, c.loop-k.invariant.1)

pub loop-k-preserved : goal.loop-k-preserved
loop-k-preserved c =
    let i = c.loop-k in
    let t = c.args.self.now.entries in
    (c.with-sums.ensures.0 ∙ ap (λ (s : Totals). with_entry s (entry t i.k)) i.invariant.0 ∙ sym (totals_more t i.k), omega (arith, c.with-sums.ensures.1))
