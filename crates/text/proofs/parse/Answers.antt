-- `text::parse` meets its contract: each way out is one of the refusals, in their order, or the rule that is written.
use native.Mathlib.Omega.{arith}
use Prim.Native.Nat.{ℕ, ◌+◌, ◌*◌}
use mathlib.Core.Path.{◌≡◌, refl, sym, ap, ◌∙◌}
use mathlib.Core.List.{List, ◌++◌}
use lib.ListN.{drop}
use Rattle.std.specs.Prelude.{None, Some}
use Rattle.std.proofs.lemmas.Result.{err_from_is_err_and}
use Rattle.refusal.specs.declared.Refusal.TheVariants.{NotDerived}
use Rattle.text.proofs.Outcome.{too_long, strange, faulty, unfinished, Whole, whole, too_many, stopped, no_room, wrote}
use Rattle.text.proofs.parse.Goals as goal
use Rattle.text.proofs.parse.Goals.{Else-is_some}

known : (d : Else-is_some) → Whole d.args.text.now d.ors.new.out
known d =
    let e : d.ors.result ≡ Some d.in_ok-behind.behind = grind arith in
    whole d.args.text.now d.new-out.result d.ors.new.out d.ors.result d.in_ok-behind.behind d.token_at.result d.if-text-gt-LONGEST.false
    (sym d.any_unknown.ensures ∙ d.if-any_unknown.false) d.new-out.ensures (d.ors.ensures None refl) e d.token_at.ensures
    (sym d.is_some.ensures ∙ d.if-is_some.false)

pub returns-then-text-gt-LONGEST : goal.returns-then-text-gt-LONGEST
returns-then-text-gt-LONGEST c = too_long _ _ c.if-text-gt-LONGEST.true

pub returns-then-any_unknown : goal.returns-then-any_unknown
returns-then-any_unknown c = strange _ _ (sym c.any_unknown.ensures ∙ c.if-any_unknown.true)

pub returns-in_err-behind : goal.returns-in_err-behind
returns-in_err-behind c =
    let p = err_from_is_err_and c.from_residual.result c.from_residual.ensures.1 in
    let e : c.ors.result ≡ None = grind arith in
    let n : c.in_err-behind.field-0.0 ≡ NotDerived = grind arith in
    let fault = rw e at (c.ors.ensures None refl) in
    rw (p.1, p.2, n) (faulty _ _ c.if-text-gt-LONGEST.false (sym c.any_unknown.ensures ∙ c.if-any_unknown.false) c.new-out.result c.ors.new.out fault)

pub returns-then-is_some : goal.returns-then-is_some
returns-then-is_some c =
    let e : c.ors.result ≡ Some c.in_ok-behind.behind = grind arith in
    let ok = rw e at (c.ors.ensures None refl) in
    unfinished _ _ c.if-text-gt-LONGEST.false (sym c.any_unknown.ensures ∙ c.if-any_unknown.false) _ _ _ ok
    c.token_at.result c.token_at.ensures (sym c.is_some.ensures ∙ c.if-is_some.true)

pub returns-then-out-gt-MOST : goal.returns-then-out-gt-MOST
returns-then-out-gt-MOST c = too_many _ _ _ (known (goal.at.returns-then-out-gt-MOST c).Else-is_some) c.if-out-gt-MOST.true

pub returns-in_err-measure : goal.returns-in_err-measure
returns-in_err-measure c =
    let p = err_from_is_err_and c.from_residual-in_err-measure.result c.from_residual-in_err-measure.ensures.1 in
    rw (p.1, p.2)
    (stopped _ c.args.rule.now c.ors.new.out (known (goal.at.returns-in_err-measure c).Else-is_some) c.if-out-gt-MOST.false _ c.in_err-measure.ensures)

pub returns-then-rule-size : goal.returns-then-rule-size
returns-then-rule-size c =
    no_room _ _ c.ors.new.out (known (goal.at.returns-then-rule-size c).Else-is_some) c.if-out-gt-MOST.false _ c.in_ok-measure.ensures c.if-rule-size.true

pub returns : goal.returns
returns c =
    let size : ℕ = 8 + c.ors.new.out.count * 10 in
    wrote _ _ c.ors.new.out (known (goal.at.returns c).Else-is_some) c.if-out-gt-MOST.false _ c.in_ok-measure.ensures c.if-rule-size.false _
    (ap (λ (s : List ℕ). s ++ drop size c.args.rule.now) c.copy_from_slice.ensures.after)
