-- `Rule::depth` meets its contract: it is what reading the entries finds, or 0 where none is a previous.
use native.Mathlib.Omega.{arith}
use Rattle.std.specs.Prelude.{ℕ, Option, unwrap_or}
use mathlib.Core.Path.{sym, ap, ◌∙◌}
use Rattle.rule.specs.Postfix.{formulas}
use Rattle.rule.proofs.Depths.{flat}
use Rattle.rule.proofs.Run.{depth_of}
use Rattle.rule.proofs.decoding.Rule.depth.Goals as goal

pub returns-then-not-has_previous : goal.returns-then-not-has_previous
returns-then-not-has_previous c =
    let r = c.args.self.now in
    flat r.entries r.count (omega (arith, r.few)) (sym c.has_previous.ensures ∙ c.if-not-has_previous.true) r.version

pub returns : goal.returns
returns c =
    let r = c.args.self.now in
    c.unwrap_or.ensures ∙ ap (λ (o : Option ℕ). unwrap_or o 0) c.read.ensures ∙ depth_of (formulas r.version r.entries r.count)
