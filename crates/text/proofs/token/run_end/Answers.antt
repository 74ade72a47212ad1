use mathlib.Core.Path.{sym, ap, ◌∙◌}
use Rattle.text.specs.Tokens.{runs}
use Rattle.text.proofs.Lexing.{ran}
use Rattle.text.proofs.token.run_end.Goals as goal

pub returns : goal.returns
returns c = let l = c.loop-i in
    ran c.args.text.now c.args.at l.i l.invariant.0 l.invariant.1 l.invariant.2 (sym (c.is_run.ensures ∙ ap runs c.byte_at.ensures) ∙ c.loop-i-test.false)
