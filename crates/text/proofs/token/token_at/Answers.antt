use mathlib.Core.Path.{sym, ◌∙◌}
use Rattle.text.proofs.Lexing.{lexed_sign}
use Rattle.text.proofs.token.token_at.Goals as goal

pub returns-else-is_run : goal.returns-else-is_run
returns-else-is_run c = lexed_sign _ _ _ _ c.skip-from.ensures c.if-from-text.false (sym c.is_run.ensures ∙ c.if-is_run.false) c.sign.ensures
