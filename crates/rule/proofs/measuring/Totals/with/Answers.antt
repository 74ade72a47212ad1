-- `measuring::Totals::with` meets its contract: each field is what the callee for it ensures.
use native.Mathlib.Omega.{arith}
use Rattle.rule.proofs.measuring.Totals.with.Goals as goal

pub returns : goal.returns
returns c = (cc, omega arith)
