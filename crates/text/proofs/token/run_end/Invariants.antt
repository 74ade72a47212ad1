-- The invariants of `text::token::run_end`.
use Prim.Native.Nat.{◌≤◌, ◌<◌, ◌-◌}
use mathlib.Core.Path.{◌≡◌}
use lib.ListN.{length, drop}
use Rattle.std.specs.List.{between}
use Rattle.text.specs.Tokens.{tokens, tokens_from}
use Rattle.text.proofs.token.run_end.Given as goal

abbrev pub invariant-loop-i : goal.invariant-loop-i
invariant-loop-i l = (l.at ≤ l.i) × (l.at < l.i → l.i ≤ length l.text) × (tokens_from (between l.at l.i l.text) (drop l.i l.text) ≡ tokens (drop l.at l.text))

abbrev pub decreases-loop-i : goal.decreases-loop-i
decreases-loop-i l = length l.text - l.i
