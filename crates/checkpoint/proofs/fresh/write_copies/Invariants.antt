-- The invariants of `checkpoint::fresh::write_copies`.
use mathlib.Core.Path.{◌≡◌}
use Rattle.checkpoint.specs.Fresh.{copies}
use Rattle.rule.specs.Words.{header_words}
use Rattle.checkpoint.proofs.Offsets.{Walk}
use Rattle.checkpoint.proofs.fresh.write_copies.Given as goal

abbrev pub invariant-loop-k : goal.invariant-loop-k
invariant-loop-k l = Walk (header_words l.rule.version) l.rule.entries l.rule.count l.at l.k × (l.words ≡ copies (header_words l.rule.version) l.rule.entries l.k l.initial.words)
