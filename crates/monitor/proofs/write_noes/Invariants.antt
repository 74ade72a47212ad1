-- The invariants of `monitor::write_noes`.
use mathlib.Core.List.{◌++◌}
use mathlib.Core.Path.{◌≡◌}
use lib.ListN.{length, drop}
use Rattle.checkpoint.specs.Checkpoint.{stored_noes}
use Rattle.monitor.specs.Summary.{counts_of, latest_words}
use Rattle.monitor.proofs.write_noes.Given as goal

abbrev pub invariant-loop-k : goal.invariant-loop-k
invariant-loop-k l = (length l.no ≡ length l.initial.no)
    × (length l.latest ≡ length l.initial.latest)
    × (l.no ≡ counts_of (stored_noes l.most l.point) l.k ++ drop l.k l.initial.no)
    × (l.latest ≡ latest_words (stored_noes l.most l.point) l.k ++ drop l.k l.initial.latest)
