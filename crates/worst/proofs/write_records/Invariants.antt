-- The invariant of `worst::write_records`: the first i records are written, and all else is as lent.
use mathlib.Core.Path.{◌≡◌}
use Rattle.trace.specs.Making.{records_bytes, put}
use Rattle.worst.specs.Written.{worst_time, worst_events}
use Rattle.worst.proofs.write_records.Given as goal

abbrev pub invariant-loop-i : goal.invariant-loop-i
invariant-loop-i l = l.log ≡ put l.initial.log 8 (records_bytes (worst_time l.high) worst_events l.i)
