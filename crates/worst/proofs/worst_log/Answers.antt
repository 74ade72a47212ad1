-- `worst::worst_log` meets its contract: header and records are the log's bytes.
use Prim.Native.Nat.{ℕ}
use mathlib.Core.List.{List}
use mathlib.Core.Path.{ap, ◌∙◌}
use lib.ListN.{length}
use Rattle.trace.specs.Making.{records_bytes, put}
use Rattle.worst.specs.Written.{worst_time, worst_events}
use Rattle.worst.proofs.Outcome.{accepted, writes_log}
use Rattle.worst.proofs.worst_log.Goals as goal

pub returns : goal.returns
returns c =
    let a = c.args in
    let k = c.in_ok-records.ensures in
    let all = accepted a.low a.high a.n (length a.log.now) k.1 in
    let records = records_bytes (worst_time a.high) worst_events c.in_ok-records.records in
    let bytes = c.write_records.ensures ∙ ap (λ (l : List ℕ). put l 8 records) c.write_header.ensures in
    rw k.0 (writes_log a.low a.high a.n a.log.now _ all (rw k.0 at bytes))
