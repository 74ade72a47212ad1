-- `worst::write_records` meets its contract.
use native.Mathlib.Omega.{arith}
use mathlib.Core.Path.{◌≡◌, ◌∙◌}
use Rattle.trace.specs.Making.{records_bytes}
use Rattle.trace.proofs.Making.{put_nothing, put_record}
use Rattle.worst.specs.Written.{worst_time, worst_events}
use Rattle.worst.proofs.write_records.Goals as goal

pub loop-i-init : goal.loop-i-init
unfolding records_bytes
loop-i-init c = put_nothing c.args.log.now 8 (omega arith)

pub loop-i-preserved : goal.loop-i-preserved
loop-i-preserved c =
    let a = c.args in
    let i = c.loop-i.i in
    let time : c.min.result ≡ worst_time a.high i = omega arith in
    rw time at c.write_record.ensures ∙ rw c.loop-i.invariant (put_record (worst_time a.high) worst_events a.log.now i (omega arith))

pub returns : goal.returns
returns c =
    let last : c.loop-i.i ≡ c.args.n = omega arith in
    rw last at c.loop-i.invariant
