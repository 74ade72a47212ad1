-- `trim` meets its contract: a refusal has written nothing, and an accepted call has room for what it writes.
use mathlib.Core.Path.{sym, ap, ◌∙◌}
use native.Mathlib.Omega.{arith}
use lib.ListN.{length}
use Rattle.std.proofs.lemmas.Result.{err_from_is_err_and}
use Rattle.checks.proofs.Checks.{goes_on, room_to_trim}
use Rattle.checks.proofs.Sizes.{open_accepted}
use Rattle.monitor.proofs.Trimming.{trim_refused, trim_written}
use Rattle.monitor.proofs.trim.Goals as goal

pub returns-in_err-check_trimming : goal.returns-in_err-check_trimming
returns-in_err-check_trimming c =
    let a = c.args in
    let d = c.in_ok-admitted.ensures in
    let p = err_from_is_err_and c.from_residual-in_err-check_trimming.result c.from_residual-in_err-check_trimming.ensures.1 in
    rw (p.1, p.2)
    (trim_refused a.rule.now a.log.now a.point.now a.out.now c.in_err-check_trimming.field-0.0
    ((rw (d.version_is, d.entries_are, d.count_is) at c.in_err-check_trimming.ensures) ∙ sym (goes_on _ _ (open_accepted _ _ _ d))))

pub write_trimmed-length-requires : goal.write_trimmed-length-requires
write_trimmed-length-requires c =
    let a = c.args in
    let r = c.in_ok-admitted.admitted.rule in
    omega (
      arith,
      ap length c.records_from.ensures,
      room_to_trim r.version r.entries r.count (length a.out.now) a.log.now a.point.now (sym c.in_ok-check_trimming.ensures),
    )

pub returns : goal.returns
returns c =
    let a = c.args in
    let d = c.in_ok-admitted.ensures in
    let records = c.records_from in
    let w = c.write_trimmed-length in
    trim_written a.rule.now a.log.now a.point.now a.out.now
    (goes_on _ _ (open_accepted _ _ _ d) ∙ sym (rw (d.version_is, d.entries_are, d.count_is) at c.in_ok-check_trimming.ensures))
    records.result.now records.ensures w.result w.ensures.value _ w.ensures.log_after
