-- `explain::reason_of` meets its contract.
use mathlib.Core.Path.{refl}
use native.Mathlib.Omega.{arith}
use Rattle.trace.specs.Format.{record_count}
use Rattle.trace.specs.Log.{log_of}
use Rattle.trace.proofs.Positions.{before_few}
use Rattle.window.proofs.Marks.{made_views}
use Rattle.engine.specs.Table.{no_row}
use Rattle.engine.proofs.Rows.{repeated}
use Rattle.explain.proofs.Calling.{prepared, represented}
use Rattle.explain.proofs.reason_of.Goals as goal

pub lay_out-requires : goal.lay_out-requires
lay_out-requires c = (c.requires.0, refl, λ k. repeated 128 k no_row)

pub write_reason-requires : goal.write_reason-requires
write_reason-requires c =
    let a = c.args in
    let p = c.requires in
    let (fs, ended) = p.3 in
    let few = p.1 in
    let laid = c.lay_out in
    let view = c.of-view in
    let s = a.records.now in (
      prepared a.rule.now.entries a.rule.now.count a.ends.now.at a.ends.now.number fs ended a.rule.now.few laid.new.table (record { well_formed = p.0; laid = laid.ensures })
          view.result s _ (omega arith) (made_views view.ensures (omega arith)) few,
      p.2,
      omega (arith, view.ensures.total, before_few a.skips s (record_count s)),
    )

pub returns : goal.returns
returns c =
    let a = c.args in
    let p = c.requires in
    let laid = c.lay_out in
    let view = c.of-view in
    let r = c.write_reason in (
      r.ensures.0,
      λ fs ended steady.
          r.ensures.1 fs (log_of a.skips a.records.now)
          (represented a.rule.now.entries a.rule.now.count a.ends.now.at a.ends.now.number fs ended a.rule.now.few laid.new.table (record { well_formed = p.0; laid = laid.ensures }) a.skips
          a.records.now view.result view.ensures steady),
    )
