-- `simulation::run` meets its contract. The loop's invariant: generator, kiosk and log are those of the first t seconds.
-- Assumes nothing.
use Prim.Native.Nat.{◌+◌}
use native.Mathlib.Omega.{arith}
use mathlib.Core.Path.{◌≡◌, refl, ◌∙◌}
use Rattle.trace.specs.Making.{records_bytes}
use Rattle.trace.proofs.Making.{put_nothing}
use Rattle.simulation.specs.Kiosk.{run_after}
use Rattle.simulation.proofs.Running.{next_state, small, next_kiosk, next_log}
use Rattle.simulation.proofs.run.Goals as goal

pub loop-t-init : goal.loop-t-init
unfolding run_after records_bytes
loop-t-init c = record { state = refl; kiosk = c.start-kiosk.ensures; log = put_nothing c.args.log.now 8 (omega arith) }

pub second-kiosk-requires : goal.second-kiosk-requires
second-kiosk-requires c =
    let a = c.args in
    let l = c.loop-t in
    let few = small a.s a.seed l.t l.kiosk l.invariant.kiosk (omega arith) in
    (few.0, few.1, omega arith)

pub loop-t-preserved : goal.loop-t-preserved
loop-t-preserved c =
    let a = c.args in
    let l = c.loop-t in
    let d = c.draw in
    let k = c.second-kiosk in
    let state : d.result ≡ (run_after a.s a.seed (l.t + 1)).state = d.ensures.0 ∙ next_state a.s a.seed l.t l.generator.state l.invariant.state in
    let kiosk = k.ensures ∙ next_kiosk a.s a.seed l.t d.result l.kiosk state l.invariant.kiosk in
    record {
      state = d.ensures.1 ∙ state;
      kiosk = kiosk;
      log = c.write_record.ensures ∙
          next_log a.s a.seed l.t a.log.now l.log c.events.result k.result (omega arith) l.invariant.log kiosk c.events.ensures;
    }

pub returns : goal.returns
returns c =
    let l = c.loop-t in
    let last : l.t ≡ c.args.seconds = omega arith in
    record { value = rw last at l.invariant.kiosk; log_after = rw last at l.invariant.log }
