-- The invariants of `simulation::run`.
use mathlib.Core.Path.{◌≡◌}
use Rattle.trace.specs.Making.{records_bytes, put}
use Rattle.simulation.specs.Kiosk.{run_after, kiosk_after}
use Rattle.simulation.specs.Simulate.{time_of, events_in}
use Rattle.simulation.proofs.run.Given as goal

abbrev pub invariant-loop-t : goal.invariant-loop-t
invariant-loop-t l = record {
  state : l.generator.state ≡ (run_after l.s l.seed l.t).state;
  kiosk : l.kiosk ≡ kiosk_after l.s l.seed l.t;
  log : l.log ≡ put l.initial.log 8 (records_bytes time_of (events_in l.s l.seed) l.t);
}
