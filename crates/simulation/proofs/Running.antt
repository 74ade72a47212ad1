-- One more second of a run: the generator's state, the kiosk and the log. Assumes nothing.
use Prim.Native.Nat.{ℕ, ◌+◌, ◌*◌, ◌≤◌, ◌<◌}
use mathlib.Core.List.{List}
use mathlib.Core.Path.{◌≡◌, ap, ◌∙◌}
use native.Mathlib.Numerals.{add-one}
use native.Mathlib.Omega.{arith}
use lib.ListN.{length}
use Rattle.trace.specs.Making.{record_bytes, records_bytes, put}
use Rattle.trace.proofs.Making.{put_record}
use Rattle.simulation.specs.Generator.{xorshift}
use Rattle.simulation.specs.Kiosk.{second_of, events_of, run_after, kiosk_after}
use Rattle.simulation.specs.Simulate.{time_of, events_in}
use Rattle.simulation.specs.declared.Settings.{Settings}
use Rattle.simulation.specs.declared.kiosk.Kiosk.{Kiosk}
use Rattle.simulation.proofs.Kept.{few_customers}

module _ (s : Settings) (seed t : ℕ) where
  -- no count of a run outgrows its seconds
  pub small : (k : Kiosk) → k ≡ kiosk_after s seed t → t < 3600 → (k.finished < 3600) × (k.waiting < 3600)
  small k e h = rw e (omega (arith, few_customers s seed t))

  pub next_state : (state : ℕ) → state ≡ (run_after s seed t).state → xorshift state ≡ (run_after s seed (t + 1)).state
  unfolding run_after
  next_state state e = rw (add-one, e)

  pub next_kiosk : (state : ℕ) (k : Kiosk) → state ≡ (run_after s seed (t + 1)).state → k ≡ kiosk_after s seed t → second_of s t state k ≡ kiosk_after s seed (t + 1)
  unfolding run_after
  next_kiosk state k f e = rw (f, e, add-one)

  pub next_log : (buffer log : List ℕ) (events : ℕ) (k : Kiosk) → 8 + t * 8 + 8 ≤ length buffer → log ≡ put buffer 8 (records_bytes time_of (events_in s seed) t) →
      k ≡ kiosk_after s seed (t + 1) → events ≡ events_of k →
      put log (8 + t * 8) (record_bytes t events) ≡ put buffer 8 (records_bytes time_of (events_in s seed) (t + 1))
  next_log buffer log events k room was kiosk told =
      let now : events ≡ events_in s seed t = told ∙ ap events_of (kiosk ∙ ap (kiosk_after s seed) (add-one t)) in
      rw (was, now) (put_record time_of (events_in s seed) buffer t room)
