-- What refusal 26 and its absence make of a call. Assumes nothing.
use Prim.Native.Nat.{ℕ, ◌+◌, ◌*◌, ◌≤◌, ◌<◌}
use mathlib.Core.Bool.{Bool, true, false, cond, ◌||◌, true≢false}
use mathlib.Core.List.{List}
use mathlib.Core.Path.{◌≡◌, ap, ◌∙◌}
use native.Mathlib.Omega.{arith}
use native.Mathlib.Nat.{pos_of_ne-zero}
use lib.Dec.{ltb, eqb}
use lib.ListN.{length}
use borrow.Author.Tests.{ltb-false, eqb-false}
use Rattle.std.specs.Prelude.{Ok, Err}
use Rattle.refusal.specs.declared.Refusal.{Refusal}
use Rattle.refusal.specs.Number.{number_of}
use Rattle.bits.specs.Packed.{number}
use Rattle.trace.specs.Making.{log_header, records_bytes, put, log_length}
use Rattle.trace.proofs.Laws.{neither}
use Rattle.trace.proofs.Making.{put_log}
use Rattle.simulation.specs.Kiosk.{is_printing, kiosk_after}
use Rattle.simulation.specs.Simulate.{outside, wrong_settings, out_of_range, time_of, events_in, simulation_answer, answer, Answer, simulated, Simulates}
use Rattle.simulation.specs.declared.Settings.{Settings}
use Rattle.simulation.specs.declared.kiosk.Kiosk.{Kiosk}

-- what every run relies on
pub record InRange (s : Settings) (seconds seed room : ℕ) : Type 0 where
  pub gap : 0 < s.gap
  pub few : seconds ≤ 3600
  pub seeded : 0 < seed
  pub fits : log_length seconds ≤ room

pub in_range : (s : Settings) (seconds seed room : ℕ) → out_of_range s seconds seed room ≡ false → InRange s seconds seed room
in_range s seconds seed room e =
    let all = (neither (wrong_settings s) (ltb 3600 seconds || (eqb seed 0 || ltb room (log_length seconds)))).0 e in
    let warm_up = (neither (outside 1 600 s.warmup) (outside 1 600 s.print || (outside 1 3600 s.switchoff || outside 1 3600 s.gap))).0 all.0 in
    let print = (neither (outside 1 600 s.print) (outside 1 3600 s.switchoff || outside 1 3600 s.gap)).0 warm_up.1 in
    let switch_off = (neither (outside 1 3600 s.switchoff) (outside 1 3600 s.gap)).0 print.1 in
    let gap = (neither (ltb s.gap 1) (ltb 3600 s.gap)).0 switch_off.1 in
    let seconds_and = (neither (ltb 3600 seconds) (eqb seed 0 || ltb room (log_length seconds))).0 all.1 in
    let seed_and = (neither (eqb seed 0) (ltb room (log_length seconds))).0 seconds_and.1 in
    let not_zero = eqb-false seed 0 seed_and.0 in
    record {
      gap = omega (arith, ltb-false s.gap 1 gap.0);
      few = ltb-false 3600 seconds seconds_and.0;
      seeded = pos_of_ne-zero not_zero;
      fits = ltb-false room (log_length seconds) seed_and.1;
    }

-- the one number with which a call can be refused
pub refused_with : (s : Settings) (seconds seed room : ℕ) (refusal : Refusal) → answer (Err refusal) ≡ simulated s seconds seed room → number_of refusal ≡ 26
refused_with s seconds seed room refusal e = by (out_of_range s seconds seed room) e
  where
    by : (b : Bool) → answer (Err refusal) ≡ cond b (record { refused = true; number = 26; written = 0; finished = 0; printing = 0; waiting = 0 }) (simulation_answer s seconds seed) → number_of refusal ≡ 26
    by true e = ap (λ (a : Answer). a.number) e
    by false e = absurd (true≢false (ap (λ (a : Answer). a.refused) e))

module _ (s : Settings) (seconds seed : ℕ) (log : List ℕ) where
  pub refuses : out_of_range s seconds seed (length log) ≡ true → Simulates s seconds seed log (Err Refusal.Settings) log
  refuses e = record { outcome = rw e; bytes = rw e }

  pub accepts : (k : Kiosk) (log' : List ℕ) (printing : ℕ) → out_of_range s seconds seed (length log) ≡ false → k ≡ kiosk_after s seed seconds →
      printing ≡ number (is_printing k.head) → log' ≡ put (put log 0 (log_header 1)) 8 (records_bytes time_of (events_in s seed) seconds) →
      Simulates s seconds seed log (Ok (record { written = 8 + seconds * 8; finished = k.finished; printing = printing; waiting = k.waiting })) log'
  accepts k log' printing e is prints bytes =
      let fine = in_range s seconds seed (length log) e in
      record {
        outcome = rw (e, prints, is);
        bytes = bytes ∙ put_log time_of (events_in s seed) log seconds fine.fits ∙ rw e;
      }
