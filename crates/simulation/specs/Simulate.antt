-- What `simulate` promises: the log that it writes, the numbers that it gives, and refusal 26.
use Rattle.std.specs.Prelude.{ℕ, suc, Bool, true, false, cond, ◌||◌, List, ◌++◌, ◌≡◌, ltb, eqb, length, drop, Result, Ok, Err}
use Rattle.refusal.specs.declared.Refusal.{Refusal}
use Rattle.refusal.specs.Number.{number_of}
use Rattle.bits.specs.Packed.{number}
use Rattle.trace.specs.Making.{log_length, log_bytes}
use Rattle.simulation.specs.Kiosk.{is_printing, events_of, kiosk_after}
use Rattle.simulation.specs.declared.Settings.{Settings}
use Rattle.simulation.specs.declared.Simulated.{Simulated}

-- x lies outside low to high
abbrev pub outside : (low high x : ℕ) → Bool
outside low high x = ltb x low || ltb high x

-- "warm-up and print time 1 to 600, idle switch-off and mean gap 1 to 3,600"
abbrev pub wrong_settings : Settings → Bool
wrong_settings s =
    outside 1 600 s.warmup
    || (outside 1 600 s.print || (outside 1 3600 s.switchoff || outside 1 3600 s.gap))

-- "26 when a setting, the seconds or the seed is outside its range or the lent log buffer is short": "0 to 3,600 seconds"; "a
-- non-zero 32-bit seed"
abbrev pub out_of_range : Settings → (seconds seed room : ℕ) → Bool
out_of_range s seconds seed room =
    wrong_settings s || (ltb 3600 seconds || (eqb seed 0 || ltb room (log_length seconds)))

-- "from time 0": the time of the record of second t
abbrev pub time_of : ℕ → ℕ
time_of t = t

-- the event set of second t
abbrev pub events_in : Settings → (seed t : ℕ) → ℕ
events_in s seed t = events_of (kiosk_after s seed (suc t))

-- "Simulate 0 to 3,600 seconds, one version 1 record each, from time 0": the log of n seconds
abbrev pub simulated_log : Settings → (seed n : ℕ) → List ℕ
simulated_log s seed n = log_bytes time_of (events_in s seed) n

-- the paper's number and values for each case; `refused` tells the cases apart
pub record Answer : Type 0 where
  pub refused : Bool
  pub number : ℕ
  pub written : ℕ
  pub finished : ℕ
  pub printing : ℕ
  pub waiting : ℕ

abbrev pub answer : Result Simulated Refusal → Answer
answer (Err refusal) = record { refused = true; number = number_of refusal; written = 0; finished = 0; printing = 0; waiting = 0 }
answer (Ok given) = record {
  refused = false;
  number = 0;
  written = given.written;
  finished = given.finished;
  printing = given.printing;
  waiting = given.waiting;
}

-- "The call gives the numbers finished, printing and waiting", "its length too"
abbrev pub simulation_answer : Settings → (seconds seed : ℕ) → Answer
simulation_answer s seconds seed =
    let k = kiosk_after s seed seconds in
    record {
      refused = false;
      number = 0;
      written = log_length seconds;
      finished = k.finished;
      printing = number (is_printing k.head);
      waiting = k.waiting;
    }

-- what the call answers
abbrev pub simulated : Settings → (seconds seed room : ℕ) → Answer
simulated s seconds seed room =
    cond (out_of_range s seconds seed room)
    (record { refused = true; number = 26; written = 0; finished = 0; printing = 0; waiting = 0 })
    (simulation_answer s seconds seed)

-- the lent buffer afterwards: the log, and what stood behind it; a refused call keeps every byte
abbrev pub log_after : Settings → (seconds seed : ℕ) → List ℕ → List ℕ
log_after s seconds seed log =
    cond (out_of_range s seconds seed (length log)) log (simulated_log s seed seconds ++ drop (log_length seconds) log)

-- what the call promises
pub record Simulates (s : Settings) (seconds seed : ℕ) (log : List ℕ) (r : Result Simulated Refusal) (log' : List ℕ) : Type 0 where
  pub outcome : answer r ≡ simulated s seconds seed (length log)
  pub bytes : log' ≡ log_after s seconds seed log
