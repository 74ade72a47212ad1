-- "the arrivals counted from the log", and who of them is where.
use Rattle.std.specs.Prelude.{ℕ, zero, suc, ◌+◌, ◌≤◌, List, ◌≡◌}
use Rattle.bits.specs.Packed.{number}
use Rattle.trace.specs.Format.{has_letter, records_of}
use Rattle.simulation.specs.Kiosk.{is_printing, kiosk_after}
use Rattle.simulation.specs.Simulate.{simulated_log, simulation_answer}
use Rattle.simulation.specs.declared.Settings.{Settings}
use Rattle.simulation.specs.declared.kiosk.Kiosk.{Kiosk}

-- the records with letter 2 among the first n
unfoldable pub arrivals : (records : List ℕ) (n : ℕ) → ℕ
arrivals s zero = 0
arrivals s (suc n) = arrivals s n + number (has_letter s 2 n)

-- "the numbers finished, printing and waiting": their sum
abbrev pub customers : Kiosk → ℕ
customers k = k.finished + number (is_printing k.head) + k.waiting

-- What is proved of an accepted call (proofs/Theorem): "After every second the three sum to the arrivals counted from the log."
pub record NobodyLost (s : Settings) (seconds seed : ℕ) : Type 0 where
  pub every_second : (n : ℕ) → n ≤ seconds → customers (kiosk_after s seed n) ≡ arrivals (records_of (simulated_log s seed seconds)) n
  -- so do the numbers that the call gives
  pub given_sum : (simulation_answer s seconds seed).finished + (simulation_answer s seconds seed).printing + (simulation_answer s seconds seed).waiting ≡
      arrivals (records_of (simulated_log s seed seconds)) seconds
