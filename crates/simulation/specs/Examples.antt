-- Worked examples, proved by computation: draws, two runs in which everything happens that paper 12 lists, and refusal 26.
use Rattle.std.specs.Prelude.{ℕ, suc, Bool, cond, ◌&&◌, not, List, [], ◌∷◌, ◌≡◌, refl, eqb}
use Rattle.bits.specs.Packed.{number}
use Rattle.trace.specs.Making.{records_bytes}
use Rattle.simulation.specs.Generator.{xor, state_after}
use Rattle.simulation.specs.Kiosk.{is_printing, end_print, join, end_warming, switch_off, begin_print, begin_warming, second_of, events_of, run_after, kiosk_after}
use Rattle.simulation.specs.Simulate.{out_of_range, events_in, simulated_log}
use Rattle.simulation.specs.declared.Settings.{Settings}

-- a row whose test is false is named by its number, the first being n
unfoldable pub wrong : ℕ → List Bool → List ℕ
wrong n [] = []
wrong n (b ∷ bs) = cond b (wrong (suc n) bs) (n ∷ wrong (suc n) bs)

-- the first draws of the generator with the seed 1
unfoldable pub draws : (seed n : ℕ) → List ℕ → List Bool
draws seed n [] = []
draws seed n (d ∷ ds) = eqb (state_after seed n) d ∷ draws seed (suc n) ds

pub draws_compute : wrong 0 (draws 1 1 (270369 ∷ 67634689 ∷ 2647435461 ∷ 307599695 ∷ 2398689233 ∷ [])) ≡ []
unfolding wrong draws state_after xor
draws_compute = refl

-- a second: the event set of its record (letter 0 is worth 1, letter 1 2, letter 2 4, letter 3 8), and the three numbers after it
pub record Second : Type 0 where
  pub events : ℕ
  pub finished : ℕ
  pub printing : ℕ
  pub waiting : ℕ

abbrev second : (events finished printing waiting : ℕ) → Second
second e f p w = record { events = e; finished = f; printing = p; waiting = w }

unfoldable pub follows : Settings → (seed t : ℕ) → List Second → List Bool
follows s seed t [] = []
follows s seed t (r ∷ rs) =
    let k = kiosk_after s seed (suc t) in
    (eqb (events_in s seed t) r.events
    && (eqb k.finished r.finished && (eqb (number (is_printing k.head)) r.printing && eqb k.waiting r.waiting)))
    ∷ follows s seed (suc t) rs

abbrev small : Settings
small = record { warmup = 1; print = 2; switchoff = 1; gap = 3 }

abbrev pub nine_seconds : List Second
nine_seconds =
    -- 0: a customer joins, and warming begins
    second 4 0 0 1
    -- 1: warming ends, and a print begins
    ∷ second 3 0 1 0
    -- 2: the print goes on
    ∷ second 1 0 1 0
    -- 3: the print ends, a customer joins, and the next print begins
    ∷ second 15 1 1 0
    ∷ second 1 1 1 0
    -- 5: the print ends, and the head is idle from now on
    ∷ second 9 2 0 0
    -- 6: a customer joins too late for the head, which goes off; warming begins
    ∷ second 4 2 0 1
    -- 7: a customer joins, warming ends, and a print begins
    ∷ second 7 2 1 1
    -- 8: a customer joins
    ∷ second 5 2 1 2
    ∷ []

-- another: in second 4 the head goes off and nobody comes, so that the second ends with a cold head
abbrev pub one_customer : List Second
one_customer = second 4 0 0 1 ∷ second 3 0 1 0 ∷ second 1 0 1 0 ∷ second 9 1 0 0 ∷ second 0 1 0 0 ∷ []

pub run_computes : (wrong 0 (follows small 6 0 nine_seconds) ≡ []) × (wrong 0 (follows small 13 0 one_customer) ≡ [])
unfolding wrong follows run_after second_of end_print join end_warming switch_off begin_print begin_warming events_of xor
run_computes = (refl, refl)

-- the bytes of its first two seconds
pub log_computes : simulated_log small 6 2 ≡
    0x4B ∷ 0x4C ∷ 0x47 ∷ 0 ∷ 1 ∷ 0 ∷ 0 ∷ 0 ∷ 0 ∷ 0 ∷ 0 ∷ 0 ∷ 0 ∷ 0 ∷ 0 ∷ 4 ∷ 0 ∷ 0 ∷ 0 ∷ 1 ∷ 0 ∷ 0 ∷ 0 ∷ 3 ∷ []
unfolding records_bytes run_after second_of end_print join end_warming switch_off begin_print begin_warming events_of xor
log_computes = refl

abbrev set : (warmup print switchoff gap : ℕ) → Settings
set w p o g = record { warmup = w; print = p; switchoff = o; gap = g }

-- the ends of all ranges pass, and one past each is refused
pub refusals_compute : wrong 0
    (not (out_of_range (set 1 1 1 1) 0 1 8)
    ∷ not (out_of_range (set 600 600 3600 3600) 3600 4294967295 28808)
    ∷ out_of_range (set 0 1 1 1) 0 1 8
    ∷ out_of_range (set 601 1 1 1) 0 1 8
    ∷ out_of_range (set 1 0 1 1) 0 1 8
    ∷ out_of_range (set 1 601 1 1) 0 1 8
    ∷ out_of_range (set 1 1 0 1) 0 1 8
    ∷ out_of_range (set 1 1 3601 1) 0 1 8
    ∷ out_of_range (set 1 1 1 0) 0 1 8
    ∷ out_of_range (set 1 1 1 3601) 0 1 8
    ∷ out_of_range (set 1 1 1 1) 3601 1 28816
    ∷ out_of_range (set 1 1 1 1) 0 0 8
    ∷ out_of_range (set 1 1 1 1) 0 1 7
    ∷ out_of_range (set 1 1 1 1) 3600 1 28807
    ∷ []) ≡ []
unfolding wrong
refusals_compute = refl
