-- What is proved of every simulation besides its equation: the log is one that `resume` accepts, its times are 0, 1, 2, .., its
-- letters say what happened, nobody is lost, and the generator never stands at 0. Assumes nothing.
use Prim.Native.Nat.{ℕ, zero, suc, ◌+◌, ◌≤◌, ◌<◌, ◌^◌}
use mathlib.Core.Bool.{Bool, true, false}
use mathlib.Core.List.{List}
use mathlib.Core.Path.{◌≡◌, refl, sym, ap, ap₂, ◌∙◌}
use native.Mathlib.Omega.{arith}
use Rattle.bits.specs.Packed.{bit, number}
use Rattle.bits.proofs.Laws.{number_lt}
use Rattle.trace.specs.Format.{time_at, events_at, records_of, malformed}
use Rattle.trace.specs.Order.{disordered}
use Rattle.trace.proofs.Making.{time_back, events_back, made_well, made_ordered}
use Rattle.simulation.specs.Generator.{xorshift, state_after}
use Rattle.simulation.specs.Kiosk.{is_warm, is_printing, letter, events_of, run_after, kiosk_after}
use Rattle.simulation.specs.Simulate.{out_of_range, time_of, events_in, simulated_log, simulation_answer}
use Rattle.simulation.specs.Arrivals.{arrivals, customers, NobodyLost}
use Rattle.simulation.specs.declared.Settings.{Settings}
use Rattle.simulation.specs.declared.kiosk.Kiosk.{Kiosk}
use Rattle.simulation.proofs.Kept.{second_customers}
use Rattle.simulation.proofs.Outcome.{in_range}
use Rattle.simulation.proofs.Xor.{state_in_range}

-- the letters of an event set

pub record Letters (events : ℕ) (w b j e : Bool) : Type 0 where
  pub few : events < 16
  pub warm : bit events 0 ≡ w
  pub began : bit events 1 ≡ b
  pub joined : bit events 2 ≡ j
  pub ended : bit events 3 ≡ e

letters : (a b c d : Bool) → Letters (letter a 1 + letter b 2 + letter c 4 + letter d 8) a b c d
letters true true true true = record { few = omega arith; warm = refl; began = refl; joined = refl; ended = refl }
letters true true true false = record { few = omega arith; warm = refl; began = refl; joined = refl; ended = refl }
letters true true false true = record { few = omega arith; warm = refl; began = refl; joined = refl; ended = refl }
letters true true false false = record { few = omega arith; warm = refl; began = refl; joined = refl; ended = refl }
letters true false true true = record { few = omega arith; warm = refl; began = refl; joined = refl; ended = refl }
letters true false true false = record { few = omega arith; warm = refl; began = refl; joined = refl; ended = refl }
letters true false false true = record { few = omega arith; warm = refl; began = refl; joined = refl; ended = refl }
letters true false false false = record { few = omega arith; warm = refl; began = refl; joined = refl; ended = refl }
letters false true true true = record { few = omega arith; warm = refl; began = refl; joined = refl; ended = refl }
letters false true true false = record { few = omega arith; warm = refl; began = refl; joined = refl; ended = refl }
letters false true false true = record { few = omega arith; warm = refl; began = refl; joined = refl; ended = refl }
letters false true false false = record { few = omega arith; warm = refl; began = refl; joined = refl; ended = refl }
letters false false true true = record { few = omega arith; warm = refl; began = refl; joined = refl; ended = refl }
letters false false true false = record { few = omega arith; warm = refl; began = refl; joined = refl; ended = refl }
letters false false false true = record { few = omega arith; warm = refl; began = refl; joined = refl; ended = refl }
letters false false false false = record { few = omega arith; warm = refl; began = refl; joined = refl; ended = refl }

kiosk_letters : (k : Kiosk) → Letters (events_of k) (is_warm k.head) k.began k.joined k.ended
unfolding events_of
kiosk_letters k = letters (is_warm k.head) k.began k.joined k.ended

-- 3,600 seconds are few
module _ (s : Settings) (seed n : ℕ) (few : n ≤ 3600) where
  -- the records of the log
  abbrev written : List ℕ
  written = records_of (simulated_log s seed n)

  -- check 12 passes
  pub well_formed : malformed (simulated_log s seed n) ≡ false
  well_formed = made_well time_of (events_in s seed) n (omega arith)

  -- check 14 passes for a first call
  pub in_order : disordered written 0 0 ≡ false
  in_order = made_ordered time_of (events_in s seed) n (λ i h. omega arith) (λ i j le h. le)

  module _ (t : ℕ) (h : t < n) where
    pub times : time_at written t ≡ t
    times = time_back time_of (events_in s seed) n t h (omega arith)

    events_are : events_at written t ≡ events_in s seed t
    events_are = events_back time_of (events_in s seed) n t h (omega (arith, (kiosk_letters (kiosk_after s seed (suc t))).few))

    -- what the letters of second t say of the kiosk at its end
    pub says : Letters (events_at written t) (is_warm (kiosk_after s seed (suc t)).head) (kiosk_after s seed (suc t)).began (kiosk_after s seed (suc t)).joined (kiosk_after s seed (suc t)).ended
    says = rw events_are (kiosk_letters (kiosk_after s seed (suc t)))

  all_counted : (m : ℕ) → m ≤ n → customers (kiosk_after s seed m) ≡ arrivals written m
  unfolding run_after arrivals
  all_counted zero le = refl
  all_counted (suc m) le =
      second_customers s m (xorshift (run_after s seed m).state) (kiosk_after s seed m) ∙
      ap₂ (λ (x y : ℕ). x + y) (all_counted m (omega arith)) (ap number (sym (says m (omega arith)).joined))

-- THEOREM. "After every second the three sum to the arrivals counted from the log."
pub nobody_lost : (s : Settings) (seconds seed room : ℕ) → out_of_range s seconds seed room ≡ false → NobodyLost s seconds seed
nobody_lost s seconds seed room accepted =
    let few = (in_range s seconds seed room accepted).few in
    record { every_second = all_counted s seed seconds few; given_sum = all_counted s seed seconds few seconds (omega arith) }

pub printing_one : (s : Settings) (seed n : ℕ) → (simulation_answer s n seed).printing ≤ 1
printing_one s seed n = omega (arith, number_lt (is_printing (kiosk_after s seed n).head))

-- "one draw" in each second
pub one_draw : (s : Settings) (seed n : ℕ) → (run_after s seed n).state ≡ state_after seed n
unfolding run_after state_after
one_draw s seed zero = refl
one_draw s seed (suc n) = ap xorshift (one_draw s seed n)

-- no draw on the way is 0
pub never_zero : (s : Settings) (seed n : ℕ) → seed < 2 ^ 32 → 0 < seed → 0 < (run_after s seed n).state
never_zero s seed n small some = rw (one_draw s seed n) (state_in_range seed n small some).1
