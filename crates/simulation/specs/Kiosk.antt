-- The kiosk of paper 12: what it is, and a second of it.
use Rattle.std.specs.Prelude.{ℕ, zero, suc, ◌+◌, ◌-◌, ◌%◌, Bool, true, false, cond, ◌&&◌, ◌||◌, leb, ltb, eqb}
use Rattle.bits.specs.Packed.{number}
use Rattle.simulation.specs.Generator.{xorshift}
use Rattle.simulation.specs.declared.Settings.{Settings}
use Rattle.simulation.specs.declared.kiosk.Kiosk.{Kiosk}
use Rattle.simulation.specs.declared.kiosk.Head.{Head}
use Rattle.simulation.specs.declared.kiosk.Head.TheVariants.{Off, Warming, Idle, Printing}

-- What the head does, with the second in which that began; `Idle` is warm and free. Beside it and the counts a kiosk has what
-- happened in the last second: `began` for letter 1, `joined` for letter 2, `ended` for letter 3.

abbrev pub is_off : Head → Bool
is_off Off = true
is_off (Warming since) = false
is_off (Idle since) = false
is_off (Printing since) = false

abbrev pub is_warming : Head → Bool
is_warming Off = false
is_warming (Warming since) = true
is_warming (Idle since) = false
is_warming (Printing since) = false

abbrev pub is_free : Head → Bool
is_free Off = false
is_free (Warming since) = false
is_free (Idle since) = true
is_free (Printing since) = false

abbrev pub is_printing : Head → Bool
is_printing Off = false
is_printing (Warming since) = false
is_printing (Idle since) = false
is_printing (Printing since) = true

abbrev pub is_warm : Head → Bool
is_warm head = is_free head || is_printing head

abbrev pub since_of : Head → ℕ
since_of Off = 0
since_of (Warming since) = since
since_of (Idle since) = since
since_of (Printing since) = since

-- "Warming or a print is due its time after it began"; a head "idle for the switch-off time"
abbrev pub is_due : (time now : ℕ) → Head → Bool
is_due time now head = leb (since_of head + time) now

-- the kiosk with another head
abbrev pub with_head : Kiosk → Head → Kiosk
with_head k head = record {
  head = head;
  finished = k.finished;
  waiting = k.waiting;
  began = k.began;
  joined = k.joined;
  ended = k.ended;
}

-- "with the head off and nobody there"
abbrev pub started : Kiosk
started = record { head = Off; finished = 0; waiting = 0; began = false; joined = false; ended = false }

-- "a due print ends (letter 3)"; "the head is idle from the second in which either ended"
unfoldable pub end_print : (time now : ℕ) → Kiosk → Kiosk
end_print time now k =
    let due = is_printing k.head && is_due time now k.head in
    record {
      head = cond due (Idle now) k.head;
      finished = k.finished + number due;
      waiting = k.waiting;
      began = k.began;
      joined = k.joined;
      ended = due;
    }

-- "one draw, and a customer joins if it is divisible by the mean gap (letter 2)"
unfoldable pub join : (gap draw : ℕ) → Kiosk → Kiosk
join gap draw k =
    let divisible = eqb (draw % gap) 0 in
    record {
      head = k.head;
      finished = k.finished;
      waiting = k.waiting + number divisible;
      began = k.began;
      joined = divisible;
      ended = k.ended;
    }

-- "due warming ends"
unfoldable pub end_warming : (time now : ℕ) → Kiosk → Kiosk
end_warming time now k = with_head k (cond (is_warming k.head && is_due time now k.head) (Idle now) k.head)

-- "a warm head idle for the switch-off time goes off"
unfoldable pub switch_off : (time now : ℕ) → Kiosk → Kiosk
switch_off time now k = with_head k (cond (is_free k.head && is_due time now k.head) Off k.head)

-- "a print begins if the head is warm and free and someone waits (letter 1)"
unfoldable pub begin_print : (now : ℕ) → Kiosk → Kiosk
begin_print now k =
    let begins = is_free k.head && ltb 0 k.waiting in
    record {
      head = cond begins (Printing now) k.head;
      finished = k.finished;
      waiting = k.waiting - number begins;
      began = begins;
      joined = k.joined;
      ended = k.ended;
    }

-- "warming begins if it is off and someone waits"
unfoldable pub begin_warming : (now : ℕ) → Kiosk → Kiosk
begin_warming now k = with_head k (cond (is_off k.head && ltb 0 k.waiting) (Warming now) k.head)

-- "In each second, in order"
unfoldable pub second_of : Settings → (now draw : ℕ) → Kiosk → Kiosk
second_of s now draw k =
    let k₁ = end_print s.print now k in
    let k₂ = join s.gap draw k₁ in
    let k₃ = end_warming s.warmup now k₂ in
    let k₄ = switch_off s.switchoff now k₃ in
    let k₅ = begin_print now k₄ in
    begin_warming now k₅

-- "letter k is the bit worth 2 to the k"
abbrev pub letter : (stands : Bool) (worth : ℕ) → ℕ
letter stands worth = cond stands worth 0

-- the event set of a second: "Letter 0 stands in every second that ends with a warm head"
unfoldable pub events_of : Kiosk → ℕ
events_of k = letter (is_warm k.head) 1 + letter k.began 2 + letter k.joined 4 + letter k.ended 8

-- a simulation on its way: the generator's state, and the kiosk
pub record SoFar : Type 0 where
  pub state : ℕ
  pub kiosk : Kiosk

-- after n seconds, from time 0; "each draw moves the generator on by one step and is its new state"
unfoldable pub run_after : Settings → (seed n : ℕ) → SoFar
run_after s seed zero = record { state = seed; kiosk = started }
run_after s seed (suc n) =
    let before = run_after s seed n in
    let draw = xorshift before.state in
    record { state = draw; kiosk = second_of s n draw before.kiosk }

-- the kiosk alone
abbrev pub kiosk_after : Settings → (seed n : ℕ) → Kiosk
kiosk_after s seed n = (run_after s seed n).kiosk
