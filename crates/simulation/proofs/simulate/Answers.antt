-- `simulation::simulate` meets its contract: a refused call changes nothing, and header and records are the log's bytes.
-- Assumes nothing.
use Prim.Native.Nat.{ℕ}
use native.Mathlib.Omega.{arith}
use mathlib.Core.List.{List}
use Rattle.std.specs.Int.{from_bool}
use mathlib.Core.Bool.{Bool, true, false}
use mathlib.Core.Path.{◌≡◌, refl, sym, ap, ◌∙◌}
use lib.ListN.{length}
use Rattle.bits.specs.Packed.{number}
use Rattle.trace.specs.Making.{records_bytes, put}
use Rattle.simulation.specs.Simulate.{time_of, events_in}
use Rattle.simulation.proofs.Outcome.{InRange, in_range, refuses, accepts}
use Rattle.simulation.proofs.simulate.Goals as goal
use Rattle.simulation.proofs.simulate.Goals.{Else-is_refused}

from_bool_is : (b : Bool) → from_bool b ≡ number b
from_bool_is true = refl
from_bool_is false = refl

-- what holds once the checks have passed
fine : (c : Else-is_refused) → let a = c.args in InRange a.settings a.seconds a.seed (length a.log.now)
fine c =
    let a = c.args in
    in_range a.settings a.seconds a.seed (length a.log.now) (sym c.is_refused.ensures ∙ c.if-is_refused.false)

pub returns-then-is_refused : goal.returns-then-is_refused
returns-then-is_refused c =
    let a = c.args in
    refuses a.settings a.seconds a.seed a.log.now (sym c.is_refused.ensures ∙ c.if-is_refused.true)

pub write_header-requires : goal.write_header-requires
write_header-requires c = omega (arith, (fine (goal.at.write_header-requires c).Else-is_refused).fits)

pub run-kiosk-requires : goal.run-kiosk-requires
run-kiosk-requires c =
    let f = fine (goal.at.run-kiosk-requires c).Else-is_refused in
    (f.gap, f.few, omega (arith, f.fits, c.write_header.auto.log))

pub returns : goal.returns
returns c =
    let a = c.args in
    let h = c.write_header in
    let r = c.run-kiosk in
    accepts a.settings a.seconds a.seed a.log.now r.result _ c.from.result (sym c.is_refused.ensures ∙ c.if-is_refused.false)
    r.ensures.value
    (c.from.ensures ∙ from_bool_is c.is_printing.result ∙ ap number c.is_printing.ensures)
    (r.ensures.log_after ∙ ap (λ (l : List ℕ). put l 8 (records_bytes time_of (events_in a.settings a.seed) a.seconds)) h.ensures)
