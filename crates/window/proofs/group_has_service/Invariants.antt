-- The invariant of `window::group_has_service`.
use Prim.Native.Nat.{ℕ, ◌<◌}
use mathlib.Core.List.{List}
use mathlib.Core.Path.{◌≡◌}
use Rattle.bits.specs.Packed.{bit}
use Rattle.window.specs.Window.{some_service}
use Rattle.window.proofs.group_has_service.Given as goal

-- the bytes of the first i records joined
abbrev pub Joined : List ℕ → (from i joined : ℕ) → Type 0
Joined s from i joined = (joined < 256) × (bit joined 7 ≡ some_service s from i)

abbrev pub invariant-loop-i : goal.invariant-loop-i
invariant-loop-i l = Joined l.records l.from l.i l.joined
