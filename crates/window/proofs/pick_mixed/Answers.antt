-- `window::pick_mixed` meets its contract: the letter at the first i is picked. Assumes nothing.
use Prim.Native.Nat.{ℕ, ◌+◌, ◌*◌, ◌%◌, ◌^◌, ◌≤◌, ◌<◌}
use native.Mathlib.Omega.{arith}
use mathlib.Core.Bool.{true}
use mathlib.Core.List.{List}
use mathlib.Core.Path.{◌≡◌}
use Rattle.bits.proofs.Laws.{Pushed}
use Rattle.trace.specs.Format.{record_count}
use Rattle.trace.specs.Positions.{spot}
use Rattle.window.specs.Window.{letter_at, Counted, Picks}
use Rattle.window.specs.declared.Picked.{Picked}
use Rattle.window.proofs.Windows.{counted_join, counted_left}
use Rattle.window.proofs.Picking.{picked_on, picked_fits}
use Rattle.window.proofs.pick_mixed.Goals as goal

-- the letter at the next record comes behind those that are picked
module _ (s : List ℕ) (letter from i count bits : ℕ) (counted : Counted s from i count) (pushed : Pushed (letter_at true s letter from) 0 count bits)
    (few : i < 8) (inside : from + i < record_count s) (one : Picked) (picks : Picks s letter (from + i) 1 one) where
  left : (j : ℕ) → spot s from (count + j) ≡ spot s (from + i) j
  left = counted_left s from i count counted (omega arith)

  room : count + one.count ≤ 64
  room = omega (arith, counted.few, picks.counted.few)

  more : Pushed (letter_at true s letter from) 0 (count + one.count) (bits + one.bits * 2 ^ count % 2 ^ 64)
  more = picked_on s letter from count (from + i) 1 bits left pushed one picks room

  fits : bits + one.bits * 2 ^ count % 2 ^ 64 < 2 ^ 64
  fits = picked_fits s letter from count (from + i) 1 bits left pushed one picks room

pub loop-i-preserved : goal.loop-i-preserved
loop-i-preserved c =
    let a = c.args in
    let l = c.loop-i in
    let one = c.pick_one-one in (
      counted_join a.records.now a.from l.i 1 l.count one.result.count l.invariant.0 one.ensures.counted,
      more a.records.now a.letter a.from l.i l.count l.bits l.invariant.0 l.invariant.1 (omega arith) (omega arith) one.result
          one.ensures,
    )
