-- The invariant of `verdicts::counting::has_bit_beyond`.
use Prim.Native.Nat.{◌/◌, ◌^◌}
use mathlib.Core.Path.{◌≡◌}
use lib.Dec.{ltb}
use Rattle.mtl.specs.Satisfaction.{any}
use Rattle.verdicts.specs.Tally.{beyond}
use Rattle.verdicts.proofs.counting.has_bit_beyond.Given as goal

abbrev pub invariant-loop-verdict : goal.invariant-loop-verdict
invariant-loop-verdict l = ltb 0 (l.all / 2 ^ l.formulas) ≡ any l.verdict-index (beyond l.formulas l.sheet)
