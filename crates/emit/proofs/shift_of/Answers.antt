-- `shift_of` reads inside the words and the records: of the records seen before it counts only those that the slice has.
use Prim.Native.Nat.{◌*◌}
use mathlib.Core.Path.{sym}
use native.Mathlib.Omega.{arith}
use lib.Seq.{length-take-le}
use Rattle.emit.proofs.shift_of.Goals as goal

pub slice_bounds-positions-end : goal.slice_bounds-positions-end
slice_bounds-positions-end c =
    let old = c.min-old in
    sym (length-take-le (old.result * 8) c.args.records.now (omega (arith, old.ensures, c.count.ensures)))
