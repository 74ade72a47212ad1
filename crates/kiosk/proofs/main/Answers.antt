-- `kiosk::main` is safe and ends: the text that `report` wrote lies within the buffer.
use Prim.Native.Nat.{ℕ, ◌≤◌}
use native.Mathlib.Omega.{arith}
use mathlib.Core.Path.{sym, ap}
use mathlib.Core.List.{List, ◌++◌}
use lib.ListN.{length, take, drop, length-append}
use lib.Seq.{length-take-le}
use Rattle.decimal.specs.Text.{Writes}
use Rattle.kiosk.proofs.main.Goals as goal

text_fits : {t bytes t' : List ℕ} {to : ℕ} → Writes t 0 bytes to t' → to ≤ length t'
text_fits {t} {bytes} {t'} {to} w =
    let ends = w.ends in
    let size = ap length w.content in
    let head = length-append (take 0 t) bytes in
    let whole = length-append (take 0 t ++ bytes) (drop to t) in
    omega arith

pub slice_bounds-text-end : goal.slice_bounds-text-end
slice_bounds-text-end c = text_fits c.report-len.ensures

pub slice_bounds-write_all-end : goal.slice_bounds-write_all-end
slice_bounds-write_all-end c = sym (length-take-le _ _ (text_fits c.report-len.ensures))
