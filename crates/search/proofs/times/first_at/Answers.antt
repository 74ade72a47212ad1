-- `search::times::first_at` meets its contract.
use Prim.Native.Nat.{◌*◌}
use mathlib.Core.Path.{◌≡◌, sym, ◌∙◌, ap}
use native.Mathlib.Omega.{arith}
use lib.ListN.{take}
use lib.Seq.{length-take-le}
use Rattle.trace.specs.Format.{record_count}
use Rattle.trace.specs.Positions.{before}
use Rattle.window.specs.View.{skips}
use Rattle.trace.proofs.Laws.{count_prefix}
use Rattle.trace.proofs.Positions.{before_few}
use Rattle.trace.proofs.Parts.{prefix_part}
use Rattle.trace.proofs.Growing.{before_stays}
use Rattle.search.proofs.Showing.{counted_time}
use Rattle.search.proofs.times.first_at.Goals as goal

pub slice_bounds-positions-end : goal.slice_bounds-positions-end
slice_bounds-positions-end c =
    let few = c.first_record-end.ensures.1 in
    sym (length-take-le (c.first_record-end.result * 8) c.args.records.now (omega arith))

pub returns : goal.returns
returns c =
    let a = c.args in
    let s = a.records.now in
    let f = c.first_record-end in
    let few = f.ensures.1 in
    let part = take (f.result * 8) s in
    let n = count_prefix s f.result few in
    let stays = before_stays s part (prefix_part s (f.result * 8)) (skips a.view.now) (record_count part) (omega arith) in
    let counted : c.positions.result ≡ before (skips a.view.now) s f.result = c.positions.ensures ∙ stays ∙ ap (before (skips a.view.now) s) n in
    (omega (arith, before_few (skips a.view.now) s f.result), λ L whole. counted ∙ ap (before (skips a.view.now) s) f.ensures.0 ∙ counted_time a.view.now s L whole a.bound)
