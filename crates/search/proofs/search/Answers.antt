-- `search::search` meets its contract.
use Prim.Native.Nat.{◌-◌}
use mathlib.Core.Path.{◌≡◌, ◌∙◌}
use native.Mathlib.Omega.{arith}
use lib.Seq.{length-take-le}
use Rattle.engine.specs.Table.{row_at}
use Rattle.search.proofs.search.Goals as goal

pub slice_bounds-ask_all-end : goal.slice_bounds-ask_all-end
slice_bounds-ask_all-end c = let p = c.requires in omega (arith, (p.1 c.args.k (omega arith)).bound)

pub ask_all-requires : goal.ask_all-requires
ask_all-requires c =
    let a = c.args in
    let p = c.requires in
    let f = c.from-end in
    let bound = (p.1 a.k (omega arith)).bound in
    let e : f.result - 0 ≡ (row_at a.table.now a.k).words = omega (arith, f.ensures) in
    (p.0, p.1, length-take-le (f.result - 0) a.words.now (omega (arith, p.2)) ∙ e, p.3, p.4, p.5)
