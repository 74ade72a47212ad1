-- `search::times::time_of` meets its contract.
use mathlib.Core.Path.{◌∙◌, ap}
use native.Mathlib.Omega.{arith}
use Rattle.trace.specs.Format.{time_at}
use Rattle.search.proofs.times.time_of.Goals as goal

pub returns-then-r-count : goal.returns-then-r-count
returns-then-r-count c =
    let a = c.args in (
      c.time.ensures.1,
      λ L whole h.
          let (here, inside) = c.record_of-r.ensures L whole h in
          c.time.ensures.0 ∙ ap (time_at a.records.now) here ∙ whole.time a.i h,
    )

pub returns-else-r-count : goal.returns-else-r-count
returns-else-r-count c =
    let count = c.count.ensures in
    (omega arith, λ L whole h. let (here, inside) = c.record_of-r.ensures L whole h in absurd (omega arith))
