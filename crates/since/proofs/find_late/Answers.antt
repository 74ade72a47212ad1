-- `since::find_late` meets its contract: both ways do.
use native.Mathlib.Omega.{arith}
use borrow.Author.Tests.{leb-true}
use lib.Dec.{leb, ltb}
use mathlib.Core.Bool.{◌&&◌}
use Rattle.mtl.proofs.Bounded.{and_iff}
use Rattle.since.proofs.find_late.Goals as goal

pub find_by_groups-requires : goal.find_by_groups-requires
find_by_groups-requires c =
    let a = c.args in
    let (runs, small) = (and_iff (ltb 6 c.count_zeros-runs.result && leb a.low 4294967296) (leb a.first 4294967296)).0 c.if-runs-low.true in
    let low = leb-true a.low 4294967296 ((and_iff (ltb 6 c.count_zeros-runs.result) (leb a.low 4294967296)).0 runs).1 in
    let first = leb-true a.first 4294967296 small in
    omega arith

pub returns-then-runs-low : goal.returns-then-runs-low
returns-then-runs-low c rises = c.find_by_groups.ensures

pub returns : goal.returns
returns c = c.find_by_runs.ensures
