-- `decoding::Rule::ends` meets its contract. The loop's invariant: the array holds where each formula on the stack after k entries ends.
use Prim.Native.Nat.{◌<◌, ◌≤◌}
use native.Mathlib.Omega.{arith}
use mathlib.Core.Path.{◌≡◌}
use Rattle.rule.specs.Entries.{entry}
use Rattle.rule.specs.Operands.{operands}
use Rattle.rule.proofs.Marks.{none_marked, mark_more, none_ends, all_ends}
use Rattle.rule.proofs.decoding.Rule.ends.Goals as goal

pub loop-k-init : goal.loop-k-init
loop-k-init c = none_marked _

pub returns-then-depth-taken : goal.returns-then-depth-taken
returns-then-depth-taken c =
    let i = c.loop-k in
    let a = c.args in
    let l : i.depth < operands (entry a.self.now.entries i.k).kind = omega (arith, c.operands_of-taken.ensures) in
    none_ends a.self.now.entries i.at i.depth i.k i.invariant (omega arith) (omega arith) a.self.now.count _ (omega arith) l

pub bounds-at-min : goal.bounds-at-min
bounds-at-min c = omega (arith, c.min.ensures)

pub loop-k-preserved : goal.loop-k-preserved
loop-k-preserved c =
    let i = c.loop-k in
    let a = c.args in
    let e = c.operands_of-taken.ensures in
    let l : operands (entry a.self.now.entries i.k).kind ≤ i.depth = omega (arith, e) in
    rw (c.min.ensures, e) (mark_more a.self.now.entries i.at i.depth i.k i.invariant (omega arith) (omega arith) l)

pub returns : goal.returns
returns c =
    let i = c.loop-k in
    let a = c.args in
    let e : i.k ≡ a.self.now.count = omega arith in
    all_ends a.self.now.entries i.at i.depth a.self.now.count (rw e at i.invariant)
