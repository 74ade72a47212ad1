-- `decoding::Rule::read` meets its contract. The loop's invariant: the array holds the quantities of the formulas on the stack after k entries.
use Prim.Native.Nat.{◌<◌, ◌+◌, ◌-◌, ◌≤◌}
use native.Mathlib.Omega.{arith}
use mathlib.Core.Path.{◌≡◌, sym, ap, ◌∙◌}
use Rattle.std.specs.Prelude.{Some}
use Rattle.rule.specs.Entries.{entry}
use Rattle.rule.specs.Operands.{operands}
use Rattle.rule.proofs.Run.{none_read, one_more, lacks_operand, enough_formulas, other_number}
use Rattle.rule.proofs.decoding.Rule.read.Goals as goal

pub loop-k-init : goal.loop-k-init
loop-k-init c = none_read c.args.of c.args.self.now.entries

pub returns-then-depth-taken : goal.returns-then-depth-taken
returns-then-depth-taken c =
    let i = c.loop-k in
    let a = c.args in
    let l : i.depth < operands (entry a.self.now.entries i.k).kind = omega (arith, c.operands_of-taken.ensures) in
    sym (lacks_operand a.of a.self.now.version a.self.now.entries i.stack i.depth i.k a.self.now.count i.invariant (omega arith) (omega arith) l)

pub joined-requires : goal.joined-requires
joined-requires c =
    let i = c.loop-k in
    omega (arith, i.invariant.bound (i.depth + 1 - c.operands_of-taken.result), i.invariant.bound i.depth)

pub loop-k-preserved : goal.loop-k-preserved
loop-k-preserved c =
    let i = c.loop-k in
    let a = c.args in
    let e = c.operands_of-taken.ensures in
    let l : operands (entry a.self.now.entries i.k).kind ≤ i.depth = omega (arith, e) in
    rw e
    (one_more a.of a.self.now.entries i.stack i.depth i.k c.joined.result i.invariant (omega arith) (omega arith) l
    (rw e at c.joined.ensures.0) (rw e at c.joined.ensures.1))

pub highest-requires : goal.highest-requires
highest-requires c = omega (arith, c.loop-k.invariant.deep)

pub returns-then-fewest_formulas-depth : goal.returns-then-fewest_formulas-depth
returns-then-fewest_formulas-depth c =
    let i = c.loop-k in
    let a = c.args in
    let e : i.k ≡ a.self.now.count = omega arith in
    ap Some c.highest.ensures ∙ sym (enough_formulas a.of a.self.now.version a.self.now.entries i.stack i.depth a.self.now.count (rw e at i.invariant) (rw (c.fewest_formulas.ensures, c.most_formulas.ensures) at c.if-fewest_formulas-depth.true))

pub returns-else-fewest_formulas-depth : goal.returns-else-fewest_formulas-depth
returns-else-fewest_formulas-depth c =
    let i = c.loop-k in
    let a = c.args in
    let e : i.k ≡ a.self.now.count = omega arith in
    sym (other_number a.of a.self.now.version a.self.now.entries i.stack i.depth a.self.now.count (rw e at i.invariant) (rw (c.fewest_formulas.ensures, c.most_formulas.ensures) at c.if-fewest_formulas-depth.false))
