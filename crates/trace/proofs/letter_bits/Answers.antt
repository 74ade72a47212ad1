-- `trace::letter_bits` meets its contract. The loop's invariant: the groups before are answered, one bit a position.
-- Assumes nothing.
use Prim.Native.Nat.{◌+◌, ◌-◌, ◌*◌, ◌/◌}
use native.Mathlib.Omega.{arith}
use mathlib.Core.Path.{◌≡◌}
use Rattle.bits.proofs.Laws.{grown, grown_fits}
use Rattle.trace.specs.Format.{has_letter}
use Rattle.trace.proofs.letter_bits.Goals as goal

pub loop-group-preserved : goal.loop-group-preserved
loop-group-preserved c =
    let a = c.args in
    let l = c.loop-group in
    let g = c.letter_many in
    let next : l.group * 32 + 32 ≡ (l.group + 1) * 32 = omega arith in
    rw next at (grown (has_letter a.records.now a.letter) a.from (l.group * 32) 32 g.result l.answers (omega arith) g.ensures l.invariant)

pub overflow_add-answers-then-i-n : goal.overflow_add-answers-then-i-n
overflow_add-answers-then-i-n c =
    let a = c.args in
    let l = c.loop-group in
    let g = c.letter_group in
    let i = a.n / 32 * 32 in
    let groups : l.group ≡ a.n / 32 = omega arith in
    record { fits = grown_fits (has_letter a.records.now a.letter) a.from i (a.n - i) g.result l.answers (omega arith) g.ensures (rw groups at l.invariant) }

pub returns-then-i-n : goal.returns-then-i-n
returns-then-i-n c =
    let a = c.args in
    let l = c.loop-group in
    let g = c.letter_group in
    let i = a.n / 32 * 32 in
    let groups : l.group ≡ a.n / 32 = omega arith in
    let all : i + (a.n - i) ≡ a.n = omega arith in
    rw all at (grown (has_letter a.records.now a.letter) a.from i (a.n - i) g.result l.answers (omega arith) g.ensures (rw groups at l.invariant)).packed
