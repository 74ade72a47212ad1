-- `bits::bytes::copy` meets its contract.
use Prim.Native.Nat.{ℕ, suc, ◌+◌}
use mathlib.Core.List.{List, append_assoc}
use mathlib.Core.Path.{◌≡◌, refl, ap, ◌∙◌}
use native.Mathlib.Omega.{arith}
use lib.ListN.{length, get_or, take, drop, set, length-set}
use lib.Seq.{paste, paste-zero, paste-suc, take_all}
use Rattle.bits.proofs.bytes.copy.Goals as goal

pub loop-i-init : goal.loop-i-init
loop-i-init c = (refl, paste-zero c.args.buffer.now c.args.at c.args.bytes.now)

pub loop-i-preserved : goal.loop-i-preserved
loop-i-preserved c =
    let a = c.args in
    let l = c.loop-i in
    let next : suc l.i ≡ l.i + 1 = omega arith in (
      simp length-set l.invariant.0,
      ap (λ (s : List ℕ). set s (a.at + l.i) (get_or a.bytes.now l.i 0)) l.invariant.1 ∙
          paste-suc a.buffer.now a.at a.bytes.now l.i 0 (omega arith) (omega arith) ∙
          ap (paste a.buffer.now a.at a.bytes.now) next,
    )

pub returns : goal.returns
returns c =
    let a = c.args in
    let l = c.loop-i in
    let bytes = a.bytes.now in
    let all : l.i ≡ length bytes = omega arith in
    l.invariant.1 ∙ ap (paste a.buffer.now a.at bytes) all ∙
    append_assoc (take a.at a.buffer.now) (take (length bytes) bytes) (drop (a.at + length bytes) a.buffer.now) ∙
    rw (take_all (length bytes) bytes (omega arith))
