-- `counting::count_yes` meets its contract. The loop's invariant: `count` is of the bytes before.
use Prim.Native.Nat.{ℕ, ◌+◌, ◌/◌, ◌%◌, ◌^◌}
use native.Mathlib.Omega.{arith}
use mathlib.Core.Bool.{true}
use mathlib.Core.Path.{sym, ap₂, ◌∙◌}
use Rattle.verdicts.proofs.Tallies.{count_none, count_yes_more}
use Rattle.verdicts.proofs.counting.count_yes.Goals as goal

pub loop-verdict-init : goal.loop-verdict-init
loop-verdict-init c = (count_none c.args.k c.args.sheet.now true, omega arith)

pub loop-verdict-preserved : goal.loop-verdict-preserved
loop-verdict-preserved c =
    let a = c.args in
    let l = c.loop-verdict in (
      ap₂ (λ (n b : ℕ). n + b / 2 ^ a.k % 2) l.invariant.0 c.from.ensures ∙ sym (count_yes_more a.k a.sheet.now l.verdict-index),
      omega arith,
    )
