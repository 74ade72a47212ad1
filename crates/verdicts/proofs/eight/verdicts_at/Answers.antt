-- `eight::verdicts_at` meets its contract. The loop's invariant: `word` has the verdicts of the columns from `column` on.
use Prim.Native.Nat.{ℕ}
use native.Mathlib.Omega.{arith}
use mathlib.Core.List.{List}
use mathlib.Core.Path.{sym, ap, ◌∙◌}
use Rattle.verdicts.specs.Code.{eight_verdicts}
use Rattle.verdicts.proofs.Columns.{eight_none, no_column, column_in}
use Rattle.verdicts.proofs.eight.verdicts_at.Goals as goal

pub loop-column-init : goal.loop-column-init
loop-column-init c =
    eight_none c.args.i ∙
    ap (λ (ws : List ℕ). eight_verdicts ws c.args.i) (sym (no_column c.args.answers.now c.args.columns (omega arith)))

pub overflow_mul-word : goal.overflow_mul-word
overflow_mul-word c =
    let a = c.args in
    let l = c.loop-column in
    let new = column_in a.answers.now a.columns l.column (omega arith) (omega arith) (omega arith) (omega arith) a.i l.word l.invariant in
    record { fits = omega (arith, new.1) }

pub overflow_add-word : goal.overflow_add-word
overflow_add-word c =
    let a = c.args in
    let l = c.loop-column in
    let new = column_in a.answers.now a.columns l.column (omega arith) (omega arith) (omega arith) (omega arith) a.i l.word l.invariant in
    record { fits = rw c.spread.ensures new.1 }

pub loop-column-preserved : goal.loop-column-preserved
loop-column-preserved c =
    let a = c.args in
    let l = c.loop-column in
    let new = column_in a.answers.now a.columns l.column (omega arith) (omega arith) (omega arith) (omega arith) a.i l.word l.invariant in
    rw c.spread.ensures new.0
