-- The answers of the cycle of calls {atom, ors, prefixed, timed}.
use mathlib.Core.Path.{refl, sym}
use Rattle.std.specs.Prelude.{None, Some}
use Rattle.text.specs.Reader.{joined}
use Rattle.text.proofs.Levels.{atom_end, atom_letter, atom_neither, atom_empty, atom_brackets, prefixed_end, prefixed_atom, prefixed_missing, prefixed_fault, prefixed_one, timed_none, timed_last, timed_alone, timed_missing, timed_fault, timed_two, ors_none, ors_more, ors_end}
use Rattle.text.proofs.level.+atom_ors_prefixed_timed.Goals as goal

pub atom-returns-in_err-lexeme : goal.atom-returns-in_err-lexeme
atom-returns-in_err-lexeme t c = rw c.from_residual.ensures (atom_end c.args.text.now c.args.at c.args.out.now c.in_err-lexeme.ensures)

pub atom-returns-in-Letter : goal.atom-returns-in-Letter
atom-returns-in-Letter t c = atom_letter _ _ _ _ c.in_ok-lexeme.ensures c.in-Letter.letter c.in-Letter.is _ _ (rw c.number.ensures at c.put.ensures)

pub atom-returns-in_default : goal.atom-returns-in_default
atom-returns-in_default t c = atom_neither _ _ _ _ c.in_ok-lexeme.ensures c.args.out.now c.in_default.not-Letter c.in_default.not-Opening

pub atom-returns-in_err-inside-in-Opening : goal.atom-returns-in_err-inside-in-Opening
atom-returns-in_err-inside-in-Opening t c =
    rw c.from_residual-in_err-inside-in-Opening.ensures
    (atom_empty _ _ _ _ c.in_ok-lexeme.ensures c.in-Opening.is c.args.out.now c.ors.new.out (c.in_err-inside-in-Opening.ensures None refl))

pub atom-returns-in_ok-inside-in-Opening : goal.atom-returns-in_ok-inside-in-Opening
atom-returns-in_ok-inside-in-Opening t c =
    atom_brackets _ _ _ _ c.in_ok-lexeme.ensures c.in-Opening.is _ _ _ (c.in_ok-inside-in-Opening.ensures None refl) c.behind.result c.behind.ensures

pub ors-returns-in_err-term : goal.ors-returns-in_err-term
ors-returns-in_err-term t c = λ before is. rw c.from_residual.ensures (ors_none before c.args.text.now c.args.at c.args.out.now c.timed.new.out c.in_err-term.ensures)

pub ors-returns-in-Some : goal.ors-returns-in-Some
ors-returns-in-Some t c = λ before is.
    ors_more before c.args.later is _ _ _ _ _ _ c.in_ok-term.ensures c.join.ensures c.in-Some.next c.in-Some.ensures c.ors.result c.ors.new.out
    (c.ors.ensures (Some (joined before c.in_ok-term.ensures.tree)) refl)

pub ors-returns-in-None : goal.ors-returns-in-None
ors-returns-in-None t c = λ before is. ors_end before c.args.later is _ _ _ _ _ _ c.in_ok-term.ensures c.join.ensures c.in-None.ensures

pub prefixed-returns-in_err-lexeme : goal.prefixed-returns-in_err-lexeme
prefixed-returns-in_err-lexeme t c = rw c.from_residual.ensures (prefixed_end c.args.text.now c.args.at c.args.out.now c.in_err-lexeme.ensures)

pub prefixed-returns-in_default : goal.prefixed-returns-in_default
prefixed-returns-in_default t c = prefixed_atom _ _ _ _ c.in_ok-lexeme.ensures c.args.out.now c.atom.new.out c.atom.result (sym c.in_default.ensures) c.atom.ensures

pub prefixed-returns-in_err-timing : goal.prefixed-returns-in_err-timing
prefixed-returns-in_err-timing t c =
    rw c.from_residual-in_err-timing.ensures
    (prefixed_missing _ _ _ _ c.in_ok-lexeme.ensures c.in-Some.kind (sym c.in-Some.ensures) c.args.out.now c.in_err-timing.ensures)

pub prefixed-returns-in_err-operand : goal.prefixed-returns-in_err-operand
prefixed-returns-in_err-operand t c =
    rw c.from_residual-in_err-operand.ensures
    (prefixed_fault _ _ _ _ c.in_ok-lexeme.ensures c.in-Some.kind (sym c.in-Some.ensures) c.in_ok-timing.timing c.in_ok-timing.ensures c.args.out.now c.prefixed.new.out
    c.in_err-operand.ensures)

pub prefixed-returns : goal.prefixed-returns
prefixed-returns t c =
    prefixed_one _ _ _ _ c.in_ok-lexeme.ensures c.in-Some.kind (sym c.in-Some.ensures) c.in_ok-timing.timing c.in_ok-timing.ensures _ _ _ _
    c.in_ok-operand.ensures (rw c.number.ensures at c.put.ensures)

pub timed-returns-in_err-left : goal.timed-returns-in_err-left
timed-returns-in_err-left t c = rw c.from_residual.ensures (timed_none c.args.text.now c.args.at c.args.out.now c.prefixed.new.out c.in_err-left.ensures)

pub timed-returns-in_default : goal.timed-returns-in_default
timed-returns-in_default t c = timed_last _ _ _ _ _ c.in_ok-left.ensures c.in_default.ensures

pub timed-returns-in_default-infix_kind : goal.timed-returns-in_default-infix_kind
timed-returns-in_default-infix_kind t c = timed_alone _ _ _ _ _ c.in_ok-left.ensures _ _ c.in-Some.ensures (sym c.in_default-infix_kind.ensures)

pub timed-returns-in_err-timing : goal.timed-returns-in_err-timing
timed-returns-in_err-timing t c =
    rw c.from_residual-in_err-timing.ensures
    (timed_missing _ _ _ _ _ c.in_ok-left.ensures _ _ c.in-Some.ensures c.in-Some-infix_kind.kind (sym c.in-Some-infix_kind.ensures) c.in_err-timing.ensures)

pub timed-returns-in_err-right : goal.timed-returns-in_err-right
timed-returns-in_err-right t c =
    rw c.from_residual-in_err-right.ensures
    (timed_fault _ _ _ _ _ c.in_ok-left.ensures _ _ c.in-Some.ensures c.in-Some-infix_kind.kind (sym c.in-Some-infix_kind.ensures)
    c.in_ok-timing.timing c.in_ok-timing.ensures c.timed.new.out c.in_err-right.ensures)

pub timed-returns : goal.timed-returns
timed-returns t c =
    timed_two _ _ _ _ _ c.in_ok-left.ensures _ _ c.in-Some.ensures c.in-Some-infix_kind.kind (sym c.in-Some-infix_kind.ensures)
    c.in_ok-timing.timing c.in_ok-timing.ensures _ _ _ c.in_ok-right.ensures (rw c.number.ensures at c.put.ensures)
