-- What an accepted call has written: paper 13's claims hold of its text.
-- Assumes nothing.
use Prim.Native.Nat.{ℕ}
use mathlib.Core.List.{List}
use mathlib.Core.Path.{◌≡◌}
use lib.Dec.{leb, ltb}
use lib.ListN.{length}
use borrow.Author.Tests.{leb-false}
use Rattle.mtl.specs.Progress.{joint_progress}
use Rattle.rule.specs.Refusal.{refusal}
use Rattle.rule.proofs.Headers.{first_zero, before_none}
use Rattle.trace.specs.Format.{records_of, dropped, malformed}
use Rattle.trace.specs.Order.{disordered}
use Rattle.trace.proofs.Laws.{neither}
use Rattle.meaning.specs.Verdicts.{formulas_of, columns}
use Rattle.reasons.specs.Text.{text}
use Rattle.reasons.specs.OfRule.{log_in, reason_of, Claims}
use Rattle.reasons.proofs.OfRule.{explained}
use Rattle.checks.specs.Refusal.{whole_log_refusal}
use Rattle.explain.specs.Explain.{unexplained, explain_refusal}

-- THEOREM: every fact of the text holds, together they force the verdict, and no other reason of the rule has this text.
pub accepted_explained : (rule log : List ℕ) (k i room : ℕ) → explain_refusal rule log k i room ≡ 0 → Claims rule log k i
accepted_explained rule log k i room none =
    let rule_fine = before_none (refusal rule) _ none in
    let log_fine = before_none (whole_log_refusal log) _ rule_fine.1 in
    let not_12 = first_zero 11 (malformed log) _ log_fine.0 in
    let not_24 = first_zero 23 (ltb 0 (dropped log)) _ not_12.1 in
    let not_14 = first_zero 13 (disordered (records_of log) 0 0) 0 not_24.1 in
    let not_27 = first_zero 26 (unexplained rule log k i room) 0 log_fine.1 in
    let formula = (neither (leb (columns (formulas_of rule)) k) _).0 not_27.0 in
    let position = (neither (leb (joint_progress (formulas_of rule) (log_in log)) i) (ltb room (length (text (reason_of rule log k i))))).0 formula.1 in
    explained rule log k i
    (record {
      accepted = rule_fine.0;
      ordered = not_14.0;
      one_of = leb-false (columns (formulas_of rule)) k formula.0;
      answered = leb-false (joint_progress (formulas_of rule) (log_in log)) i position.0;
    })
