-- `report::put_report` meets its contract: each way that it takes writes the text that the definition has for it.
use Prim.Native.Nat.{ℕ}
use mathlib.Core.List.{List}
use mathlib.Core.Path.{◌≡◌, sym, ap, subst, ◌∙◌}
use native.Mathlib.Omega.{arith}
use lib.Seq.{length-take-le}
use Rattle.trace.specs.Format.{record_count, records_of}
use Rattle.decimal.specs.Text.{ascii}
use Rattle.decimal.specs.Written.{Puts}
use Rattle.decimal.proofs.Texts.{puts_more}
use Rattle.report.proofs.Lines.{short_first_line}
use Rattle.report.proofs.Runs.{verdicts_told}
use Rattle.report.proofs.put_report.Goals as goal

pub returns-then-is_too_long : goal.returns-then-is_too_long
unfolding ascii
returns-then-is_too_long c =
    let too_long_is = sym c.is_too_long.ensures ∙ c.if-is_too_long.true in
    rw too_long_is c.put.ensures

pub put_lines-requires : goal.put_lines-requires
put_lines-requires c =
    let r = c.in-Ok.ensures in
    let given = c.in-Ok.given.verdicts in
    let records : c.count.result ≡ record_count (records_of c.args.log.now) = c.count.ensures ∙ ap record_count c.records.ensures in
    let size = length-take-le given c.run.new.sheet r.fits in
    let first = short_first_line given c.count.result (omega (arith, r.fits)) (omega (arith, r.few_records)) in
    (omega (arith, r.fits), r.few_words, omega (arith, r.fits, c.put_counts.ensures.writes.ends))

pub returns-in-Ok : goal.returns-in-Ok
returns-in-Ok c =
    let a = c.args in
    let short = sym c.is_too_long.ensures ∙ c.if-is_too_long.false in
    let records = c.count.ensures ∙ ap record_count c.records.ensures in
    let text = verdicts_told a.rule.now a.log.now short c.run.new.sheet c.in-Ok.given c.count.result c.in-Ok.ensures records in
    subst (λ (piece : List ℕ). Puts a.text.now piece c.put_lines.new.text) text (puts_more c.put_counts.ensures c.put_lines.ensures)
