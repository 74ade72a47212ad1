-- `decoding::Rule::measure` meets its contract: one law for each way out.
use native.Mathlib.Omega.{arith}
use mathlib.Core.Path.{◌≡◌, sym, ◌∙◌}
use Rattle.std.specs.Prelude.{Some, None}
use Rattle.refusal.specs.declared.Refusal.TheVariants.{Shape}
use Rattle.std.proofs.lemmas.Result.{err_from_is_err_and}
use mathlib.Core.Bool.{true, false}
use Rattle.rule.proofs.Spans.{header_most}
use Rattle.rule.proofs.Answers.{stop5, stop6, stop7, stop8, passes}
use Rattle.rule.proofs.decoding.Rule.measure.Goals as goal

pub returns-then-sums : goal.returns-then-sums
returns-then-sums c =
    let a = c.args in
    let r = c.add_up-sums in
    stop5 a.self.now.version a.self.now.entries a.self.now.count r.result r.ensures.0 c.if-sums.true

pub returns-then-sums-2 : goal.returns-then-sums-2
returns-then-sums-2 c =
    let a = c.args in
    let r = c.add_up-sums in
    stop6 a.self.now.version a.self.now.entries a.self.now.count r.result r.ensures.0 c.if-sums.false c.if-sums-2.true

pub returns-in_err-reach : goal.returns-in_err-reach
returns-in_err-reach c =
    let r = c.args.self.now in
    let s = c.add_up-sums in
    let p = err_from_is_err_and c.from_residual.result c.from_residual.ensures.1 in
    let none : c.read.result ≡ None = grind arith in
    let shape : c.in_err-reach.field-0.0 ≡ Shape = grind arith in
    rw (p.1, p.2, shape)
    (stop7 r.version r.entries r.count s.result s.ensures.0 c.if-sums.false c.if-sums-2.false (sym c.read.ensures ∙ none))

pub overflow_add-words : goal.overflow_add-words
overflow_add-words c =
    omega (arith, c.header_words.ensures, header_most c.args.self.now.version)

pub returns-then-words-gt-LIMIT : goal.returns-then-words-gt-LIMIT
returns-then-words-gt-LIMIT c =
    let r = c.args.self.now in
    let s = c.add_up-sums in
    let some : c.read.result ≡ Some c.in_ok-reach.reach = grind arith in
    stop8 r.version r.entries r.count s.result s.ensures.0 _ c.if-sums.false c.if-sums-2.false
    (sym c.read.ensures ∙ some) (omega (arith, c.header_words.ensures))

pub returns-then-sums-3 : goal.returns-then-sums-3
returns-then-sums-3 c =
    let r = c.args.self.now in
    let s = c.add_up-sums in
    let some : c.read.result ≡ Some c.in_ok-reach.reach = grind arith in
    rw (c.header_words.ensures, c.from-reach.ensures)
    (passes r.version r.entries r.count s.result s.ensures.0 _ true (omega (arith, r.few)) c.if-sums.false c.if-sums-2.false
    (sym c.read.ensures ∙ some) (omega (arith, c.header_words.ensures)) c.if-sums-3.true)

pub returns-else-sums-3 : goal.returns-else-sums-3
returns-else-sums-3 c =
    let r = c.args.self.now in
    let s = c.add_up-sums in
    let some : c.read.result ≡ Some c.in_ok-reach.reach = grind arith in
    rw c.header_words.ensures
    (passes r.version r.entries r.count s.result s.ensures.0 _ false (omega (arith, r.few)) c.if-sums.false c.if-sums-2.false
    (sym c.read.ensures ∙ some) (omega (arith, c.header_words.ensures)) c.if-sums-3.false)
