-- `since::take_word` meets its contract, by the laws of proofs/Newest.
use mathlib.Core.Path.{◌∙◌}
use Rattle.rule.specs.Words.{ring_words}
use Rattle.since.proofs.Newest.{takes_low}
use Rattle.trace.specs.Format.{time_at}
use Rattle.since.proofs.take_word.Goals as goal

pub returns : goal.returns
returns c =
    let a = c.args in
    let held = rw c.cells_for.ensures.0 at c.newest-newest.ensures in
    takes_low c.unwrap_or-first.result c.find_alive-alive.result c.keep_reached-answers.result c.newest_marked.result c.is_some.result c.test-last.result
    (λ qs r. c.is_some.ensures ∙ held.some qs r)
    (λ qs r. (rw c.time.ensures.0 at c.unwrap_or-first.ensures) ∙ held.value (time_at a.window.now 0) qs r)
    (rw c.flag-begun.ensures at c.find_alive-alive.ensures)
    c.keep_reached-answers.ensures
    c.requires.2
    c.test-last.ensures
    c.newest_marked.ensures.0
    (c.put_one.ensures (ring_words a.high))
