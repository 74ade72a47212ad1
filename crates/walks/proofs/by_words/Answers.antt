-- `walks::by_words` meets its contract: the first that waits is the first of the records. Assumes nothing.
use mathlib.Core.Bool.{true≢false}
use mathlib.Core.Path.{sym}
use Rattle.trace.specs.Format.{time_at}
use Rattle.walks.proofs.by_words.Goals as goal

pub returns-then-n-eq0 : goal.returns-then-n-eq0
returns-then-n-eq0 c e = absurd (true≢false (sym e))

pub returns : goal.returns
returns c e = c.by_first.ensures e (time_at c.args.starts.now) (sym c.time.ensures.0)
