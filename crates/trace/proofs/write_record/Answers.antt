-- `trace::write_record` meets its contract: the time's bytes and behind them those of the event set.
use Prim.Native.Nat.{ℕ, ◌+◌}
use mathlib.Core.List.{List}
use mathlib.Core.Path.{ap, ◌∙◌}
use native.Mathlib.Omega.{arith}
use Rattle.trace.specs.Making.{word_bytes, put}
use Rattle.trace.proofs.Making.{put_part, put_behind}
use Rattle.trace.proofs.write_record.Goals as goal

pub returns : goal.returns
returns c =
    let a = c.args in
    let time = c.copy_from_slice in
    let events = c.copy_from_slice-2 in
    put_part _ (a.at + 4) _ events.new.self (word_bytes a.events) (events.ensures.after ∙ c.to_be_bytes-2.ensures) (omega arith) ∙
    ap (λ (l : List ℕ). put l (a.at + 4) (word_bytes a.events)) (put_part a.log.now a.at _ time.new.self (word_bytes a.time) (time.ensures.after ∙ c.to_be_bytes.ensures) (omega arith)) ∙
    put_behind a.log.now a.at (word_bytes a.time) (word_bytes a.events) (omega arith)
