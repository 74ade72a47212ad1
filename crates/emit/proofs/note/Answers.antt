-- `note` meets its contract: what is stored, by the contracts of the functions that look at the records.
use Prim.Native.Nat.{suc, ◌+◌, ◌-◌}
use native.Mathlib.Omega.{arith}
use mathlib.Core.Bool.{cond}
use mathlib.Core.Path.{◌≡◌, refl}
use lib.ListN.{length-set}
use Rattle.trace.specs.Format.{record_count}
use Rattle.trace.specs.Order.{last_time}
use Rattle.window.specs.View.{closed}
use Rattle.checkpoint.specs.Checkpoint.{seen, last, first_wanted, kind_of_log}
use Rattle.emit.proofs.note.Goals as goal

pub bounds-words-2-2 : goal.bounds-words-2-2
bounds-words-2-2 c = simp length-set (omega arith)

pub bounds-words-5 : goal.bounds-words-5
bounds-words-5 c = simp length-set (omega arith)

pub bounds-words-6 : goal.bounds-words-6
bounds-words-6 c = simp length-set (omega arith)

pub returns : goal.returns
returns c =
    let a = c.args in
    let s = a.records.now in
    let ws = a.words.now in
    let time : c.last_time.result ≡ last_time s (seen ws - first_wanted ws) (last ws) = rw c.saturating_sub-seen.ensures at c.last_time.ensures in
    let ended : c.closed_with.result ≡ cond (closed a.view.now) (suc (first_wanted ws + record_count s)) 0 =
    rw c.count.ensures at c.closed_with.ensures in
    let kind : c.log_kind.result ≡ kind_of_log a.skips = c.log_kind.ensures in (
      c.find.result,
      rw (c.saturating_sub-left.ensures, c.wanted_position-wanted.ensures) at c.find.ensures,
      rw (time, ended, kind, c.count.ensures) refl,
    )
