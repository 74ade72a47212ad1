-- `window::copy_pair` meets its contract: the sixteen bytes written are the two records'. Assumes nothing.
use Prim.Native.Nat.{ℕ, ◌+◌, ◌<◌}
use native.Mathlib.Omega.{arith}
use lib.ListN.{get_or}
use Rattle.window.proofs.Windows.{copied_by, transcribed_one, transcribed_more}
use Rattle.window.proofs.copy_pair.Goals as goal

pub returns : goal.returns
returns c =
    let a = c.args in
    let s = a.records.now in
    let byte : (j : ℕ) → get_or s j 0 < 256 = λ j. (c.type_inv.records j).fits in
    let first = c.put_record in
    let one =
    transcribed_one s a.i a.k a.copy.now (omega arith) (omega arith)
    (copied_by s a.i a.k a.copy.now (omega arith) (omega arith) byte c.whole-first.ensures first.ensures) in
    let next =
    transcribed_one s (a.i + 1) (a.k + 1) first.new.copy (omega arith) (omega (arith, one.long))
    (copied_by s (a.i + 1) (a.k + 1) first.new.copy (omega arith) (omega (arith, one.long)) byte c.whole-second.ensures c.put_record-2.ensures) in
    transcribed_more s a.i 1 1 a.k one next
