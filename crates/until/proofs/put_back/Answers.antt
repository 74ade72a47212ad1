-- `until::put_back` meets its contract: the stores are those of `walked`. Assumes nothing.
use native.Mathlib.Omega.{arith}
use lib.ListN.{length-set}
use Rattle.until.proofs.put_back.Goals as goal

pub bounds-block-6 : goal.bounds-block-6
bounds-block-6 c = simp length-set (omega arith)

pub bounds-block-7 : goal.bounds-block-7
bounds-block-7 c = simp length-set (omega arith)

pub bounds-block-8 : goal.bounds-block-8
bounds-block-8 c = simp length-set (omega arith)

pub bounds-block-11 : goal.bounds-block-11
bounds-block-11 c = simp length-set (omega arith)

pub bounds-block-16 : goal.bounds-block-16
bounds-block-16 c = simp length-set (omega arith)

pub returns : goal.returns
returns c = simp (c.take_both.ensures, c.flag.ensures, c.flag-2.ensures)
