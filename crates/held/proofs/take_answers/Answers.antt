-- `take_answers` meets its contract: what is stored, by the contracts of the functions that count.
use native.Mathlib.Omega.{arith}
use lib.ListN.{length-set}
use Rattle.held.proofs.take_answers.Goals as goal

pub bounds-words-held-3 : goal.bounds-words-held-3
bounds-words-held-3 c = simp length-set (omega arith)

pub returns : goal.returns
returns c =
    simp (c.rest.ensures, c.later_end-after.ensures, c.find_last_zero-last.ensures.0, c.count_zeros.ensures.0)
