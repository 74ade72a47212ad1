-- The cycle of calls {tell, tell_either}. An or's operands are told by the function that tells of any entry, and their entries are earlier
-- ones: the measures are k * 2 + 1 and k * 2.
use Prim.Native.Nat.{◌+◌, ◌*◌}
use Rattle.telling.proofs.+tell_tell_either.Given as goal

abbrev pub decreases-tell : goal.decreases-tell
decreases-tell l = l.k * 2 + 1

abbrev pub decreases-tell_either : goal.decreases-tell_either
decreases-tell_either l = l.k * 2
