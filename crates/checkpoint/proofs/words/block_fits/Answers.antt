-- `check::block_fits` meets its contract: the words from `at` on are those of the list behind it.
use native.Mathlib.Nat.{add-zero}
use lib.Seq.{get_or-drop}
use Rattle.checkpoint.proofs.words.block_fits.Goals as goal

pub returns : goal.returns
returns c = rw c.has_room.ensures (simp (get_or-drop, add-zero))
