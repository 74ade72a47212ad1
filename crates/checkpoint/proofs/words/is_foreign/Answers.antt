-- `check::is_foreign` meets its contract, by that of `copy_start`.
use Rattle.checkpoint.proofs.words.is_foreign.Goals as goal

pub returns : goal.returns
returns c = rw c.copy_start.ensures
