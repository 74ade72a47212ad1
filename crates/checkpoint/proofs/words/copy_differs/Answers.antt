-- `check::copy_differs` meets its contract, by those of `head_of` and `ends_of`.
use Rattle.checkpoint.proofs.words.copy_differs.Goals as goal

pub returns : goal.returns
returns c = rw (c.head_of.ensures, c.ends_of.ensures)
