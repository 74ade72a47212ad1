-- `check::is_other_version` meets its contract, by those of the functions that it calls.
use Rattle.checks.proofs.is_other_version.Goals as goal

pub returns : goal.returns
returns c = simp (c.log_kind.ensures, c.skips.ensures)
