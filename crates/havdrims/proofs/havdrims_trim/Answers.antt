-- `havdrims::havdrims_trim` meets its contract: each outcome of `trim` by one law.
use Rattle.havdrims.proofs.Outcomes.{is_trimmed, not_trimmed}
use Rattle.havdrims.proofs.havdrims_trim.Goals as goal

pub returns-in-Ok : goal.returns-in-Ok
returns-in-Ok c = is_trimmed c.in-Ok.ensures

pub returns-in-Err : goal.returns-in-Err
returns-in-Err c = not_trimmed c.in-Err.refusal c.in-Err.ensures c.number.ensures.0
