-- `havdrims::havdrims_explain` meets its contract: each outcome of `explain` by one law.
use Rattle.havdrims.proofs.Outcomes.{is_explained, not_explained}
use Rattle.havdrims.proofs.havdrims_explain.Goals as goal

pub returns-in-Ok : goal.returns-in-Ok
returns-in-Ok c = is_explained c.in-Ok.ensures

pub returns-in-Err : goal.returns-in-Err
returns-in-Err c = not_explained c.in-Err.refusal c.in-Err.ensures c.number.ensures.0
