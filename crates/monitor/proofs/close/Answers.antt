-- `monitor::close` meets its contract, which is that of `resume_or_close`.
use Rattle.monitor.proofs.close.Goals as goal

pub returns : goal.returns
returns c = c.resume_or_close.ensures
