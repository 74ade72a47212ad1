-- `entries::entry_at` meets its contract: each field is what the callee for it ensures.
use Rattle.rule.proofs.entries.entry_at.Goals as goal

pub returns : goal.returns
returns c = cc
