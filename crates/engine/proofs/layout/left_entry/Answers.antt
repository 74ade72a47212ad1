-- `engine::layout::left_entry` meets its contract: the tests lead to the branches of its `cond`.
use Rattle.engine.proofs.layout.left_entry.Goals as goal

pub returns-then-takes : goal.returns-then-takes
returns-then-takes c = cc
