-- `walks::walk_calm` meets its contract, by the laws of proofs/Over. Assumes nothing.
use native.Mathlib.Omega.{arith}
use Rattle.walks.proofs.Over.{calm_over, over_walk}
use Rattle.walks.proofs.walk_calm.Goals as goal

pub returns : goal.returns
returns c low high lead after start from calm =
    over_walk after calm.waiting calm.quiet (calm_over calm) (omega arith) c.take.result (λ z. absurd (omega arith)) (λ t. c.take.ensures)
