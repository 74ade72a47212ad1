-- What a letter reads, as a step: a batch, or open where the log has no more positions.
use Rattle.std.specs.Prelude.{Option, None, Some}
use Rattle.blocks.specs.declared.Batch.{Batch}
use Rattle.blocks.specs.declared.Step.{Step}
use Rattle.blocks.specs.declared.Step.TheVariants.{Batch as BatchStep, Open}

abbrev pub step_of : Option Batch → Step
step_of None = Open
step_of (Some a) = BatchStep a
