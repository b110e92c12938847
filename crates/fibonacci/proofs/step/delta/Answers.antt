-- The table of the code is that of the definition, and each delta fits a signed byte.
use mir.Facts.{to_z-of_z}
use Rattle.fibonacci.specs.Step.{deltas}
use Rattle.fibonacci.proofs.StepLaws.{delta_fits}
use Rattle.fibonacci.proofs.step.delta.Goals as goal

pub returns : goal.returns
unfolding deltas
returns c = to_z-of_z (delta_fits c.args.nibble c.requires)
