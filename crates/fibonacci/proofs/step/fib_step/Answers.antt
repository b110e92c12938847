-- A step is the sum of the sample before and the delta, by the contracts of the two calls.
use mathlib.Core.Path.{◌∙◌}
use mir.Syntax.{w8}
use mir.Facts.{to_z-of_z}
use Rattle.laws.proofs.Signed.{back}
use Rattle.fibonacci.specs.Step.{fib_step}
use Rattle.fibonacci.proofs.step.fib_step.Goals as goal

pub returns : goal.returns
unfolding fib_step
returns c =
    back w8 c.sample_sum.type_inv ∙ c.sample_sum.ensures ∙
    rw (to_z-of_z c.ranges.prev, back w8 c.delta.type_inv, c.delta.ensures)
