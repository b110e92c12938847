-- The sum with the point that came, and the points past it, make what the points that were left made with the sum before.
use mathlib.Core.Path.{◌∙◌}
use Prim.Native.Nat.{◌<◌}
use lib.ListN.{length}
use native.Mathlib.Omega.{arith}
use Rattle.std.specs.Slice.Iter.{chunks_exact_rest}
use Rattle.envelope.proofs.LevelLaws.{total_more, total_none}
use Rattle.envelope.proofs.total_duration_ms.Goals as goal

pub loop-point-preserved : goal.loop-point-preserved
loop-point-preserved c =
    let steps = c.in-Some.ensures.steps in
    let more = total_more c.read_point.result _ _ _ c.read_point.ensures steps.1.0 (steps.1.1 ∙ c.loop-point.invariant.2) in
    (omega (arith, more, c.saturating_add-sum.ensures, c.from-duration.ensures, c.loop-point.invariant.0), omega arith, steps.0 ∙ c.loop-point.invariant.2)

pub returns : goal.returns
returns c =
    let short : length (chunks_exact_rest c.loop-point.point-iterator) < 6 = omega (arith, c.in-None.ensures.steps.1.0, c.loop-point.invariant.2) in
    omega (arith, c.loop-point.invariant.0, total_none _ short)
