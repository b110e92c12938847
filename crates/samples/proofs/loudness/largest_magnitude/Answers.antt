use mathlib.Core.Path.{ap, ◌∙◌}
use native.Mathlib.Omega.{arith}
use lib.IntN.{pos, nat_abs}
use lib.ListN.{get_or}
use mir.Syntax.{w8}
use Rattle.laws.proofs.Signed.{back}
use Rattle.samples.specs.Peak.{loudest}
use Rattle.samples.proofs.PeakLaws.{loudest_more}
use Rattle.samples.proofs.loudness.largest_magnitude.Goals as goal

pub loop-s-init : goal.loop-s-init
unfolding loudest
loop-s-init c = omega arith

pub loop-s-preserved : goal.loop-s-preserved
loop-s-preserved c =
    let xs = c.args.samples.now in
    let i = c.loop-s.s-index in
    let magnitude = c.unsigned_abs.ensures.value ∙ ap nat_abs (back w8 {z = get_or xs i (pos 0)} (omega arith)) in
    omega (arith, magnitude, loudest_more xs i (omega arith))
