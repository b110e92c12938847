-- The level lies between the two, so it fits again.
use mathlib.Core.Path.{◌≡◌, ◌∙◌}
use native.Mathlib.Omega.{arith}
use lib.IntN.{◌-ℤ◌}
use mir.Syntax.{w32, w64}
use mir.Val.{SFits, to_z, of_z}
use mir.Facts.{to_z-of_z, sfits_widen}
use Rattle.laws.proofs.Signed.{zarith, known, diff, widened, back}
use Rattle.envelope.specs.Level.{scaled_by, on_the_way}
use Rattle.envelope.proofs.ScaleLaws.{way_fits}
use Rattle.envelope.proofs.level.on_the_way.Goals as goal

module _ (s : goal.After-scaled_wide) where
  level_is : to_z w64 (of_z w64 (to_z w32 (of_z w32 s.args.level))) ≡ s.args.level
  level_is = widened w32 w64 tt s.ranges.level

  dest_is : to_z w64 (of_z w64 (to_z w32 (of_z w32 s.args.dest))) ≡ s.args.dest
  dest_is = widened w32 w64 tt s.ranges.dest

  rise_fits : SFits w64 (s.args.dest -ℤ s.args.level)
  rise_fits = omega (zarith, known s.ranges.level, known s.ranges.dest, diff s.args.dest s.args.level)

  result_fits : SFits w32 (on_the_way s.args.level s.args.dest s.args.into s.args.d)
  result_fits = way_fits _ _ _ _ s.ranges.level s.ranges.dest (omega arith)

-- the sum, as the machine reads it back
sum_is : (c : goal.After-scaled_wide) → to_z w64 (of_z w64 (to_z w32 (of_z w32 c.args.level))) ≡ c.args.level
sum_is c = level_is c

step_is : (c : goal.After-scaled_wide) → to_z w64 (of_z w64 c.scaled_wide.result) ≡ scaled_by (c.args.dest -ℤ c.args.level) c.args.into c.args.d
step_is c = back w64 c.scaled_wide.type_inv ∙ rw (level_is c, dest_is c, to_z-of_z (rise_fits c)) at c.scaled_wide.ensures

pub overflow_add-result : goal.overflow_add-result
unfolding on_the_way
overflow_add-result c = rw (sum_is c, step_is c) (sfits_widen tt (result_fits c))

pub overflow_cast-result : goal.overflow_cast-result
unfolding on_the_way
overflow_cast-result c = rw (sum_is c, step_is c, to_z-of_z {w = w64} (sfits_widen tt (result_fits c))) (result_fits c)

pub returns : goal.returns
unfolding on_the_way
returns c = rw (sum_is c, step_is c, to_z-of_z {w = w64} (sfits_widen tt (result_fits c))) (to_z-of_z (result_fits c))
