-- `wave::values::value_of` meets its contract: from -128 on the sum isn't negative, and up to 127 it fits a byte.
use mathlib.Core.Path.{◌≡◌, ap}
use lib.IntN.{pos, nat_abs, ◌+ℤ◌}
use mir.Syntax.{w8, w16}
use mir.Val.{SFits, to_z, of_z}
use mir.Facts.{to_z-of_z}
use Rattle.laws.proofs.Signed.{zarith, known, sum, widened}
use Rattle.wave.specs.Wave.{value_of}
use Rattle.wave.proofs.values.value_of.Goals as goal

-- the sum fits 16 bits
fits : (c : goal.Start) → SFits w16 (c.args.s +ℤ pos 128)
fits c = omega (zarith, known c.ranges.s, sum c.args.s (pos 128))

-- the sum as the code has it
sum_is : (c : goal.Start) → to_z w16 (of_z w16 (to_z w16 (of_z w16 (to_z w8 (of_z w8 c.args.s))) +ℤ pos 128)) ≡ c.args.s +ℤ pos 128
sum_is c = rw (widened w8 w16 tt c.ranges.s) (to_z-of_z (fits c))

pub returns : goal.returns
unfolding value_of
returns c = ap nat_abs (sum_is c)
