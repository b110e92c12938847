-- The product fits by what is asked, and the quotient is no larger.
use mathlib.Core.Path.{◌≡◌}
use borrow.Author.Rules.{rules}
use lib.IntN.{pos, ◌*ℤ◌}
use lib.Signed.{quot_z}
use mir.Syntax.{w64}
use mir.Val.{SFits, to_z, of_z}
use mir.Facts.{to_z-of_z, to_z_pos}
use Rattle.laws.proofs.Signed.{zarith, times, quot}
use Rattle.envelope.specs.Level.{scaled_by}
use Rattle.envelope.proofs.level.scaled_wide.Goals as goal

module _ (c : goal.Start) where
  x_is : to_z w64 (of_z w64 c.args.x) ≡ c.args.x
  x_is = to_z-of_z c.ranges.x

  n_is : to_z w64 c.args.n ≡ pos c.args.n
  n_is = to_z_pos w64 (search rules)

  d_is : to_z w64 c.args.d ≡ pos c.args.d
  d_is = to_z_pos w64 (search rules)

  product_fits : SFits w64 (c.args.x *ℤ pos c.args.n)
  product_fits = omega (zarith, times c.args.x c.args.n)

  quotient_fits : SFits w64 (quot_z (c.args.x *ℤ pos c.args.n) (pos c.args.d))
  quotient_fits = omega (zarith, times c.args.x c.args.n, quot (c.args.x *ℤ pos c.args.n) c.args.d)

pub returns : goal.returns
unfolding scaled_by
returns c = rw (x_is c, n_is c, to_z-of_z (product_fits c), d_is c) (to_z-of_z (quotient_fits c))
