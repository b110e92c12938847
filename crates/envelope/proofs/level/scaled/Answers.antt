-- Where all is taken the result is x; else it is no larger than x, so it fits again.
use mathlib.Core.Path.{◌≡◌, ◌∙◌}
use mir.Syntax.{w32, w64}
use mir.Val.{SFits, to_z, of_z}
use mir.Facts.{to_z-of_z}
use Rattle.laws.proofs.Signed.{widened, back}
use Rattle.envelope.specs.Level.{scaled_by}
use Rattle.envelope.proofs.ScaleLaws.{scaled_fits, scaled_whole}
use Rattle.envelope.proofs.level.scaled.Goals as goal

x_is : (s : goal.After-scaled_wide) → to_z w64 (of_z w64 (to_z w32 (of_z w32 s.args.x))) ≡ s.args.x
x_is s = widened w32 w64 tt s.ranges.x

fits : (s : goal.After-scaled_wide) → SFits w32 (scaled_by s.args.x s.args.n s.args.d)
fits s = scaled_fits s.args.x s.args.n s.args.d s.requires.0 s.ranges.x

result_is : (c : goal.After-scaled_wide) → to_z w64 (of_z w64 c.scaled_wide.result) ≡ scaled_by c.args.x c.args.n c.args.d
result_is c = back w64 c.scaled_wide.type_inv ∙ rw (x_is c) at c.scaled_wide.ensures

pub returns-then-n-d : goal.returns-then-n-d
returns-then-n-d c =
    to_z-of_z c.ranges.x ∙ scaled_whole c.args.x c.args.n c.args.d c.requires.1 c.if-n-d.true

pub overflow_cast-result : goal.overflow_cast-result
overflow_cast-result c = rw (result_is c) (fits c)

pub returns : goal.returns
returns c = rw (result_is c) (to_z-of_z (fits c))
