-- A share is at most the whole, so a 16-bit value stays one.
use mathlib.Core.Path.{◌≡◌, ◌∙◌}
use mir.Syntax.{w16, w32}
use mir.Val.{SFits, to_z, of_z}
use mir.Facts.{to_z-of_z}
use Rattle.laws.proofs.Signed.{back}
use Rattle.envelope.specs.Level.{scaled_by}
use Rattle.envelope.proofs.ScaleLaws.{scaled_fits}
use Rattle.note_frame.proofs.chain.on_side.Goals as goal

result_is : (c : goal.After-scaled) → to_z w32 (of_z w32 c.scaled.result) ≡ scaled_by c.args.x c.args.share 65536
result_is c = back w32 c.scaled.type_inv ∙ rw (to_z-of_z c.ranges.x) at c.scaled.ensures

fits : (s : goal.After-scaled) → SFits w16 (scaled_by s.args.x s.args.share 65536)
fits s = scaled_fits s.args.x s.args.share 65536 s.requires.1 s.requires.0

pub overflow_cast-result : goal.overflow_cast-result
overflow_cast-result c = rw (result_is c) (fits c)

pub returns : goal.returns
returns c = rw (result_is c) (to_z-of_z (fits c))
