use Rattle.std.proofs.Common.{◌∙◌, to_z-of_z, w32}
use Rattle.field.proofs.SignedLaws.{bits_are}
use Rattle.field.proofs.signed.bits_of_i32.Goals as goal

pub returns : goal.returns
returns c = rw (to_z-of_z c.ranges.z) at c.cast_unsigned.ensures ∙ bits_are w32 _
