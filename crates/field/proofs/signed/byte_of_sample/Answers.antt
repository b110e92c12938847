use Rattle.std.proofs.Common.{◌∙◌, to_z-of_z, w8}
use Rattle.field.proofs.SignedLaws.{bits_are}
use Rattle.field.proofs.signed.byte_of_sample.Goals as goal

pub returns : goal.returns
returns c = rw (to_z-of_z c.ranges.s) at c.cast_unsigned.ensures ∙ bits_are w8 _
