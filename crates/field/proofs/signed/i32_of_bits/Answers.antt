use Rattle.std.proofs.Common.{◌∙◌, w32}
use Rattle.laws.proofs.Signed.{back}
use Rattle.field.proofs.SignedLaws.{read_is}
use Rattle.field.proofs.signed.i32_of_bits.Goals as goal

pub returns : goal.returns
returns c = back w32 c.cast_signed.type_inv ∙ c.cast_signed.ensures ∙ read_is w32 _
