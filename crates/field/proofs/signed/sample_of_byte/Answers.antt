use Rattle.std.proofs.Common.{◌∙◌, w8}
use Rattle.laws.proofs.Signed.{back}
use Rattle.field.proofs.SignedLaws.{read_is}
use Rattle.field.proofs.signed.sample_of_byte.Goals as goal

pub returns : goal.returns
returns c = back w8 c.cast_signed.type_inv ∙ c.cast_signed.ensures ∙ read_is w8 _
