use Rattle.std.proofs.Common.{◌∙◌, ap, w32}
use Rattle.laws.proofs.Signed.{back}
use Rattle.field.specs.Signed.{signed32}
use Rattle.field.proofs.number.read_i32.Goals as goal

pub returns : goal.returns
returns c = back w32 c.i32_of_bits.type_inv ∙ c.i32_of_bits.ensures ∙ ap signed32 c.read32.ensures
