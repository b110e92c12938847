use Rattle.std.proofs.Common.{◌∙◌}
use Rattle.field.proofs.BigEndianLaws.{library_bytes}
use Rattle.field.proofs.number.bytes32.Goals as goal

pub returns : goal.returns
returns c = c.to_be_bytes.ensures ∙ library_bytes 4 _
