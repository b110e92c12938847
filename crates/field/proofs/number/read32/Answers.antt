use Rattle.std.proofs.Common.{arith}
use Rattle.field.proofs.BigEndianLaws.{number32_at}
use Rattle.field.proofs.number.read32.Goals as goal

pub returns : goal.returns
returns c = rw number32_at (omega arith)
