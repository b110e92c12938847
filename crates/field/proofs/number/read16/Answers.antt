use Rattle.std.proofs.Common.{arith}
use Rattle.field.proofs.BigEndianLaws.{number16_at}
use Rattle.field.proofs.number.read16.Goals as goal

pub returns : goal.returns
returns c = rw number16_at (omega arith)
