use Rattle.std.proofs.Common.{◌∙◌}
use Rattle.laws.proofs.PutLaws.{put_same}
use Rattle.field.proofs.LittleEndianLaws.{library_bytes}
use Rattle.field.proofs.little.put32_le.Goals as goal

pub returns : goal.returns
returns c = put_same (c.to_le_bytes.ensures ∙ library_bytes 4 _) c.put_all.ensures
