use Rattle.std.proofs.Common.{◌∙◌}
use Rattle.laws.proofs.PutLaws.{put_same}
use Rattle.field.proofs.BigEndianLaws.{library_bytes}
use Rattle.field.proofs.number.put32.Goals as goal

pub returns : goal.returns
returns c = put_same (c.to_be_bytes.ensures ∙ library_bytes 4 _) c.put_all.ensures
