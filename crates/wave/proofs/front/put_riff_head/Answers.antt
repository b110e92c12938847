-- `wave::front::put_riff_head` meets its contract: the name and the length, joined.
use native.Mathlib.Omega.{arith}
use Rattle.laws.proofs.PutLaws.{put_then, put_end}
use Rattle.field.proofs.BigEndianLaws.{bytes_length}
use Rattle.wave.specs.Riff.{riff_head}
use Rattle.wave.proofs.front.put_riff_head.Goals as goal

pub put32_le-requires : goal.put32_le-requires
put32_le-requires c = omega (arith, put_end (bytes_length 4 _) c.put32-named.ensures)

pub returns : goal.returns
unfolding riff_head
returns c = put_then c.put32-named.ensures c.put32_le.ensures
