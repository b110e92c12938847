-- `SeqnSegment::write` meets its contract: two runs of stores, joined, over the whole of the array.
use mathlib.Core.Path.{sym}
use native.Mathlib.Omega.{arith}
use Rattle.laws.proofs.PutLaws.{put_then, put_whole}
use Rattle.field.proofs.BigEndianLaws.{bytes_length}
use Rattle.small_chunks.specs.Sequence.{segment_bytes}
use Rattle.small_chunks.proofs.FieldLaws.{segment_length_lem}
use Rattle.small_chunks.proofs.sequence.SeqnSegment.write.Goals as goal

pub put32-requires : goal.put32-requires
put32-requires c = omega (arith, simp bytes_length at c.put32-at.ensures.end)

pub returns : goal.returns
unfolding segment_bytes
returns c =
    put_whole (sym (segment_length_lem _)) (put_then c.put32-at.ensures c.put32.ensures)
