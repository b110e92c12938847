-- `read_segment` meets its contract, by those of its two calls.
use lib.Seq.{drop-drop}
use Rattle.small_chunks.specs.Sequence.{segment_of}
use Rattle.small_chunks.proofs.sequence.read_segment.Goals as goal

pub returns : goal.returns
unfolding segment_of
returns c = rw (c.read32-2.ensures, c.read32.ensures, drop-drop)
