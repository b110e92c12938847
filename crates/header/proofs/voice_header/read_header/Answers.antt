-- `header::read_header` meets its contract: a field of the bytes from a place on is read that much further on.
use lib.Seq.{get_or-drop, drop-drop}
use Rattle.header.specs.Header.{header_of}
use Rattle.header.proofs.voice_header.read_header.Goals as goal

pub returns : goal.returns
unfolding header_of
returns c = simp (drop-drop, get_or-drop) (cc)
