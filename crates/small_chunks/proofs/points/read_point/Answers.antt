-- `read_point` meets its contract, by those of its two calls.
use lib.Seq.{drop-drop}
use mir.Syntax.{w32}
use Rattle.laws.proofs.Signed.{back}
use Rattle.small_chunks.specs.Envelope.{point_of}
use Rattle.small_chunks.proofs.points.read_point.Goals as goal

pub returns : goal.returns
unfolding point_of
returns c = rw (back w32 c.read_i32.type_inv, c.read_i32.ensures, c.read16.ensures, drop-drop)
