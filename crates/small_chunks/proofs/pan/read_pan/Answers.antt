-- `read_pan` meets its contract, by that of its call.
use mir.Syntax.{w32}
use Rattle.laws.proofs.Signed.{back}
use Rattle.small_chunks.specs.Pan.{pan_of}
use Rattle.small_chunks.proofs.pan.read_pan.Goals as goal

pub returns : goal.returns
unfolding pan_of
returns c = rw (back w32 c.read_i32.type_inv, c.read_i32.ensures)
