-- `chunk::write::put_chunk` meets its contract: the head, the payload and the pad, joined.
use mathlib.Core.Path.{refl}
use native.Mathlib.Omega.{arith}
use Rattle.chunk.proofs.WriteLaws.{head_end, chunk_put}
use Rattle.chunk.proofs.write.put_chunk.Goals as goal

pub put_all-p-requires : goal.put_all-p-requires
put_all-p-requires c = omega (arith, head_end _ _ c.put_head-o.ensures)

pub put_pad-requires : goal.put_pad-requires
put_pad-requires c = omega (arith, c.put_all-p.ensures.end, head_end _ _ c.put_head-o.ensures)

pub returns : goal.returns
returns c =
    chunk_put _ _ _ refl
    c.put_head-o.ensures
    c.put_all-p.ensures
    c.put_pad.ensures
