-- `body_write::put_body` meets its contract: the head, the channels and the pad, joined.
use native.Mathlib.Omega.{arith}
use Rattle.chunk.proofs.WriteLaws.{head_end, chunk_put}
use Rattle.body_write.proofs.put_body.Goals as goal

pub put_channels-p-requires : goal.put_channels-p-requires
put_channels-p-requires c =
    let put = c.put_head-o in
    (omega arith, omega arith, omega (arith, head_end _ _ put.ensures, put.auto.d))

pub put_pad-requires : goal.put_pad-requires
put_pad-requires c = omega (arith, c.put_channels-p.ensures.end, head_end _ _ c.put_head-o.ensures)

pub returns : goal.returns
returns c =
    chunk_put _ _ _ c.body_length-n.ensures.0
    c.put_head-o.ensures
    c.put_channels-p.ensures
    c.put_pad.ensures
