-- `body_write::put_channels` meets its contract: the left channel, and the right one from where it ended.
use native.Mathlib.Omega.{arith}
use Rattle.body_write.proofs.BodyBytesLaws.{body_length_lem, two_length, body_two, body_one}
use Rattle.laws.proofs.PutLaws.{put_then}
use Rattle.body_write.proofs.put_channels.Goals as goal

pub put_channel-o-requires : goal.put_channel-o-requires
put_channel-o-requires c =
    let a = c.args in
    (omega arith, omega (arith, body_length_lem a.c a.stereo a.left.now a.right.now))

pub put_channel-requires : goal.put_channel-requires
put_channel-requires c =
    let a = c.args in
    let put = c.put_channel-o in
    let both = two_length a.c a.stereo a.left.now a.right.now c.if-stereo.true in
    (omega arith, omega (arith, both, put.ensures.end, put.auto.d))

pub returns-then-stereo : goal.returns-then-stereo
returns-then-stereo c =
    rw (body_two _ _ _ _ c.if-stereo.true)
    (put_then c.put_channel-o.ensures c.put_channel.ensures)

pub returns : goal.returns
returns c = rw (body_one _ _ _ _ c.if-stereo.false) c.put_channel-o.ensures
