-- `body_write::body_length` meets its contract: the lengths of the channels, of two or of one.
use native.Mathlib.Omega.{arith}
use Rattle.body_write.proofs.BodyBytesLaws.{two_length, one_length_lem}
use Rattle.body_write.proofs.body_length.Goals as goal

pub returns-then-stereo : goal.returns-then-stereo
returns-then-stereo c =
    let a = c.args in
    let both = two_length a.c a.stereo a.left.now a.right.now c.if-stereo.true in
    (omega (arith, both, c.channel_length-n.ensures, c.channel_length.ensures), omega (arith, c.channel_length-n.ensures, c.channel_length.ensures))

pub returns : goal.returns
returns c =
    let a = c.args in
    let one = one_length_lem a.c a.stereo a.left.now a.right.now c.if-stereo.false in
    (omega (arith, one, c.channel_length-n.ensures), omega (arith, c.channel_length-n.ensures))
