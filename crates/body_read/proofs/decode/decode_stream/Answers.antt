-- `body_read::decode::decode_stream` meets its contract: in each arm the match says which compression it is, so what the stream has.
use mathlib.Core.Path.{◌∙◌}
use Rattle.body_read.proofs.ChannelLaws.{raw_written}
use Rattle.body_read.proofs.decode.decode_stream.Goals as goal

-- a raw stream has n bytes
pub returns-in-None : goal.returns-in-None
returns-in-None c =
    let has = rw c.in-None.is at c.requires.0 in
    rw c.in-None.is (c.decode_raw.ensures.buffer ∙ raw_written c.args.n c.args.bytes.now c.args.out.now has c.requires.1)
