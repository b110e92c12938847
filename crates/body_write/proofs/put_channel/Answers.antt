-- `body_write::put_channel` meets its contract: what a writer stored in the part from `at` on is stored at `at` of the whole.
use Rattle.body_write.proofs.BodyBytesLaws.{channel_raw, channel_fibonacci}
use Rattle.body_write.proofs.PartLaws.{part_put}
use Rattle.body_write.specs.BodyBytes.{channel_bytes}
use Rattle.body_write.proofs.put_channel.Goals as goal

pub returns-in-None : goal.returns-in-None
returns-in-None c =
    let samples = c.args.samples.now in
    part_put
    (channel_bytes c.args.c samples) c.args.d.now c.args.at _
    c.channel_length.ensures.0
    c.requires.1 _ _
    (channel_raw c.args.c samples c.in-None.is)
    c.encode_raw.ensures.buffer

pub returns-in-Fibonacci : goal.returns-in-Fibonacci
returns-in-Fibonacci c =
    let samples = c.args.samples.now in
    part_put
    (channel_bytes c.args.c samples) c.args.d.now c.args.at _
    c.channel_length.ensures.0
    c.requires.1 _ _
    (channel_fibonacci c.args.c samples c.in-Fibonacci.is)
    c.fibonacci_encode_channel.ensures.buffer
