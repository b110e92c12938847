-- `body_read::decode::decode_channel` meets its contract: the count says what the channel gives, and the test whether it fits.
use mathlib.Core.Path.{sym, ◌∙◌}
use Rattle.refusal.proofs.OutcomeLaws.{outcome_fits}
use Rattle.body_read.proofs.ChannelLaws.{channel_gives}
use Rattle.body_read.proofs.decode.decode_channel.Goals as goal

pub decode_stream-requires : goal.decode_stream-requires
decode_stream-requires c =
    let a = c.args in
    let channel = channel_gives a.h a.c a.bytes.now c.in_ok-n.n (sym c.channel_length.ensures ∙ c.in_ok-n.was) in
    (channel.has, c.if-out-n.false)

pub returns-clause-buffer : goal.returns-clause-buffer
returns-clause-buffer c =
    let a = c.args in
    let channel = channel_gives a.h a.c a.bytes.now c.in_ok-n.n (sym c.channel_length.ensures ∙ c.in_ok-n.was) in
    (outcome_fits _ a.out.now _ channel.is _ (sym channel.long) _ c.if-out-n.false c.decode_stream.ensures).1
