-- `note_frame::shares::side_shares` meets its contract: two channels by their channel, one by the pan, else by the channel.
use mathlib.Core.Path.{◌≡◌, refl, sym, ap, ◌∙◌}
use Rattle.small_chunks.specs.declared.channel.ChannelAssignment.{ChannelAssignment}
use Rattle.small_chunks.specs.declared.channel.ChannelAssignment.TheVariants.{Left, Right, Stereo}
use Rattle.note_frame.specs.Shares.{shares_of}
use Rattle.note_frame.proofs.SharesLaws.{two_channels_lem, one_channel_lem}
use Rattle.note_frame.proofs.shares.side_shares.Goals as goal
use Rattle.small_chunks.specs.declared.pan.Pan.{Pan}
use Rattle.std.specs.Prelude.{Option, Some}

-- the shares by a channel that is known
named : (channel : Option ChannelAssignment) (pan : Option Pan) {c : ChannelAssignment} (k : ChannelAssignment) → channel ≡ Some c → c ≡ k
    → shares_of channel pan ≡ shares_of (Some k) pan
named channel pan k is e =
    ap (λ (o : Option ChannelAssignment). shares_of o pan) (is ∙ ap Some e)

pub returns-in-None : goal.returns-in-None
returns-in-None c = rw c.in-None.is (c.pan_else.ensures ∙ sym (one_channel_lem _ _ refl))

pub returns-in-Left : goal.returns-in-Left
returns-in-Left c = c.pan_else-in-Left.ensures ∙ sym (named c.args.channel c.args.pan Left c.in-Some.is c.in-Left.is ∙ one_channel_lem (Some Left) _ refl)

pub returns-in-Right : goal.returns-in-Right
returns-in-Right c = c.pan_else-in-Right.ensures ∙ sym (named c.args.channel c.args.pan Right c.in-Some.is c.in-Right.is ∙ one_channel_lem (Some Right) _ refl)

pub returns-in-Stereo : goal.returns-in-Stereo
returns-in-Stereo c = c.pan_else-in-Stereo.ensures ∙ sym (named c.args.channel c.args.pan Stereo c.in-Some.is c.in-Stereo.is ∙ two_channels_lem _)
