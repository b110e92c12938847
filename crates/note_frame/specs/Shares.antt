-- How much of a value each side gets: 65,536 is all of it.
use Rattle.std.specs.Prelude.{◌-◌, cond, None, Option, Some}
use Rattle.small_chunks.specs.Pan.{held_to_unity}
use Rattle.small_chunks.specs.declared.channel.ChannelAssignment.{ChannelAssignment}
use Rattle.small_chunks.specs.declared.channel.ChannelAssignment.TheVariants.{Left, Right, Stereo}
use Rattle.small_chunks.specs.declared.pan.Pan.{Pan}
use Rattle.sheet.specs.Voice.{is_stereo}
use Rattle.note_frame.specs.declared.shares.Shares.{Shares}

-- both sides in full
abbrev pub both_full : Shares
both_full = record { left = 65536; right = 65536 }

-- what a channel alone gives: on the left or on the right that side only, else both in full
abbrev pub channel_shares : Option ChannelAssignment → Shares
channel_shares (Some Left) = record { left = 65536; right = 0 }
channel_shares (Some Right) = record { left = 0; right = 65536 }
channel_shares (Some Stereo) = both_full
channel_shares None = both_full

-- a pan is left's share, held within 0..65,536, and right has the rest
abbrev pub pan_shares : Pan → Shares
pan_shares p = record { left = held_to_unity p.position; right = 65536 - held_to_unity p.position }

-- a pan decides where it is there, else it goes as given
abbrev pub pan_else : Option Pan → Shares → Shares
pan_else (Some p) given = pan_shares p
pan_else None given = given

-- two channels have a side each and don't look at the pan; of one channel the pan decides where it is there, else the channel
unfoldable pub shares_of : Option ChannelAssignment → Option Pan → Shares
shares_of channel pan = cond (is_stereo channel) both_full (pan_else pan (channel_shares channel))
