-- The shares of the sides: of one channel the pan's where there is one, else the channel's, and none above 65,536.
--     two_channels_lem, one_channel_lem  a side each, else by the pan, else by the channel: but for worked examples no other proof unfolds `shares_of`
--     SharesHeld, shares_held       no share is above 65,536
-- Assumes nothing.
use Prim.Native.Nat.{◌≤◌}
use mathlib.Core.Bool.{false}
use mathlib.Core.Path.{◌≡◌, refl}
use native.Mathlib.Omega.{arith}
use Rattle.small_chunks.specs.declared.channel.ChannelAssignment.{ChannelAssignment}
use Rattle.small_chunks.specs.declared.channel.ChannelAssignment.TheVariants.{Left, Right, Stereo}
use Rattle.small_chunks.specs.declared.pan.Pan.{Pan}
use Rattle.small_chunks.proofs.PanLaws.{held_le}
use Rattle.sheet.specs.Voice.{is_stereo}
use Rattle.note_frame.specs.Shares.{both_full, channel_shares, pan_else, shares_of}
use Rattle.note_frame.specs.declared.shares.Shares.{Shares}
use Rattle.std.specs.Prelude.{None, Option, Some}

pub two_channels_lem : (pan : Option Pan) → shares_of (Some Stereo) pan ≡ both_full
unfolding shares_of
two_channels_lem pan = refl

pub one_channel_lem : (channel : Option ChannelAssignment) (pan : Option Pan) → is_stereo channel ≡ false → shares_of channel pan ≡ pan_else pan (channel_shares channel)
unfolding shares_of
one_channel_lem channel pan e = rw e

-- neither share is above 65,536
abbrev pub SharesHeld : Shares → Type 0
SharesHeld s = (s.left ≤ 65536) × (s.right ≤ 65536)

pan_held : (pan : Option Pan) (given : Shares) → SharesHeld given → SharesHeld (pan_else pan given)
pan_held None given h = h
pan_held (Some p) given h = (held_le p.position, omega arith)

pub shares_held : (channel : Option ChannelAssignment) (pan : Option Pan) → SharesHeld (shares_of channel pan)
shares_held (Some Stereo) pan = rw (two_channels_lem pan) (omega arith, omega arith)
shares_held (Some Left) pan = rw (one_channel_lem (Some Left) pan refl) (pan_held pan _ (omega arith, omega arith))
shares_held (Some Right) pan = rw (one_channel_lem (Some Right) pan refl) (pan_held pan _ (omega arith, omega arith))
shares_held None pan = rw (one_channel_lem None pan refl) (pan_held pan _ (omega arith, omega arith))
