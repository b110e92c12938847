-- CHAN: on which speaker a mono voice plays, or that there are two channels.
use Rattle.std.specs.Prelude.{ℕ, Bool, true, false, cond, List, eqb, ltb, length, Err, Ok}
use Rattle.field.specs.BigEndian.{big_endian}
use Rattle.small_chunks.specs.declared.channel.ChannelAssignment.{ChannelAssignment}
use Rattle.small_chunks.specs.declared.channel.ChannelAssignment.TheVariants.{Left, Right, Stereo}
use Rattle.refusal.specs.declared.Refusal.TheVariants.{ChunkLength, ChannelValue}
use Rattle.refusal.specs.Outcome.{Outcome}

-- 2 is left, 4 is right, 6 is both, and any other value is refused by 7
abbrev pub channel_of : ℕ → Outcome ChannelAssignment
channel_of v =
    cond (eqb v 2) (Ok Left) (cond (eqb v 4) (Ok Right) (cond (eqb v 6) (Ok Stereo) (Err ChannelValue)))

-- there is an assignment
abbrev pub is_parsed : Outcome ChannelAssignment → Bool
is_parsed (Ok c) = true
is_parsed (Err refusal) = false

-- the values of CHAN: those that stand for an assignment
abbrev pub is_channel : ℕ → Bool
is_channel v = is_parsed (channel_of v)

-- the value of an assignment
abbrev pub channel_value_of : ChannelAssignment → ℕ
channel_value_of Left = 2
channel_value_of Right = 4
channel_value_of Stereo = 6

-- how many channels BODY has
abbrev pub channel_count : ChannelAssignment → ℕ
channel_count Left = 1
channel_count Right = 1
channel_count Stereo = 2

-- a chunk under 4 bytes is refused by 6, before its value is looked at
abbrev pub parsed_channel : List ℕ → Outcome ChannelAssignment
parsed_channel l = cond (ltb (length l) 4) (Err ChunkLength) (channel_of (big_endian 4 l))
