-- What a file says of a voice, its samples aside.
use Rattle.std.specs.Prelude.{ℕ, List, Bool, true, false, None, Option, Some}
use Rattle.header.specs.declared.voice_header.VoiceHeader.{VoiceHeader}
use Rattle.small_chunks.specs.declared.channel.ChannelAssignment.{ChannelAssignment}
use Rattle.small_chunks.specs.declared.channel.ChannelAssignment.TheVariants.{Left, Right, Stereo}
use Rattle.small_chunks.specs.declared.pan.Pan.{Pan}
use Rattle.small_chunks.specs.declared.points.EgPoint.{EgPoint}
use Rattle.small_chunks.specs.declared.sequence.SeqnSegment.{SeqnSegment}
use Rattle.small_chunks.specs.declared.sequence.Fade.{Fade}

-- a text: its key (title, artist, comment, copyright, characters are 1 to 5) and its bytes
pub record Text : Type 0 where
  pub key : ℕ
  pub bytes : List ℕ

-- a voice: attacks and releases are lists of points, one list for each chunk; texts are in file order
pub record Voice : Type 0 where
  pub header : VoiceHeader
  pub channel : Option ChannelAssignment
  pub pan : Option Pan
  pub attacks : List (List EgPoint)
  pub releases : List (List EgPoint)
  pub sequence : Option (List SeqnSegment)
  pub fade : Option Fade
  pub texts : List Text

-- two channels, which CHAN alone says; without it there is one
abbrev pub is_stereo : Option ChannelAssignment → Bool
is_stereo None = false
is_stereo (Some Left) = false
is_stereo (Some Right) = false
is_stereo (Some Stereo) = true
