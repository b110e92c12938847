-- What it means that a pan comes before the channel: which shares and which frames it changes, and that it can put a voice on the other
-- side. It is proved as `pan_first`.
use Rattle.std.specs.Prelude.{ℕ, ◌↔◌, ◌⊎◌, ◌≡◌, pos, None, Option, Some}
use Rattle.small_chunks.specs.Pan.{held_to_unity}
use Rattle.small_chunks.specs.declared.channel.ChannelAssignment.{ChannelAssignment}
use Rattle.small_chunks.specs.declared.channel.ChannelAssignment.TheVariants.{Left, Right, Stereo}
use Rattle.small_chunks.specs.declared.pan.Pan.{Pan}
use Rattle.sheet.specs.Voice.{Voice}
use Rattle.body_read.specs.Sides.{Sides}
use Rattle.note_frame.specs.Frame.{frame}
use Rattle.note_frame.specs.Shares.{both_full, channel_shares, pan_else, shares_of}
use Rattle.note_frame.specs.declared.chain.Frame.{Frame}
use Rattle.note_frame.specs.declared.playing.Playing.{Playing}

-- the same voice with another channel and pan
abbrev pub routed : Voice → Option ChannelAssignment → Option Pan → Voice
routed v channel pan = record {
  header = v.header;
  channel = channel;
  pan = pan;
  attacks = v.attacks;
  releases = v.releases;
  sequence = v.sequence;
  fade = v.fade;
  texts = v.texts;
}

-- the voice without its pan
abbrev pub unpanned : Voice → Voice
unpanned v = routed v v.channel None

-- which channels and pans give the shares that the channel alone gives: with CHAN 2 the pan, clamped, is 65,536, with CHAN 4 it is 0; two
-- channels don't look at it, and without a CHAN every pan changes them
abbrev pub ChannelAlone : Option ChannelAssignment → Option Pan → Type 0
ChannelAlone channel None = Unit
ChannelAlone (Some Left) (Some p) = held_to_unity p.position ≡ 65536
ChannelAlone (Some Right) (Some p) = held_to_unity p.position ≡ 0
ChannelAlone (Some Stereo) (Some p) = Unit
ChannelAlone None (Some p) = ⊥

-- nothing on either side
abbrev pub Quiet : Frame → Type 0
Quiet f = (f.left ≡ pos 0) × (f.right ≡ pos 0)

-- heard on the left only: nothing on the right, and all else as CHAN 2 alone has it
pub record LeftOnly (v : Voice) (s : Sides) (n : Playing) (p : ℕ) : Type 0 where
  pub nothing_right : (frame v s n p).right ≡ pos 0
  pub as_left : frame v s n p ≡ frame (routed v (Some Left) None) s n p

-- the shares, and then the frames, with the pan and without it; a voice with a CHAN is without its pan what the CHAN makes of it
pub record PanFirst : Type 0 where
  -- the shares are what the channel alone gives exactly for these
  pub channel_alone : (channel : Option ChannelAssignment) (pan : Option Pan) → shares_of channel pan ≡ channel_shares channel ↔ ChannelAlone channel pan
  -- without a CHAN they are the pan's, or both in full
  pub no_channel : (pan : Option Pan) → shares_of None pan ≡ pan_else pan both_full
  -- a frame is as without the pan exactly for these too, and where nothing is on either side without it
  pub frames : (v : Voice) (s : Sides) (n : Playing) (p : ℕ)
      → frame v s n p ≡ frame (unpanned v) s n p ↔ ChannelAlone v.channel v.pan ⊎ Quiet (frame (unpanned v) s n p)
  -- it is over exactly where it is over without the pan, so that no count of frames hangs on the pan
  pub over : (v : Voice) (s : Sides) (n : Playing) (p : ℕ) → (frame v s n p).sounds ≡ (frame (unpanned v) s n p).sounds
  -- CHAN 4 with a pan that is 65,536, clamped, is heard on the left only, at every frame
  pub left_only : (v : Voice) (s : Sides) (n : Playing) (p : ℕ) (pan : Pan)
      → v.channel ≡ Some Right → v.pan ≡ Some pan → held_to_unity pan.position ≡ 65536 → LeftOnly v s n p
