-- What the code keeps of a voice from frame to frame, and a frame by that; `frame_gains` in the laws says that it is the frame. No reader
-- of the definition of a frame needs it.
use Rattle.std.specs.Prelude.{ℕ, ◌≤◌, ◌<◌, ◌^◌, true, false, cond, List, ◌≡◌, ℤ, pos, ◌*ℤ◌, take, get_or, None, Option, Some}
use Rattle.small_chunks.specs.declared.channel.ChannelAssignment.{ChannelAssignment}
use Rattle.small_chunks.specs.declared.pan.Pan.{Pan}
use Rattle.small_chunks.specs.declared.sequence.Fade.{Fade}
use Rattle.small_chunks.specs.declared.sequence.SeqnSegment.{SeqnSegment}
use Rattle.envelope.specs.Level.{scaled_by}
use Rattle.sheet.specs.Voice.{Voice, is_stereo}
use Rattle.note_path.specs.Path.{joined_length}
use Rattle.note_frame.specs.Frame.{volume_of, share_of, faded_from, silent}
use Rattle.note_frame.specs.declared.chain.Frame.{Frame}
use Rattle.note_frame.specs.declared.chain.Gains.{Gains}

-- ---- the gains of a voice

-- volume, velocity and shares, with no fade
abbrev pub unfaded : Voice → ℕ → Gains
unfaded v velocity = record {
  volume = volume_of v;
  velocity = velocity;
  left_share = (share_of v).left;
  right_share = (share_of v).right;
  stereo = is_stereo v.channel;
  fades = false;
  fade_start = 0;
  path_length = 0;
}

-- a fade starts where its segment begins on the path, and ends with the path
abbrev pub with_fade : Gains → Fade → List SeqnSegment → ℕ → Gains
with_fade g f segments k = record {
  volume = g.volume;
  velocity = g.velocity;
  left_share = g.left_share;
  right_share = g.right_share;
  stereo = g.stereo;
  fades = true;
  fade_start = joined_length (2 ^ k) (take f.segment segments);
  path_length = joined_length (2 ^ k) segments;
}

-- with a fade, where there are one and a sequence
abbrev pub faded_by : Gains → Option Fade → Option (List SeqnSegment) → ℕ → Gains
faded_by g (Some f) (Some segments) k = with_fade g f segments k
faded_by g (Some f) None k = g
faded_by g None sequence k = g

-- the gains of a voice in octave k, struck at a velocity
unfoldable pub gains_of : Voice → ℕ → ℕ → Gains
gains_of v k velocity = faded_by (unfaded v velocity) v.fade v.sequence k

-- ---- a frame by the gains

-- a value of step q, faded
unfoldable pub faded_with : Gains → ℕ → ℤ → ℤ
faded_with g q x = cond g.fades (faded_from g.fade_start g.path_length q x) x

-- a sample's value before it goes to a side
unfoldable pub before_sides : Gains → ℕ → ℕ → ℤ → ℤ
before_sides g level q sample = faded_with g q (scaled_by (scaled_by (scaled_by (sample *ℤ pos 256) level 65536) g.volume 65536) g.velocity 127)

-- a side's share of it
unfoldable pub value_with : Gains → ℕ → ℕ → ℤ → ℕ → ℤ
value_with g level q sample share = scaled_by (before_sides g level q sample) share 65536

-- the frame of step q whose sample lies at a place, at a level
unfoldable pub frame_with : Gains → List ℤ → List ℤ → ℕ → Option ℕ → Option ℕ → Frame
frame_with g left right q (Some i) (Some level) = record {
  left = value_with g level q (get_or left i (pos 0)) g.left_share;
  right = value_with g level q (get_or (cond g.stereo right left) i (pos 0)) g.right_share;
  sounds = true;
}
frame_with g left right q (Some i) None = silent
frame_with g left right q None level = silent

-- ---- what the code asks

-- no factor is above 65,536, and the velocity not above 127
pub record Bounded (g : Gains) : Type 0 where
  pub volume_small : g.volume ≤ 65536
  pub velocity_small : g.velocity ≤ 127
  pub left_small : g.left_share ≤ 65536
  pub right_small : g.right_share ≤ 65536

-- nor is the level, and with a fade the step lies on the path
pub record InRange (g : Gains) (level q : ℕ) : Type 0 where
  pub bounded : Bounded g
  pub level_small : level ≤ 65536
  pub on_path : g.fades ≡ true → q < g.path_length

-- a fade has a sequence, whose path is under 2^32 long
abbrev pub FadeOn : Option Fade → Option (List SeqnSegment) → ℕ → Type 0
FadeOn (Some f) (Some segments) k = joined_length (2 ^ k) segments < 2 ^ 32
FadeOn (Some f) None k = ⊥
FadeOn None sequence k = Unit

-- the same of a voice in octave k
abbrev pub FadeShort : Voice → ℕ → Type 0
FadeShort v k = FadeOn v.fade v.sequence k
