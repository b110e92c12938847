-- What it means that a note has a velocity: struck as hard as can be it sounds as notes did without one, and at no velocity is a frame over that
-- isn't over without. It is proved as `velocity_step`.
use Rattle.std.specs.Prelude.{ℕ, ◌≡◌, pos, ◌*ℤ◌}
use Rattle.envelope.specs.Level.{scaled_by}
use Rattle.sheet.specs.Voice.{Voice}
use Rattle.body_read.specs.Sides.{Sides}
use Rattle.note_frame.specs.Frame.{volume_of, faded_at, Chain, frame_by, frame}
use Rattle.note_frame.specs.declared.chain.Frame.{Frame}
use Rattle.note_frame.specs.declared.playing.Playing.{Playing}

-- the chain without the velocity's step: sample × 256; × level / 65,536; × volume / 65,536; the fade; × share / 65,536
unfoldable pub value_without_velocity : Voice → ℕ → Chain
value_without_velocity v k q level sample share =
    scaled_by (faded_at v k q (scaled_by (scaled_by (sample *ℤ pos 256) level 65536) (volume_of v) 65536)) share 65536

-- frame p of a note by that chain: its velocity isn't looked at
abbrev pub frame_without_velocity : Voice → Sides → Playing → ℕ → Frame
frame_without_velocity v s n p = frame_by v s (value_without_velocity v n.octave) n p

-- the frames with the step and without it
pub record VelocityStep : Type 0 where
  -- at velocity 127 every frame of every note is what it is without the step
  pub full : (v : Voice) (s : Sides) (n : Playing) (p : ℕ) → n.velocity ≡ 127 → frame v s n p ≡ frame_without_velocity v s n p
  -- at any velocity a frame is over exactly where it is over without the step, also where its values are cut to 0; so no count hangs on it
  pub over : (v : Voice) (s : Sides) (n : Playing) (p : ℕ) → (frame v s n p).sounds ≡ (frame_without_velocity v s n p).sounds
