-- The velocity's step leaves all of a value at 127, and at no velocity is a frame over that isn't over without it.
-- Assumes nothing.
use Prim.Native.Nat.{ℕ}
use mathlib.Core.Path.{◌≡◌, refl, sym, ap}
use native.Mathlib.Omega.{arith}
use lib.IntN.{ℤ}
use Rattle.envelope.specs.Level.{scaled_by}
use Rattle.envelope.proofs.ScaleLaws.{scaled_whole}
use Rattle.sheet.specs.Voice.{Voice}
use Rattle.body_read.specs.Sides.{Sides}
use Rattle.note_frame.specs.Frame.{faded_at, value, silent, frame_at, frame}
use Rattle.note_frame.specs.Velocity.{value_without_velocity, frame_without_velocity, VelocityStep}
use Rattle.note_frame.specs.declared.chain.Frame.{Frame}
use Rattle.note_frame.specs.declared.playing.Playing.{Playing}
use Rattle.note_frame.proofs.FrameLaws.{both_frames}
use Rattle.std.specs.Prelude.{Some}

-- 127 of 127 is all of it
value_full : (v : Voice) (k velocity : ℕ) → velocity ≡ 127 → (q level : ℕ) (sample : ℤ) (share : ℕ)
    → value v k velocity q level sample share ≡ value_without_velocity v k q level sample share
unfolding value value_without_velocity
value_full v k velocity e q level sample share =
    ap (λ (x : ℤ). scaled_by (faded_at v k q x) share 65536) (sym (scaled_whole _ velocity 127 (omega arith) e))

module _ (v : Voice) (s : Sides) (n : Playing) (p : ℕ) where
  -- what holds of two frames that are over and of two that sound holds of the frame with the step and without it
  with_and_without : (P : Frame → Frame → Type 0) → P silent silent →
      let with = value v n.octave n.velocity in
      let without = value_without_velocity v n.octave in
      ((q i level : ℕ) → P (frame_at v s with q (Some i) (Some level)) (frame_at v s without q (Some i) (Some level)))
      → P (frame v s n p) (frame_without_velocity v s n p)
  unfolding frame
  with_and_without P = both_frames v v s (value v n.octave n.velocity) (value_without_velocity v n.octave) n p P refl refl

  full : n.velocity ≡ 127 → frame v s n p ≡ frame_without_velocity v s n p
  unfolding frame_at
  full e =
      let same = value_full v n.octave n.velocity e in
      with_and_without ◌≡◌ refl (λ q i level. rw (same q level, same q level))

  over : (frame v s n p).sounds ≡ (frame_without_velocity v s n p).sounds
  unfolding frame_at
  over = with_and_without (λ f g. f.sounds ≡ g.sounds) refl (λ q i level. refl)

pub velocity_step : VelocityStep
velocity_step = record { full = full; over = over }
