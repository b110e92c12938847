-- Worked examples, computed from the definitions.
-- Assumes nothing.
use Prim.Native.Nat.{ℕ}
use mathlib.Core.Bool.{Bool, true, false}
use mathlib.Core.List.{[], ◌∷◌}
use mathlib.Core.Path.{◌≡◌, refl}
use lib.IntN.{ℤ, pos, negsuc}
use Rattle.small_chunks.specs.Pan.{held_to_unity}
use Rattle.small_chunks.specs.declared.channel.ChannelAssignment.TheVariants.{Left, Right, Stereo}
use Rattle.small_chunks.specs.declared.pan.Pan.{Pan}
use Rattle.envelope.specs.Level.{scaled_by}
use Rattle.note_frame.specs.declared.chain.Gains.{Gains}
use Rattle.note_frame.specs.Gains.{faded_with, before_sides, value_with, frame_with}
use Rattle.note_frame.specs.Shares.{shares_of}
use Rattle.note_frame.specs.declared.shares.Shares.{Shares}
use Rattle.std.specs.Prelude.{None, Option, Some}

-- a volume and a velocity with full shares, one channel; with a fade, it goes from step 2 to step 6
abbrev pub gained : ℕ → ℕ → Bool → Gains
gained volume velocity fades = record {
  volume = volume;
  velocity = velocity;
  left_share = 65536;
  right_share = 65536;
  stereo = false;
  fades = fades;
  fade_start = 2;
  path_length = 6;
}

-- full volume, struck as hard as can be
abbrev pub full : Bool → Gains
full = gained 65536 127

-- -2 at full level is -512
pub whole : value_with (full false) 65536 0 (negsuc 1) 65536 ≡ negsuc 511
unfolding value_with before_sides faded_with scaled_by
whole = refl

-- -1 at level 3: -256 × 3 / 65,536 is cut to 0; rounded down, it would be -1
pub cut_toward_zero : value_with (full false) 3 0 (negsuc 0) 65536 ≡ pos 0
unfolding value_with before_sides faded_with scaled_by
cut_toward_zero = refl

-- 1 at level 384: 256 × 384 / 65,536 is cut to 1, and three quarters of that to 0; cut only at the end, it would be 1
pub cut_at_each_step : value_with (full false) 384 0 (pos 1) 49152 ≡ pos 0
unfolding value_with before_sides faded_with scaled_by
cut_at_each_step = refl

-- where the fade begins, a value is still whole
pub fade_begins : value_with (full true) 65536 2 (pos 1) 65536 ≡ pos 256
unfolding value_with before_sides faded_with scaled_by
fade_begins = refl

-- at its last step, a quarter is left
pub fade_ends : value_with (full true) 65536 5 (pos 1) 65536 ≡ pos 64
unfolding value_with before_sides faded_with scaled_by
fade_ends = refl

-- ---- velocity

-- -512 × 64 / 127 is cut to -258; rounded down, it would be -259, and divided by 128, -256
pub struck_half : value_with (gained 65536 64 false) 65536 0 (negsuc 1) 65536 ≡ negsuc 257
unfolding value_with before_sides faded_with scaled_by
struck_half = refl

-- three quarters of 256 by the volume, then × 100 / 127: 151; with the velocity before the volume it would be 150
pub after_volume : value_with (gained 49152 100 false) 65536 0 (pos 1) 65536 ≡ pos 151
unfolding value_with before_sides faded_with scaled_by
after_volume = refl

-- 256 × 100 / 127, then three quarters of it by the fade: 150; with the velocity after the fade it would be 151
pub before_fade : value_with (gained 65536 100 true) 65536 3 (pos 1) 65536 ≡ pos 150
unfolding value_with before_sides faded_with scaled_by
before_fade = refl

-- 1 × 126 / 127 is cut to 0, on both sides of a frame that isn't over
pub cut_to_0 : frame_with (gained 65536 126 false) (pos 1 ∷ []) [] 0 (Some 0) (Some 256) ≡ record { left = pos 0; right = pos 0; sounds = true }
unfolding frame_with value_with before_sides faded_with scaled_by
cut_to_0 = refl

-- ---- channel and pan

-- a pan at a position
abbrev pub at : ℤ → Option Pan
at z = Some (record { position = z })

-- the shares of a voice, left and right
abbrev pub sides : ℕ → ℕ → Shares
sides l r = record { left = l; right = r }

-- with CHAN 2 all but a pan of 65,536 or more changes them, and with CHAN 4 all but one of 0 or less; CHAN 6 has both in full with any;
-- without a CHAN the pan decides; without a pan the CHAN does
pub record Table : Type 0 where
  pub left_at_65536 : shares_of (Some Left) (at (pos 65536)) ≡ sides 65536 0
  pub left_past_it : shares_of (Some Left) (at (pos 70000)) ≡ sides 65536 0
  pub left_below_it : shares_of (Some Left) (at (pos 65535)) ≡ sides 65535 1
  pub left_at_0 : shares_of (Some Left) (at (pos 0)) ≡ sides 0 65536
  pub right_at_0 : shares_of (Some Right) (at (pos 0)) ≡ sides 0 65536
  pub right_below_0 : shares_of (Some Right) (at (negsuc 0)) ≡ sides 0 65536
  pub right_above_0 : shares_of (Some Right) (at (pos 1)) ≡ sides 1 65535
  pub right_at_65536 : shares_of (Some Right) (at (pos 65536)) ≡ sides 65536 0
  pub two_at_0 : shares_of (Some Stereo) (at (pos 0)) ≡ sides 65536 65536
  pub none_at_16384 : shares_of None (at (pos 16384)) ≡ sides 16384 49152
  pub left_unpanned : shares_of (Some Left) None ≡ sides 65536 0
  pub right_unpanned : shares_of (Some Right) None ≡ sides 0 65536
  pub two_unpanned : shares_of (Some Stereo) None ≡ sides 65536 65536
  pub neither : shares_of None None ≡ sides 65536 65536

pub table : Table
unfolding shares_of held_to_unity
table = record {
  left_at_65536 = refl;
  left_past_it = refl;
  left_below_it = refl;
  left_at_0 = refl;
  right_at_0 = refl;
  right_below_0 = refl;
  right_above_0 = refl;
  right_at_65536 = refl;
  two_at_0 = refl;
  none_at_16384 = refl;
  left_unpanned = refl;
  right_unpanned = refl;
  two_unpanned = refl;
  neither = refl;
}
