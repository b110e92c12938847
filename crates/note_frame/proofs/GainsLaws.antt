-- What doesn't change from frame to frame: no factor is above 65,536 nor the velocity above 127, and a fade needs a sequence and ends with its path.
--     gains_bounded                  no factor is above 65,536, nor the velocity above 127
--     gains_stereo                   each side has its own samples exactly if the channel says so
--     gains_fade, gains_no_fade      a fade ends with the path of the sequence; without a sequence there is none
--     gains_unfaded, gains_faded     the gains by what the voice has: no proof past this file unfolds `gains_of`
--     frame_gains                    a frame by the gains of a voice is the frame
--     fade_there, no_fade            what the sheet answers is the voice's fade
--     unfaded_is                     volume and shares, as the code puts them together
--     fade_sequence                  the segments that a fade needs
--     octave_length                  the length of segments in an octave, as the code computes it
-- Assumes nothing.
use Prim.Native.Nat.{ℕ, ◌*◌, ◌≤◌, ◌<◌, ◌^◌, min}
use mathlib.Core.Bool.{Bool, true, false}
use mathlib.Core.List.{List}
use mathlib.Core.Path.{◌≡◌, refl, sym, ap, ◌∙◌}
use native.Mathlib.Nat.{mul-le-mul_left}
use native.Mathlib.Omega.{arith}
use lib.IntN.{ℤ}
use lib.Pow.{pow_pos}
use Rattle.laws.proofs.Cases.{impossible}
use Rattle.small_chunks.specs.declared.sequence.Fade.{Fade}
use Rattle.small_chunks.specs.declared.sequence.SeqnSegment.{SeqnSegment}
use Rattle.body_read.specs.Sides.{Sides}
use Rattle.sheet.specs.Voice.{Voice, is_stereo}
use Rattle.note_path.specs.Path.{joined_length}
use Rattle.note_path.proofs.LengthLaws.{scaled_length}
use Rattle.note_frame.specs.Frame.{volume_of, faded_in, faded_at, value, frame_at}
use Rattle.note_frame.specs.declared.chain.Gains.{Gains}
use Rattle.note_frame.specs.Shares.{shares_of}
use Rattle.note_frame.specs.declared.shares.Shares.{Shares}
use Rattle.note_frame.specs.Gains.{unfaded, with_fade, faded_by, gains_of, faded_with, before_sides, value_with, frame_with, Bounded, FadeOn, FadeShort}
use Rattle.note_frame.proofs.SharesLaws.{shares_held}
use Rattle.std.specs.Prelude.{None, Option, Some}

-- ---- by what the voice has

pub gains_unfaded : (v : Voice) (k velocity : ℕ) → v.fade ≡ None → gains_of v k velocity ≡ unfaded v velocity
unfolding gains_of
gains_unfaded v k velocity e = ap (λ (o : Option Fade). faded_by (unfaded v velocity) o v.sequence k) e

pub gains_faded : (v : Voice) (k velocity : ℕ) (f : Fade) (segments : List SeqnSegment) → v.fade ≡ Some f → v.sequence ≡ Some segments
    → gains_of v k velocity ≡ with_fade (unfaded v velocity) f segments k
unfolding gains_of
gains_faded v k velocity f segments e e₂ =
    let g = unfaded v velocity in
    ap (λ (o : Option Fade). faded_by g o v.sequence k) e ∙ ap (λ (o : Option (List SeqnSegment)). faded_by g (Some f) o k) e₂

-- where the sheet answers with a fade, the voice has it, and where it answers with none, the voice has none
module _ (o : Option Fade) where
  pub fade_there : (f : Fade) → o ≡ Some f → o ≡ Some f
  fade_there f = go o
    where
      go : (o : Option Fade) → o ≡ Some f → o ≡ Some f
      go (Some g) e = cc
      go None e = impossible cc

  pub no_fade : o ≡ None → o ≡ None
  no_fade = go o
    where
      go : (o : Option Fade) → o ≡ None → o ≡ None
      go (Some g) e = impossible cc
      go None e = refl

-- volume, velocity and shares as the code puts them together
pub unfaded_is : (v : Voice) (volume velocity : ℕ) (shares : Shares) (stereo : Bool)
    → volume ≡ volume_of v → shares ≡ shares_of v.channel v.pan → stereo ≡ is_stereo v.channel
    → ◌≡◌ {A = Gains}
    (record {
      volume = volume;
      velocity = velocity;
      left_share = shares.left;
      right_share = shares.right;
      stereo = stereo;
      fades = false;
      fade_start = 0;
      path_length = 0;
    })
    (unfaded v velocity)
unfaded_is v volume velocity shares stereo e e₂ e₃ = rw (e, e₂, e₃)

-- ---- every voice

-- two gains that differ in their fades at most
record SameButFade (g h : Gains) : Type 0 where
  same_volume : g.volume ≡ h.volume
  same_velocity : g.velocity ≡ h.velocity
  same_left : g.left_share ≡ h.left_share
  same_right : g.right_share ≡ h.right_share
  same_stereo : g.stereo ≡ h.stereo

same_itself : (g : Gains) → SameButFade g g
same_itself g = record { same_volume = refl; same_velocity = refl; same_left = refl; same_right = refl; same_stereo = refl }

module _ (v : Voice) (k velocity : ℕ) where
  -- the gains
  abbrev here : Gains
  here = gains_of v k velocity

  but_fade : SameButFade here (unfaded v velocity)
  unfolding gains_of
  but_fade = go v.fade v.sequence
    where
      go : (fade : Option Fade) (sequence : Option (List SeqnSegment)) → SameButFade (faded_by (unfaded v velocity) fade sequence k) (unfaded v velocity)
      go (Some f) (Some segments) = record { same_volume = refl; same_velocity = refl; same_left = refl; same_right = refl; same_stereo = refl }
      go (Some f) None = same_itself (unfaded v velocity)
      go None sequence = same_itself (unfaded v velocity)

  pub gains_bounded : velocity ≤ 127 → Bounded here
  gains_bounded h =
      let same = but_fade in
      let shares = shares_held v.channel v.pan in
      record {
        volume_small = rw same.same_volume (omega arith);
        velocity_small = rw same.same_velocity h;
        left_small = rw same.same_left shares.0;
        right_small = rw same.same_right shares.1;
      }

  pub gains_stereo : here.stereo ≡ is_stereo v.channel
  gains_stereo = but_fade.same_stereo

  -- ---- a frame by the gains is the frame

  faded_gains : (q : ℕ) (x : ℤ) → faded_with here q x ≡ faded_at v k q x
  unfolding gains_of faded_with faded_at
  faded_gains q x = go v.fade v.sequence
    where
      go : (fade : Option Fade) (sequence : Option (List SeqnSegment)) → faded_with (faded_by (unfaded v velocity) fade sequence k) q x ≡ faded_in fade sequence k q x
      go (Some f) (Some segments) = refl
      go (Some f) None = refl
      go None sequence = refl

  value_gains : (q level : ℕ) (x : ℤ) (share : ℕ) → value_with here level q x share ≡ value v k velocity q level x share
  unfolding value_with before_sides value
  value_gains q level x share = let same = but_fade in rw (faded_gains q, same.same_volume, same.same_velocity)

  pub frame_gains : (s : Sides) (q : ℕ) (place level : Option ℕ) → frame_with here s.left s.right q place level ≡ frame_at v s (value v k velocity) q place level
  unfolding frame_with frame_at
  frame_gains s q (Some i) (Some level) =
      let same = but_fade in
      rw (value_gains q level, value_gains q level, same.same_stereo, same.same_left, same.same_right)
  frame_gains s q (Some i) None = refl
  frame_gains s q None level = refl

  -- ---- the fade

  pub gains_fade : (segments : List SeqnSegment) → v.sequence ≡ Some segments → here.fades ≡ true → here.path_length ≡ joined_length (2 ^ k) segments
  unfolding gains_of
  gains_fade segments e = rw e (go v.fade)
    where
      go : (fade : Option Fade) →
          let g = faded_by (unfaded v velocity) fade (Some segments) k in
          g.fades ≡ true → g.path_length ≡ joined_length (2 ^ k) segments
      go (Some f) t = refl
      go None t = impossible cc

  pub gains_no_fade : v.sequence ≡ None → here.fades ≡ false
  unfolding gains_of
  gains_no_fade e = rw e (go v.fade)
    where
      go : (fade : Option Fade) → (faded_by (unfaded v velocity) fade None k).fades ≡ false
      go (Some f) = refl
      go None = refl

-- a fade that fits has a sequence; `ss` are its segments as they were read
pub fade_sequence : (v : Voice) (k : ℕ) (f : Fade) (ss : List SeqnSegment) → ((segments : List SeqnSegment) → v.sequence ≡ Some segments → ss ≡ segments) → v.fade ≡ Some f → FadeShort v k
    → (v.sequence ≡ Some ss) × (joined_length (2 ^ k) ss < 2 ^ 32)
fade_sequence v k f ss read e fits = go v.sequence refl (rw e at fits)
  where
    go : (sequence : Option (List SeqnSegment)) → v.sequence ≡ sequence → FadeOn (Some f) sequence k → (v.sequence ≡ Some ss) × (joined_length (2 ^ k) ss < 2 ^ 32)
    go (Some segments) there short = (there ∙ ap Some (sym (read segments there)), rw (read segments there) short)
    go None there short = absurd short

-- ---- the length in octave k

-- where the path in octave k is under 2^32 long, so is it in the highest octave, and the length held to 2^32 is the length
pub octave_length : (k scale n : ℕ) (ss : List SeqnSegment) → scale ≡ 2 ^ k → joined_length (2 ^ k) ss < 2 ^ 32 → n ≡ min (joined_length 1 ss) (2 ^ 32) → n * scale ≡ joined_length (2 ^ k) ss
octave_length k scale n ss is short e =
    let scaled = scaled_length (2 ^ k) ss in
    let more : joined_length 1 ss * 1 ≤ joined_length 1 ss * 2 ^ k = mul-le-mul_left (joined_length 1 ss) (pow_pos k) in
    let same : n ≡ joined_length 1 ss = omega (arith, e, short, scaled, more) in
    rw (is, same) (sym scaled)
