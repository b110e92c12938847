-- The values of a note's frame are 16-bit ones, where its samples are samples and its velocity is allowed. So a frame by itself is the same after
-- it is held to 16 bits.
-- Assumes nothing.
use Prim.Native.Nat.{ℕ, ◌≤◌}
use mathlib.Core.Bool.{Bool, true, false, cond}
use mathlib.Core.List.{List}
use mathlib.Core.Path.{◌≡◌, refl}
use borrow.Author.Tests.{ltb-true, ltb-false}
use lib.Dec.{leb, ltb}
use lib.IntN.{ℤ, pos}
use lib.ListN.{length, get_or}
use mir.Syntax.{w8, w16}
use mir.Val.{SFits}
use Rattle.laws.proofs.Signed.{zarith}
use Rattle.field.specs.Signed.{Samples}
use Rattle.small_chunks.proofs.PanLaws.{held_le}
use Rattle.envelope.specs.Envelope.{total_duration}
use Rattle.envelope.proofs.ScaleLaws.{scaled_fits}
use Rattle.sheet.specs.Voice.{Voice}
use Rattle.sheet_layout.specs.Joined.{joined}
use Rattle.body_read.specs.Sides.{Sides}
use Rattle.note_path.specs.Path.{path_of}
use Rattle.note_frame.specs.Frame.{ms_since, attack_level, release_level, level_of, step_of, frame}
use Rattle.note_frame.specs.Gains.{Bounded, before_sides, value_with, frame_with, gains_of}
use Rattle.note_frame.specs.declared.chain.Frame.{Frame}
use Rattle.note_frame.specs.declared.chain.Gains.{Gains}
use Rattle.note_frame.specs.declared.playing.Key.{Key}
use Rattle.note_frame.specs.declared.playing.Key.TheVariants.{Held, Released}
use Rattle.note_frame.specs.declared.playing.Playing.{Playing}
use Rattle.note_frame.proofs.ChainLaws.{before_sides_fits}
use Rattle.note_frame.proofs.FrameLaws.{frame_is, frame_last}
use Rattle.note_frame.proofs.GainsLaws.{gains_bounded}
use Rattle.std.specs.Prelude.{None, Option, Some}

-- both sides' values are 16-bit ones
abbrev pub FrameFits : Frame → Type 0
FrameFits f = SFits w16 f.left × SFits w16 f.right

-- a level, where there is one, is at most 65,536
abbrev Small : Option ℕ → Type 0
Small None = Unit
Small (Some level) = level ≤ 65536

small_attack : (v : Voice) (rate p : ℕ) → attack_level v rate p ≤ 65536
unfolding attack_level
small_attack v rate p = held_le _

small_level : (v : Voice) (rate : ℕ) (key : Key) (p : ℕ) → Small (level_of v rate key p)
unfolding level_of release_level
small_level v rate Held p = small_attack v rate p
small_level v rate (Released u) p = go (leb u p) (leb (total_duration (joined v.releases)) (ms_since rate u p)) _ (held_le _)
  where
    go : (a b : Bool) (level : ℕ) → level ≤ 65536 → Small (cond a (cond b None (Some level)) (Some (attack_level v rate p)))
    go true true level h = tt
    go true false level h = h
    go false b level h = small_attack v rate p

module _ (g : Gains) (bounded : Bounded g) (left right : List ℤ) (all_left : Samples left) (All-right : Samples right) (q : ℕ) where
  value_fits : (level share : ℕ) (x : ℤ) → level ≤ 65536 → share ≤ 65536 → SFits w8 x → SFits w16 (value_with g level q x share)
  unfolding value_with
  value_fits level share x l h f = scaled_fits (before_sides g level q x) share 65536 h (before_sides_fits g level q x l bounded.volume_small bounded.velocity_small f)

  all_second : (t : Bool) → Samples (cond t right left)
  all_second true = All-right
  all_second false = all_left

  with_fits : (place level : Option ℕ) → Small level → FrameFits (frame_with g left right q place level)
  unfolding frame_with
  with_fits (Some i) (Some level) l = (
    value_fits level g.left_share (get_or left i (pos 0)) l bounded.left_small (all_left i),
    value_fits level g.right_share (get_or (cond g.stereo right left) i (pos 0)) l bounded.right_small (all_second g.stereo i),
  )
  with_fits (Some i) None l = (omega zarith, omega zarith)
  with_fits None level l = (omega zarith, omega zarith)

pub frame_fits : (v : Voice) (s : Sides) (n : Playing) (p : ℕ) → Samples s.left → Samples s.right → n.velocity ≤ 127 → FrameFits (frame v s n p)
frame_fits v s n p left right small = go (ltb p 4294967295) refl
  where
    go : (t : Bool) → ltb p 4294967295 ≡ t → FrameFits (frame v s n p)
    go true e =
        rw (frame_is v s n p (ltb-true p 4294967295 e))
        (with_fits (gains_of v n.octave n.velocity) (gains_bounded v n.octave n.velocity small) s.left s.right left right (step_of n.step p)
        (path_of v.sequence v.header (length s.left) n.octave (step_of n.step p)) (level_of v n.rate n.key p) (small_level v n.rate n.key p))
    go false e = rw (frame_last v s n p (ltb-false p 4294967295 e)) (omega zarith, omega zarith)
