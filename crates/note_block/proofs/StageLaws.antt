-- A frame of a stage is the note's frame: of the attack if the note is held, and from a key-up on of the release.
-- Assumes nothing.
use Prim.Native.Nat.{ℕ, ◌≤◌, ◌<◌}
use mathlib.Core.List.{List}
use mathlib.Core.Path.{◌≡◌, refl, sym, ap, ◌∙◌}
use lib.IntN.{ℤ, pos}
use lib.ListN.{length}
use Rattle.sheet.specs.Voice.{Voice}
use Rattle.sheet_layout.specs.Joined.{joined}
use Rattle.sheet_layout.specs.Members.{points_in}
use Rattle.note_path.specs.Path.{path_of}
use Rattle.note_path.specs.Run.{place_of}
use Rattle.note_path.specs.declared.run.Path.{Path}
use Rattle.note_frame.specs.declared.chain.Gains.{Gains}
use Rattle.note_frame.specs.Frame.{step_of, ms_since, start_level, attack_level, level_of, frame, with_key}
use Rattle.note_frame.specs.Gains.{gains_of}
use Rattle.note_stage.specs.Block.{stage_level, stage_frame}
use Rattle.note_stage.specs.declared.Stage.{Stage}
use Rattle.note_stage.proofs.BlockLaws.{stage_frame_is, stage_held, stage_ends}
use Rattle.note_frame.specs.declared.playing.Playing.{Playing}
use Rattle.note_frame.specs.declared.playing.Key.{Key}
use Rattle.note_frame.specs.declared.playing.Key.TheVariants.{Held, Released}
use Rattle.note_block.specs.Stages.{attack_in, attack_stage, release_stage}
use Rattle.note_frame.proofs.FrameLaws.{frame_is, attack_is, level_held, level_released}
use Rattle.std.specs.Prelude.{Some}

-- the attack of a part that holds a voice's attacks
attack_in_lem : (v : Voice) (rate : ℕ) (attack : List ℕ) → points_in attack ≡ joined v.attacks → (p : ℕ) → attack_in attack rate p ≡ attack_level v rate p
attack_in_lem v rate attack e p = rw (attack_is v rate p, e)

-- gains and path are the voice's
module _ (v : Voice) (n : Playing) (left right : List ℤ) (g : Gains) (path : Path) (segments : List ℕ) (gains_are : g ≡ gains_of v n.octave n.velocity)
    (place_is : (q : ℕ) → place_of path segments q ≡ path_of v.sequence v.header (length left) n.octave q) where
  -- a stage whose level is the note's
  stage_frame_lem : (s : Stage) (points : List ℕ) (key : Key) (p : ℕ) → s.step ≡ n.step → p < 4294967295
      → stage_level points s.level s.ends (ms_since s.rate s.since p) ≡ level_of v n.rate key p
      → stage_frame g path s points segments left right p ≡ frame v (record { left = left; right = right }) (with_key n key) p
  stage_frame_lem s points key p es h e =
      rw (stage_frame_is g path s points segments left right p, frame_is v (record { left = left; right = right }) (with_key n key) p h, gains_are, es, e, place_is (step_of n.step p))

  module _ (attack : List ℕ) (attack_are : points_in attack ≡ joined v.attacks) where
    pub held_frame_lem : (p : ℕ) → p < 4294967295
        → stage_frame g path (attack_stage attack n.step n.rate) attack segments left right p ≡ frame v (record { left = left; right = right }) (with_key n Held) p
    held_frame_lem p h =
        stage_frame_lem (attack_stage attack n.step n.rate) attack Held p refl h
        (stage_held attack (start_level (points_in attack)) _ (ms_since n.rate 0 p) refl ∙ ap Some (attack_in_lem v n.rate attack attack_are p) ∙ sym (level_held v n.rate p))

    pub released_frame : (release : List ℕ) → points_in release ≡ joined v.releases → (u p : ℕ) → u ≤ p → p < 4294967295
        → stage_frame g path (release_stage attack n.step n.rate u) release segments left right p ≡ frame v (record { left = left; right = right }) (with_key n (Released u)) p
    released_frame release release_are u p g h =
        stage_frame_lem (release_stage attack n.step n.rate u) release (Released u) p refl h
        (stage_ends release (pos (attack_in attack n.rate u)) _ (ms_since n.rate u p) refl ∙ rw (release_are, attack_in_lem v n.rate attack attack_are u, level_released v n.rate u p g))
