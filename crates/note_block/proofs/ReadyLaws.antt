-- A block that is ready may be played in its stage, and plays the note's frames.
--     held_asks, held_plays             of a held note, in the attack
--     released_asks, released_plays     of a released one, in the release
-- Assumes nothing.
use Prim.Native.Nat.{ℕ, ◌≤◌, ◌<◌}
use mathlib.Core.Bool.{false}
use mathlib.Core.List.{List}
use mathlib.Core.Path.{◌≡◌, refl, subst}
use native.Mathlib.Omega.{arith}
use borrow.Author.Tests.{ltb-false}
use lib.IntN.{ℤ}
use lib.ListN.{get_or}
use mir.Syntax.{w8}
use mir.Val.{Fits}
use Rattle.sheet.specs.Read.{read_sheet}
use Rattle.sheet_layout.specs.Members.{between, Whole}
use Rattle.sheet_layout.specs.declared.Layout.{Layout}
use Rattle.note_path.specs.declared.run.Path.{Path}
use Rattle.note_frame.specs.declared.chain.Gains.{Gains}
use Rattle.note_stage.specs.Block.{stage_frame, Playable, Played}
use Rattle.note_stage.specs.declared.Stage.{Stage}
use Rattle.note_rules.specs.Rules.{key_up_ahead}
use Rattle.note_frame.specs.declared.playing.Key.{Key}
use Rattle.note_frame.specs.declared.playing.Key.TheVariants.{Held, Released}
use Rattle.note_frame.specs.declared.playing.Playing.{Playing}
use Rattle.note_frame.specs.Frame.{with_key, frame}
use Rattle.note_block.specs.Stages.{attack_stage, release_stage}
use Rattle.note_block.specs.Block.{sequence_part, BlockReady, BlockPlayed}
use Rattle.note_block.proofs.SheetLaws.{attacks_are, releases_are, segments_at}
use Rattle.note_block.proofs.StageLaws.{held_frame_lem, released_frame}
use Rattle.note_block.proofs.WholeLaws.{played_same}

module _ (n : Playing) (frames : ℕ) (sheet : List ℕ) (l : Layout) (g : Gains) (path : Path) (left right : List ℤ) (d : ℕ) (out : List ℤ)
    (ready : BlockReady n frames sheet l g path left right d out) (bytes : (i : ℕ) → Fits w8 (get_or sheet i 0)) where
  abbrev attack : List ℕ
  attack = between l.attacks l.releases sheet

  abbrev release : List ℕ
  release = between l.releases l.sequence sheet

  abbrev segments : List ℕ
  segments = between l.sequence l.fade sheet

  -- a stage that began no later than the block
  stage_asks : (s : Stage) (points : List ℕ) → s.step ≡ n.step → s.rate ≡ n.rate → s.since ≤ frames → Whole 6 6 points → Playable g path s points segments left right frames d out
  stage_asks s points step rate since whole =
      rw (segments_at sheet bytes ready.sound l ready.layout_is)
      (record {
        bounded = ready.bounded;
        sane = ready.sane;
        points_whole = whole;
        samples_are = ready.samples_are;
        sides_are = ready.sides_are;
        fade_ends = ready.fade_ends;
        timed = record { rate_some = rw rate ready.rate_some; rate_fits = rw rate ready.rate_fits; step_fits = rw step ready.step_fits };
        since_then = since;
        in_time = ready.in_time;
        room = ready.room;
      })

  -- a stage whose frames are the note's
  stage_plays : (s : Stage) (points : List ℕ) (key : Key) (after : List ℤ) (count : ℕ) → n.key ≡ key
      → ((p : ℕ) → frames ≤ p → p < 4294967295 → stage_frame g path s points (sequence_part sheet) left right p ≡ frame (read_sheet sheet) (record { left = left; right = right }) (with_key n key) p)
      → Played (stage_frame g path s points segments left right) frames d out after count → BlockPlayed n frames sheet left right d out after count
  stage_plays s points key after count is same played =
      let time = ready.in_time in
      rw is
      (played_same (stage_frame g path s points (sequence_part sheet) left right) (frame (read_sheet sheet) (record { left = left; right = right }) (with_key n key)) frames d out after count
      (λ p a b. same p a (omega arith))
      (subst (λ (part : List ℕ). Played (stage_frame g path s points part left right) frames d out after count) (segments_at sheet bytes ready.sound l ready.layout_is) played))

  -- ---- held

  module _ (s : Stage) (e : s ≡ attack_stage attack n.step n.rate) where
    pub held_asks : Playable g path s attack segments left right frames d out
    held_asks = rw e (stage_asks (attack_stage attack n.step n.rate) attack refl refl (omega arith) (attacks_are sheet bytes ready.sound l ready.layout_is).1)

    pub held_plays : (after : List ℤ) (count : ℕ) → n.key ≡ Held → Played (stage_frame g path s attack segments left right) frames d out after count
        → BlockPlayed n frames sheet left right d out after count
    held_plays after count key =
        let points = (attacks_are sheet bytes ready.sound l ready.layout_is).0 in
        let frames_are = held_frame_lem (read_sheet sheet) n left right g path (sequence_part sheet) ready.gains_are ready.place_is attack points in
        rw e (stage_plays (attack_stage attack n.step n.rate) attack Held after count key (λ p a b. frames_are p b))

  -- ---- released

  module _ (u : ℕ) (key : n.key ≡ Released u) (s : Stage) (e : s ≡ release_stage attack n.step n.rate u) where
    -- the key-up isn't ahead of the block
    began : u ≤ frames
    began = ltb-false frames u (subst (λ (k : Key). key_up_ahead k frames ≡ false) key ready.key_then)

    pub released_asks : Playable g path s release segments left right frames d out
    released_asks = rw e (stage_asks (release_stage attack n.step n.rate u) release refl refl began (releases_are sheet bytes ready.sound l ready.layout_is).1)

    pub released_plays : (after : List ℤ) (count : ℕ) → Played (stage_frame g path s release segments left right) frames d out after count → BlockPlayed n frames sheet left right d out after count
    released_plays after count =
        let then = began in
        rw e
        (stage_plays (release_stage attack n.step n.rate u) release (Released u) after count key
        (λ p a b.
        released_frame (read_sheet sheet) n left right g path (sequence_part sheet) ready.gains_are ready.place_is attack (attacks_are sheet bytes ready.sound l ready.layout_is).0
        release (releases_are sheet bytes ready.sound l ready.layout_is).0 u p (omega arith) b))
