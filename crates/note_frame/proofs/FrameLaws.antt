-- The frames of a note. From 4,294,967,295 on they are silent, and before a key-up they are those of a held note. So neither a key-up
-- after the frames put out nor the stop of the count at 4,294,967,295 changes a frame.
--     frame_is, frame_last                    a frame by the gains, its place and its level, up to there, and silence from there on
--     attack_is, level_held, level_released   its level: of the attack, or from a key-up on of the release
--     frame_before, frame_put                 frames before a key-up
--     frame_capped                            frames counted from 4,294,967,295 at most
--     both_frames                             what holds of two frames that are over and of two that sound, of every frame by two chains
-- Assumes nothing.
use Prim.Native.Nat.{ℕ, ◌+◌, ◌≤◌, ◌<◌, min}
use mathlib.Core.Bool.{Bool, true, false, cond}
use mathlib.Core.Path.{◌≡◌, refl, sym, ◌∙◌}
use native.Mathlib.Omega.{arith}
use borrow.Author.Tests.{lt-leb, le-leb, lt-ltb, le-ltb, leb-true, leb-false}
use lib.Dec.{leb, ltb}
use lib.IntN.{pos}
use lib.ListN.{length}
use Rattle.small_chunks.specs.Pan.{held_to_unity}
use Rattle.envelope.specs.Envelope.{level_at, total_duration}
use Rattle.sheet.specs.Voice.{Voice}
use Rattle.body_read.specs.Sides.{Sides}
use Rattle.sheet_layout.specs.Joined.{joined}
use Rattle.note_path.specs.Path.{path_of}
use Rattle.note_frame.specs.Gains.{gains_of, frame_with}
use Rattle.note_frame.specs.declared.chain.Frame.{Frame}
use Rattle.note_frame.specs.declared.playing.Key.{Key}
use Rattle.note_frame.specs.declared.playing.Key.TheVariants.{Held, Released}
use Rattle.note_frame.specs.Frame.{step_of, ms_since, start_level, attack_level, release_level, level_of, silent, with_key, Chain, frame_at, frame_by, frame}
use Rattle.note_frame.specs.declared.playing.Playing.{Playing}
use Rattle.note_frame.proofs.GainsLaws.{frame_gains}
use Rattle.std.specs.Prelude.{None, Option, Some}

-- ---- the level

module _ (v : Voice) (rate : ℕ) where
  pub attack_is : (p : ℕ) → attack_level v rate p ≡ held_to_unity (level_at (joined v.attacks) (start_level (joined v.attacks)) (ms_since rate 0 p))
  unfolding attack_level
  attack_is p = refl

  pub level_held : (p : ℕ) → level_of v rate Held p ≡ Some (attack_level v rate p)
  unfolding level_of
  level_held p = refl

  pub level_released : (u p : ℕ) → u ≤ p →
      let points = joined v.releases in
      let ms = ms_since rate u p in
      level_of v rate (Released u) p ≡ cond (leb (total_duration points) ms) None (Some (held_to_unity (level_at points (pos (attack_level v rate u)) ms)))
  unfolding level_of release_level
  level_released u p h = rw (le-leb u p h)

-- ---- two chains

-- where a frame's sample lies
abbrev placed : Voice → Sides → Playing → ℕ → Option ℕ
placed v s n p = path_of v.sequence v.header (length s.left) n.octave (step_of n.step p)

-- two voices in which it lies at the same place, at the same level, have frames that are over together
module _ (v w : Voice) (s : Sides) (c d : Chain) (n : Playing) (p : ℕ) (P : Frame → Frame → Type 0) where
  pub both_frames : placed v s n p ≡ placed w s n p → level_of v n.rate n.key p ≡ level_of w n.rate n.key p → P silent silent
      → ((q i level : ℕ) → P (frame_at v s c q (Some i) (Some level)) (frame_at w s d q (Some i) (Some level)))
      → P (frame_by v s c n p) (frame_by w s d n p)
  unfolding frame_by frame_at
  both_frames e e₂ over sounds = rw (e, e₂) (go (ltb p 4294967295) (placed w s n p) (level_of w n.rate n.key p))
    where
      q : ℕ
      q = step_of n.step p

      go : (t : Bool) (place level : Option ℕ) → P (cond t (frame_at v s c q place level) silent) (cond t (frame_at w s d q place level) silent)
      go true (Some i) (Some level) = sounds q i level
      go true (Some i) None = over
      go true None level = over
      go false place level = over

-- ---- the frame

module _ (v : Voice) (s : Sides) (n : Playing) where
  -- the frame by the gains
  abbrev by_gains : ℕ → Frame
  by_gains p = frame_with (gains_of v n.octave n.velocity) s.left s.right (step_of n.step p) (placed v s n p) (level_of v n.rate n.key p)

  pub frame_is : (p : ℕ) → p < 4294967295 → frame v s n p ≡ by_gains p
  unfolding frame frame_by
  frame_is p h =
      rw (lt-ltb p 4294967295 h) (sym (frame_gains v n.octave n.velocity s (step_of n.step p) (placed v s n p) (level_of v n.rate n.key p)))

  pub frame_last : (p : ℕ) → 4294967295 ≤ p → frame v s n p ≡ silent
  unfolding frame frame_by
  frame_last p h = rw (le-ltb p 4294967295 h)

  -- a frame counted from m, or from 4,294,967,295 where m is past it
  pub frame_capped : (m i : ℕ) → frame v s n (min m 4294967295 + i) ≡ frame v s n (m + i)
  frame_capped m i = go (leb 4294967295 m) refl
    where
      go : (t : Bool) → leb 4294967295 m ≡ t → frame v s n (min m 4294967295 + i) ≡ frame v s n (m + i)
      go true e =
          let past = leb-true 4294967295 m e in
          frame_last (min m 4294967295 + i) (omega arith) ∙ sym (frame_last (m + i) (omega arith))
      go false e =
          let same : min m 4294967295 ≡ m = omega (arith, leb-false 4294967295 m e) in
          rw same

module _ (v : Voice) (s : Sides) (n : Playing) where
  -- the note, held or released
  abbrev keyed : Key → ℕ → Frame
  keyed key = frame v s (with_key n key)

  pub frame_before : (u p : ℕ) → p < u → keyed (Released u) p ≡ keyed Held p
  unfolding frame frame_by level_of
  frame_before u p h = rw (lt-leb u p h)

  -- a key-up at the frames put out, or at 4,294,967,295, changes none of them
  pub frame_put : (m p : ℕ) → p < m → keyed (Released (min m 4294967295)) p ≡ keyed Held p
  frame_put m p h = go (leb 4294967295 p) refl
    where
      go : (t : Bool) → leb 4294967295 p ≡ t → keyed (Released (min m 4294967295)) p ≡ keyed Held p
      go true e =
          let last = leb-true 4294967295 p e in
          frame_last v s (with_key n (Released (min m 4294967295))) p last ∙ sym (frame_last v s (with_key n Held) p last)
      go false e = frame_before (min m 4294967295) p (omega (arith, leb-false 4294967295 p e))
