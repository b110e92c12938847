-- A block that is being written: the frames so far, and what is carried from run to run.
--     SoFar, so_far_none, -more             the frames up to the playhead are stored and sound, and the cursors follow
--     so_far_all, so_far_over               the block's end, and the first frame that is over
--     suits, begins, ready                  what the frames of a run ask
-- Assumes nothing.
use Prim.Native.Nat.{ℕ, ◌+◌, ◌-◌, ◌*◌, ◌/◌, ◌≤◌, ◌<◌}
use mathlib.Core.Bool.{Bool, true, false, true≢false, cond, ◌&&◌}
use mathlib.Core.List.{List}
use mathlib.Core.Path.{◌≡◌, refl, sym, ap, ◌∙◌}
use native.Mathlib.Omega.{arith}
use borrow.Author.Tests.{lt-ltb, ltb-true}
use lib.Dec.{ltb}
use lib.IntN.{ℤ}
use lib.ListN.{length}
use lib.Seq.{length-sets}
use Rattle.laws.specs.Put.{Put}
use Rattle.laws.proofs.PutLaws.{put_none, put_then, put_same, put_front}
use Rattle.note_envelope.specs.Cursor.{Moved, Follows}
use Rattle.note_envelope.specs.declared.EnvelopeCursor.{EnvelopeCursor}
use Rattle.note_envelope.proofs.CursorLaws.{follow, follow_on, moved_small}
use Rattle.note_path.specs.Run.{Good, Reached}
use Rattle.note_path.specs.declared.run.Path.{Path}
use Rattle.note_path.specs.declared.run.Run.{Run}
use Rattle.note_path.proofs.RunLaws.{reached_good, reached_later}
use Rattle.note_frame.specs.Frame.{silent, step_of, ms_since}
use Rattle.note_frame.specs.Frames.{frames_from, interleaved, sounding}
use Rattle.note_frame.specs.declared.chain.Frame.{Frame}
use Rattle.note_frame.specs.declared.chain.Gains.{Gains}
use Rattle.note_frame.proofs.ChainLaws.{not_over}
use Rattle.note_frame.proofs.FramesLaws.{frames_same, frames_split, interleaved_frames, interleaved_none, interleaved_join, sounding_none, sounding_join, sounding_all}
use Rattle.note_stage.specs.Block.{stage_frame, Stands, run_frame, Suits, is_over, StretchReady, Stretched, Playable, Played}
use Rattle.note_stage.specs.declared.Stage.{Stage}
use Rattle.note_stage.specs.declared.playhead.Playhead.{Playhead}
use Rattle.note_stage.proofs.PlayheadLaws.{step_here, ms_here, step_later, ms_later}
use Rattle.note_stage.proofs.StretchLaws.{goes_if}
use Rattle.note_stage.proofs.BlockLaws.{frame_here, rest_over}

module _ (g : Gains) (path : Path) (s : Stage) (points segments : List ℕ) (left right : List ℤ) (m d : ℕ) (before : List ℤ) where
  -- the stage's frames
  abbrev f : ℕ → Frame
  f = stage_frame g path s points segments left right

  -- the frames up to h are stored, and none of them is over; the cursors follow from there on
  pub record SoFar (out : List ℤ) (h : Playhead) (e : EnvelopeCursor) (r : Run) : Type 0 where
    pub begun : m ≤ h.frame
    pub within : h.frame ≤ m + d
    pub stands : Stands s h
    pub stored : Put before 0 (interleaved (frames_from f m (h.frame - m))) out (2 * (h.frame - m))
    pub sounds : h.frame - m ≡ sounding (frames_from f m (h.frame - m))
    pub level : Follows points s.level (ms_since s.rate s.since h.frame) e
    pub run : Good path segments r
    pub run_then : r.from ≤ step_of s.step h.frame

  pub so_far_none : (h : Playhead) (e : EnvelopeCursor) (r : Run) → Stands s h → h.frame ≡ m → Follows points s.level h.clock.ms e → Good path segments r → r.from ≤ 0
      → SoFar before h e r
  so_far_none h e r stands at follows good first =
      let none : h.frame - m ≡ 0 = omega arith in
      record {
        begun = omega arith;
        within = omega arith;
        stands = stands;
        stored = rw (none, interleaved_none f m) (put_none before 0);
        sounds = rw none (sym (sounding_none f m));
        level = rw (ms_here stands) at follows;
        run = good;
        run_then = omega arith;
      }

  module _ (asked : Playable g path s points segments left right m d before) {out : List ℤ} {h : Playhead} {e : EnvelopeCursor} {r : Run} (k : SoFar out h e r) where
    pub so_far_length : length out ≡ length before
    so_far_length = rw k.stored.is (length-sets before 0 (interleaved (frames_from f m (h.frame - m))))

    -- where the frames after them are over
    ended : ((p : ℕ) → h.frame ≤ p → p < m + d → f p ≡ silent) → Played f m d before out (h.frame - m)
    ended over =
        let size = interleaved_frames f m (h.frame - m) in
        record {
          within = omega (arith, k.begun, k.within);
          out_is = put_front (omega (arith, size, asked.room, k.within)) k.stored ∙ rw size;
          count_is = k.sounds;
          rest_over = λ p a b. over p (omega (arith, k.begun)) b;
        }

    pub so_far_all : m + d ≤ h.frame → Played f m d before out d
    so_far_all h' =
        let all : h.frame - m ≡ d = omega (arith, k.within) in
        rw all at (ended (λ p a b. absurd (omega arith)))

    -- cursors led to the frame
    module _ (e' : EnvelopeCursor) (r' : Run) (moved : Moved points e h.clock.ms e') (reached : Reached path segments (h.place / 65536) r') where
      follows : Follows points s.level (ms_since s.rate s.since h.frame) e'
      follows = follow k.level (rw (ms_here k.stands) at moved)

      here : Reached path segments (step_of s.step h.frame) r'
      here = rw (step_here k.stands) at reached

      -- the cursors say what is so of it
      told : ms_since s.rate s.since h.frame < e'.until
      told = rw (ms_here k.stands) at moved.till

      pub so_far_over : is_over s.ends e' r' (h.place / 65536) ≡ true → Played f m d before out (h.frame - m)
      so_far_over over =
          let over_here = rw (step_here k.stands) at over in
          ended (λ p a b. rest_over g path s points segments left right asked.timed h.frame e' r' follows here told over_here p a)

      module _ (goes : is_over s.ends e' r' (h.place / 65536) ≡ false) where
        in_run : h.place / 65536 < r'.until
        in_run = go (ltb (h.place / 65536) r'.until) refl goes
          where
            go : (t : Bool) → ltb (h.place / 65536) r'.until ≡ t → cond t (s.ends && e'.ended) true ≡ false → h.place / 65536 < r'.until
            go true t x = ltb-true (h.place / 65536) r'.until t
            go false t x = absurd (true≢false x)

        pub suits : Suits g r' e'.now left right
        suits =
            let good = reached_good reached in
            record {
              bounded = asked.bounded;
              level_small = moved_small moved;
              in_left = rw asked.samples_are at good.within;
              in_right = asked.sides_are;
              on_path = λ fades q a b. asked.fade_ends fades q _ (good.here q a b);
            }

        pub begins : r'.from ≤ h.place / 65536
        begins = reached_later reached (h.place / 65536) (omega arith)

        pub ready : h.frame < m + d → StretchReady s r'.until e'.until m (m + d) h out
        ready l =
            record {
              timed = asked.timed;
              stands = k.stands;
              goes = sym (goes_if r'.until e'.until (m + d) h l in_run) ∙ lt-ltb h.clock.ms e'.until moved.till;
              since_then = asked.since_then;
              first = k.begun;
              in_time = asked.in_time;
              room = omega (arith, asked.room, so_far_length);
            }

        -- the frames of a stretch are the stage's
        made : (p : ℕ) → h.frame ≤ p → step_of s.step p < r'.until → ms_since s.rate s.since p < e'.until → f p ≡ run_frame g r' e'.now left right (step_of s.step p)
        made = frame_here g path s points segments left right asked.timed h.frame e' r' follows here (rw (step_here k.stands) at goes)

        pub so_far_more : (out' : List ℤ) (h' : Playhead) → Stretched (λ p. run_frame g r' e'.now left right (step_of s.step p)) s r'.until e'.until m (m + d) h out out' h'
            → SoFar out' h' e' r'
        so_far_more out' h' t =
            let p = h.frame in
            let n = h'.frame - p in
            let began = k.begun in
            let further = t.further in
            let total : h'.frame - m ≡ (p - m) + n = omega arith in
            let fs = frames_from f m (p - m) in
            let more = frames_split f m p h'.frame (omega arith) (omega arith) in
            let made_at : (j : ℕ) → p ≤ j → j < p + n → f j ≡ run_frame g r' e'.now left right (step_of s.step j) =
            λ j a b. made j a (t.in_steps j a (omega arith)) (t.in_level j a (omega arith)) in
            let same = frames_same f (λ j. run_frame g r' e'.now left right (step_of s.step j)) p n made_at in
            let heard : sounding (frames_from f p n) ≡ n = sounding_all f p n (λ j a b. ap (λ (x : Frame). x.sounds) (made_at j a b) ∙ not_over g left right _ _ _) in
            record {
              begun = omega arith;
              within = t.within;
              stands = t.stands;
              stored = put_same (rw (more, same) (sym (interleaved_join fs _))) (put_then k.stored t.stored);
              sounds = rw (more, sounding_join fs (frames_from f p n), heard, ← k.sounds) total;
              level = follow_on follows (ms_later asked.timed p h'.frame (omega arith));
              run = reached_good reached;
              run_then = reached_later here (step_of s.step h'.frame) (step_later asked.timed p h'.frame (omega arith));
            }
