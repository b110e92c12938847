-- What a frame of a stage is, and that the cursors in hand say so.
--     stage_frame_is, stage_held, stage_ends      a stage's frame, and its level where the note goes on or is over past its points
--     frame_here                                  the frames by the cursors, as far as they say
--     rest_over                                   where they say that the note is over, it stays so
-- Assumes nothing.
use Prim.Native.Nat.{ℕ, ◌+◌, ◌-◌, ◌≤◌, ◌<◌}
use mathlib.Core.Bool.{Bool, true, false, true≢false, cond, ◌&&◌, and-eq-true_iff}
use mathlib.Core.List.{List}
use mathlib.Core.Path.{◌≡◌, refl, ◌∙◌}
use native.Mathlib.Omega.{arith}
use borrow.Author.Tests.{le-leb, leb-true, ltb-false}
use lib.Dec.{leb, ltb}
use lib.IntN.{ℤ}
use Rattle.small_chunks.specs.Pan.{held_to_unity}
use Rattle.envelope.specs.Envelope.{level_at, total_duration}
use Rattle.sheet_layout.specs.Members.{points_in}
use Rattle.note_envelope.specs.Cursor.{Follows}
use Rattle.note_envelope.specs.declared.EnvelopeCursor.{EnvelopeCursor}
use Rattle.note_path.specs.Run.{place_of, Reached}
use Rattle.note_path.specs.declared.run.Path.{Path}
use Rattle.note_path.specs.declared.run.Run.{Run}
use Rattle.note_path.proofs.RunLaws.{reached_good, reached_later}
use Rattle.note_path.proofs.EndLaws.{place_end}
use Rattle.note_frame.specs.Frame.{silent, step_of, ms_since}
use Rattle.note_frame.specs.Gains.{frame_with}
use Rattle.note_frame.specs.declared.chain.Gains.{Gains}
use Rattle.note_frame.proofs.ChainLaws.{no_place, no_level}
use Rattle.note_stage.specs.Block.{stage_level, stage_frame, Timed, run_frame, is_over}
use Rattle.note_stage.specs.declared.Stage.{Stage}
use Rattle.note_stage.proofs.PlayheadLaws.{step_later, ms_later}
use Rattle.std.specs.Prelude.{None, Option, Some}

-- ---- a stage

pub stage_frame_is : (g : Gains) (path : Path) (s : Stage) (points segments : List ℕ) (left right : List ℤ) (p : ℕ)
    → stage_frame g path s points segments left right p
    ≡ frame_with g left right (step_of s.step p) (place_of path segments (step_of s.step p)) (stage_level points s.level s.ends (ms_since s.rate s.since p))
unfolding stage_frame
stage_frame_is g path s points segments left right p = refl

module _ (points : List ℕ) (start : ℤ) (ends : Bool) (t : ℕ) where
  pub stage_held : ends ≡ false → stage_level points start ends t ≡ Some (held_to_unity (level_at (points_in points) start t))
  unfolding stage_level
  stage_held h = rw h

  pub stage_ends : ends ≡ true → stage_level points start ends t ≡ cond (leb (total_duration (points_in points)) t) None (Some (held_to_unity (level_at (points_in points) start t)))
  unfolding stage_level
  stage_ends h = rw h

  -- the level that a cursor says
  level_is : (now : ℕ) (ended : Bool) → now ≡ held_to_unity (level_at (points_in points) start t) → ended ≡ leb (total_duration (points_in points)) t
      → stage_level points start ends t ≡ cond (ends && ended) None (Some now)
  unfolding stage_level
  level_is now ended n d = rw (n, d)

-- ---- the note goes on

-- cursors that have been led to frame p₀
module _ (g : Gains) (path : Path) (s : Stage) (points segments : List ℕ) (left right : List ℤ) (timed : Timed s) (p₀ : ℕ) (e : EnvelopeCursor) (r : Run)
    (follows : Follows points s.level (ms_since s.rate s.since p₀) e) (reached : Reached path segments (step_of s.step p₀) r) where
  level_here : (p : ℕ) → p₀ ≤ p → ms_since s.rate s.since p < e.until → stage_level points s.level s.ends (ms_since s.rate s.since p) ≡ cond (s.ends && e.ended) None (Some e.now)
  level_here p h l =
      let t = ms_since s.rate s.since p in
      let later = ms_later timed p₀ p h in
      level_is points s.level s.ends t e.now e.ended (follows.now_is t later l) (follows.ended_is t later l)

  -- where the frame isn't over, those up to where the cursors say are made by the run and the level in hand
  pub frame_here : is_over s.ends e r (step_of s.step p₀) ≡ false → (p : ℕ) → p₀ ≤ p → step_of s.step p < r.until → ms_since s.rate s.since p < e.until
      → stage_frame g path s points segments left right p ≡ run_frame g r e.now left right (step_of s.step p)
  frame_here goes p h a b =
      let q = step_of s.step p in
      let place : place_of path segments q ≡ Some (r.start + (q - r.from)) = (reached_good reached).here q (reached_later reached q (step_later timed p₀ p h)) a in
      rw (stage_frame_is g path s points segments left right p, place, level_here p h b, not_ended (ltb (step_of s.step p₀) r.until) goes)
    where
      not_ended : (in_run : Bool) → cond in_run (s.ends && e.ended) true ≡ false → (s.ends && e.ended) ≡ false
      not_ended true x = x
      not_ended false x = absurd (true≢false x)

  -- ---- the note is over

  past_path : r.until ≤ step_of s.step p₀ → (p : ℕ) → p₀ ≤ p → stage_frame g path s points segments left right p ≡ silent
  past_path past p h =
      let q = step_of s.step p in
      let none_left = place_end path segments (step_of s.step p₀) q (step_later timed p₀ p h) (reached.past past) in
      rw (stage_frame_is g path s points segments left right p, none_left) (no_place g left right q _)

  past_points : (s.ends && leb (total_duration (points_in points)) (ms_since s.rate s.since p₀)) ≡ true
      → (p : ℕ) → p₀ ≤ p → stage_frame g path s points segments left right p ≡ silent
  past_points past p h =
      let both = (and-eq-true_iff s.ends (leb (total_duration (points_in points)) (ms_since s.rate s.since p₀))).0 past in
      let t = ms_since s.rate s.since p in
      let ended : total_duration (points_in points) ≤ t = omega (arith, leb-true (total_duration (points_in points)) (ms_since s.rate s.since p₀) both.1, ms_later timed p₀ p h) in
      let no : stage_level points s.level s.ends t ≡ None = stage_ends points s.level s.ends t both.0 ∙ rw (le-leb (total_duration (points_in points)) t ended) in
      rw (stage_frame_is g path s points segments left right p, no) (quiet (step_of s.step p) (place_of path segments (step_of s.step p)))
    where
      quiet : (q : ℕ) (place : Option ℕ) → frame_with g left right q place None ≡ silent
      quiet q None = no_place g left right q None
      quiet q (Some i) = no_level g left right q i

  pub rest_over : ms_since s.rate s.since p₀ < e.until → is_over s.ends e r (step_of s.step p₀) ≡ true → (p : ℕ) → p₀ ≤ p → stage_frame g path s points segments left right p ≡ silent
  rest_over told over = go (ltb (step_of s.step p₀) r.until) refl over
    where
      t₀ : ℕ
      t₀ = ms_since s.rate s.since p₀

      go : (in_run : Bool) → ltb (step_of s.step p₀) r.until ≡ in_run → cond in_run (s.ends && e.ended) true ≡ true
          → (p : ℕ) → p₀ ≤ p → stage_frame g path s points segments left right p ≡ silent
      go true t x = past_points (rw (follows.ended_is t₀ (omega arith) told) at x)
      go false t x = past_path (ltb-false (step_of s.step p₀) r.until t)
