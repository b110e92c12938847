-- What the code carries through a block within one stage of the envelope, what a block asks, and what it gives. No reader of the
-- definition of a frame needs it.
use Rattle.std.specs.Prelude.{ℕ, ◌+◌, ◌-◌, ◌*◌, ◌/◌, ◌≤◌, ◌<◌, ◌^◌, Bool, true, cond, ◌&&◌, List, ◌++◌, ◌≡◌, leb, ltb, ℤ, length, drop, None, Option, Some}
use Rattle.laws.specs.Put.{Put}
use Rattle.small_chunks.specs.Pan.{held_to_unity}
use Rattle.envelope.specs.Envelope.{level_at, total_duration}
use Rattle.sheet_layout.specs.Members.{points_in, Whole}
use Rattle.note_clock.specs.Clock.{Shows}
use Rattle.note_envelope.specs.declared.EnvelopeCursor.{EnvelopeCursor}
use Rattle.note_path.specs.Run.{place_of, Sane}
use Rattle.note_path.specs.declared.run.Path.{Path}
use Rattle.note_path.specs.declared.run.Run.{Run}
use Rattle.note_frame.specs.Frame.{silent, step_of, ms_since}
use Rattle.note_frame.specs.Frames.{frames_from, interleaved, sounding}
use Rattle.note_frame.specs.Gains.{frame_with, Bounded}
use Rattle.note_frame.specs.declared.chain.Gains.{Gains}
use Rattle.note_frame.specs.declared.chain.Frame.{Frame}
use Rattle.note_stage.specs.declared.playhead.Playhead.{Playhead}
use Rattle.note_stage.specs.declared.Stage.{Stage}

-- ---- the frames of a stage

-- the level of a stage at a time, held within 0..65,536, or none where a stage that ends has ended
unfoldable pub stage_level : List ℕ → ℤ → Bool → ℕ → Option ℕ
stage_level points start ends t = cond (ends && leb (total_duration (points_in points)) t) None (Some (held_to_unity (level_at (points_in points) start t)))

-- frame p of a stage
unfoldable pub stage_frame : Gains → Path → Stage → List ℕ → List ℕ → List ℤ → List ℤ → ℕ → Frame
stage_frame g path s points segments left right p =
    frame_with g left right (step_of s.step p) (place_of path segments (step_of s.step p)) (stage_level points s.level s.ends (ms_since s.rate s.since p))

-- ---- the playhead

-- step and rate are within what a note may have
pub record Timed (s : Stage) : Type 0 where
  pub rate_some : 0 < s.rate
  pub rate_fits : s.rate ≤ 192000
  pub step_fits : s.step ≤ 16777216

-- at its frame p: p times the step on the path, and quotient and remainder of 1,000 × (p - since) by the rate
pub record Stands (s : Stage) (h : Playhead) : Type 0 where
  pub place_is : h.place ≡ h.frame * s.step
  pub clock_is : Shows s.rate (h.frame - s.since) h.clock

-- ---- a stretch of frames

-- the frame is before the block's end, before step `until` and before millisecond `ms`
abbrev pub goes_on : ℕ → ℕ → ℕ → Playhead → Bool
goes_on until ms end h = ltb h.frame end && ltb (h.place / 65536) until && ltb h.clock.ms ms

-- what such frames ask of a block that began with frame m: that there is one
pub record StretchReady (s : Stage) (until ms m end : ℕ) (h : Playhead) (out : List ℤ) : Type 0 where
  pub timed : Timed s
  pub stands : Stands s h
  pub goes : goes_on until ms end h ≡ true
  pub since_then : s.since ≤ m
  pub first : m ≤ h.frame
  pub in_time : end < 2 ^ 32
  pub room : 2 * (end - m) ≤ length out

-- what they give: one frame or more, those of f, stored where they belong
pub record Stretched (f : ℕ → Frame) (s : Stage) (until ms m end : ℕ) (h : Playhead) (before after : List ℤ) (h' : Playhead) : Type 0 where
  pub further : h.frame < h'.frame
  pub within : h'.frame ≤ end
  pub stands : Stands s h'
  pub in_steps : (p : ℕ) → h.frame ≤ p → p < h'.frame → step_of s.step p < until
  pub in_level : (p : ℕ) → h.frame ≤ p → p < h'.frame → ms_since s.rate s.since p < ms
  pub stored : Put before (2 * (h.frame - m)) (interleaved (frames_from f h.frame (h'.frame - h.frame))) after (2 * (h'.frame - m))

-- ---- one run at one level

-- the frame of step q by the run and the level in hand
abbrev pub run_frame : Gains → Run → ℕ → List ℤ → List ℤ → ℕ → Frame
run_frame g r level left right q = frame_with g left right q (Some (r.start + (q - r.from))) (Some level)

-- the run lies within the samples and, where that matters, within the path's length
pub record Suits (g : Gains) (r : Run) (level : ℕ) (left right : List ℤ) : Type 0 where
  pub bounded : Bounded g
  pub level_small : level ≤ 65536
  pub in_left : r.start + (r.until - r.from) ≤ length left
  pub in_right : g.stereo ≡ true → length left ≤ length right
  pub on_path : g.fades ≡ true → (q : ℕ) → r.from ≤ q → q < r.until → q < g.path_length

-- past the run, or past the points of a stage that ends
abbrev pub is_over : Bool → EnvelopeCursor → Run → ℕ → Bool
is_over ends e r q = cond (ltb q r.until) (ends && e.ended) true

-- ---- the block

-- what a block of d frames from frame m on asks
pub record Playable (g : Gains) (path : Path) (s : Stage) (points segments : List ℕ) (left right : List ℤ) (m d : ℕ) (out : List ℤ) : Type 0 where
  pub bounded : Bounded g
  pub sane : Sane path segments
  pub points_whole : Whole 6 6 points
  pub samples_are : path.samples ≡ length left
  pub sides_are : g.stereo ≡ true → length left ≤ length right
  pub fade_ends : g.fades ≡ true → (q i : ℕ) → place_of path segments q ≡ Some i → q < g.path_length
  pub timed : Timed s
  pub since_then : s.since ≤ m
  pub in_time : m + d < 2 ^ 32
  pub room : 2 * d ≤ length out

-- what it gives: r frames at the front of the buffer, none of which is over, and that those after them are
pub record Played (f : ℕ → Frame) (m d : ℕ) (before after : List ℤ) (r : ℕ) : Type 0 where
  pub within : r ≤ d
  pub out_is : after ≡ interleaved (frames_from f m r) ++ drop (2 * r) before
  pub count_is : r ≡ sounding (frames_from f m r)
  pub rest_over : (p : ℕ) → m + r ≤ p → p < m + d → f p ≡ silent
