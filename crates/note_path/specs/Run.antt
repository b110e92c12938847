-- What the code carries along a path, and asks of it; no reader of the meanings needs it. A path in numbers, and a run: a stretch of the
-- path whose samples lie side by side.
use Rattle.std.specs.Prelude.{ℕ, ◌+◌, ◌-◌, ◌*◌, ◌≤◌, ◌<◌, ◌^◌, Bool, true, cond, List, [], ◌∷◌, ◌≡◌, length, drop, None, Option, Some}
use Rattle.header.specs.Octaves.{hi}
use Rattle.header.specs.declared.voice_header.VoiceHeader.{VoiceHeader}
use Rattle.small_chunks.specs.declared.sequence.SeqnSegment.{SeqnSegment}
use Rattle.sheet_layout.specs.Members.{segments_in, Whole}
use Rattle.note_path.specs.Path.{segments_path, loop_path, path_of}
use Rattle.note_path.specs.declared.run.Path.{Path}
use Rattle.note_path.specs.declared.run.Run.{Run}

-- the path of these numbers
unfoldable pub place_of : Path → List ℕ → ℕ → Option ℕ
place_of p part q = cond p.sequence (segments_path p.first p.scale (segments_in part) q) (loop_path p.first p.one_shot p.repeat q)

-- every segment lies within the n samples
abbrev pub Within : ℕ → ℕ → ℕ → List SeqnSegment → Type 0
Within first scale n [] = Unit
Within first scale n (s ∷ ss) = (s.start ≤ s.end) × (first + s.end * scale ≤ n) × Within first scale n ss

-- every segment lies within the highest octave
abbrev pub InOrder : ℕ → List SeqnSegment → Type 0
InOrder n [] = Unit
InOrder n (s ∷ ss) = (s.start ≤ s.end) × (s.end ≤ n) × InOrder n ss

-- octave k is there among n samples, and the segments lie within it
pub record InOctave (h : VoiceHeader) (k n : ℕ) (segments : List SeqnSegment) : Type 0 where
  pub octave_small : k < 64
  pub samples_small : n < 2 ^ 63
  pub octave_within : hi h * (2 ^ k - 1) + hi h * 2 ^ k ≤ n
  pub sole_octave : hi h ≡ 0 → k ≡ 0
  pub in_order : InOrder (hi h) segments

-- all that a run can reach lies within the samples
pub record Sane (p : Path) (part : List ℕ) : Type 0 where
  pub small : p.samples < 2 ^ 63
  pub looped : p.first + (p.one_shot + p.repeat) ≤ p.samples
  pub segments : Within p.first p.scale p.samples (segments_in part)
  pub whole : Whole 8 8 part

-- the run says where its steps lie, and what comes after it
pub record Good (p : Path) (part : List ℕ) (r : Run) : Type 0 where
  pub inside : r.at ≤ length part
  pub order : r.from ≤ r.until
  pub within : r.start + (r.until - r.from) ≤ p.samples
  pub here : (q : ℕ) → r.from ≤ q → q < r.until → place_of p part q ≡ Some (r.start + (q - r.from))
  pub rest : Within p.first p.scale p.samples (segments_in (drop r.at part))
  pub whole : Whole 8 8 (drop r.at part)
  pub later : p.sequence ≡ true → (q : ℕ) → r.until ≤ q → place_of p part q ≡ segments_path p.first p.scale (segments_in (drop r.at part)) (q - r.until)

-- the run that has step q, or is past the path
pub record Reached (p : Path) (part : List ℕ) (q : ℕ) (r : Run) : Type 0 where
  pub good : Good p part r
  pub begun : r.from ≤ q
  pub past : r.until ≤ q → place_of p part q ≡ None

-- the segments of a part, if there is a sequence
abbrev pub sequence_in : Bool → List ℕ → Option (List SeqnSegment)
sequence_in there part = cond there (Some (segments_in part)) None

-- a path in numbers for octave k
pub record PathIs (h : VoiceHeader) (k : ℕ) (sequence : Bool) (samples : ℕ) (part : List ℕ) (p : Path) : Type 0 where
  pub sane : Sane p part
  pub samples_are : p.samples ≡ samples
  pub place_is : (q : ℕ) → place_of p part q ≡ path_of (sequence_in sequence part) h samples k q
