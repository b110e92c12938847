-- The path of a note (the specification's word): for each step the place of the sample that sounds, or none past the path's end.
use Rattle.std.specs.Prelude.{ℕ, ◌+◌, ◌-◌, ◌*◌, ◌%◌, ◌^◌, Bool, true, cond, ◌&&◌, List, [], ◌∷◌, eqb, ltb, None, Option, Some}
use Rattle.header.specs.Octaves.{hi}
use Rattle.header.specs.declared.voice_header.VoiceHeader.{VoiceHeader}
use Rattle.small_chunks.specs.Sequence.{segment_length, segment_valid}
use Rattle.small_chunks.specs.declared.sequence.SeqnSegment.{SeqnSegment}

-- segments joined, their offsets times `scale`, in an octave whose samples begin at `first`
unfoldable pub segments_path : ℕ → ℕ → List SeqnSegment → ℕ → Option ℕ
segments_path first scale [] q = None
segments_path first scale (s ∷ ss) q =
    cond (ltb q (segment_length s * scale)) (Some (first + s.start * scale + q)) (segments_path first scale ss (q - segment_length s * scale))

-- the one-shot part, then the repeat part for ever
unfoldable pub loop_path : ℕ → ℕ → ℕ → ℕ → Option ℕ
loop_path first one_shot repeat q =
    cond (ltb q one_shot) (Some (first + q)) (cond (eqb repeat 0) None (Some (first + one_shot + (q - one_shot) % repeat)))

-- n samples once
unfoldable pub samples_path : ℕ → ℕ → Option ℕ
samples_path n q = cond (ltb q n) (Some q) None

-- octave k follows the octaves before it, which are shorter
abbrev pub octave_start : VoiceHeader → ℕ → ℕ
octave_start h k = hi h * (2 ^ k - 1)

-- the path in octave k, of sides with n samples: the sequence; or the one-shot, then the repeat; or, if hi = 0, the samples once
unfoldable pub path_of : Option (List SeqnSegment) → VoiceHeader → ℕ → ℕ → ℕ → Option ℕ
path_of (Some segments) h n k q = segments_path (octave_start h k) (2 ^ k) segments q
path_of None h n k q =
    cond (eqb (hi h) 0) (samples_path n q)
    (loop_path (octave_start h k) (h.one_shot_hi_samples * 2 ^ k) (h.repeat_hi_samples * 2 ^ k) q)

-- the segments of a sequence; without one there are none
abbrev pub segments_of : Option (List SeqnSegment) → List SeqnSegment
segments_of None = []
segments_of (Some segments) = segments

-- the length of segments joined, their offsets times `scale`
unfoldable pub joined_length : ℕ → List SeqnSegment → ℕ
joined_length scale [] = 0
joined_length scale (s ∷ ss) = segment_length s * scale + joined_length scale ss

-- every segment is valid
unfoldable pub all_valid : List SeqnSegment → ℕ → Bool
all_valid [] n = true
all_valid (s ∷ ss) n = segment_valid s n && all_valid ss n
