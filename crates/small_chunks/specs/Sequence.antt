-- SEQN's segments, and FADE, which names one of them.
use Rattle.std.specs.Prelude.{ℕ, ◌-◌, ◌%◌, Bool, ◌&&◌, cond, List, ◌++◌, map, eqb, leb, ltb, length, drop, Err, Ok, ⊤}
use Rattle.field.specs.BigEndian.{big_endian, big_endian_bytes}
use Rattle.field.specs.Tagged.{parts}
use Rattle.small_chunks.specs.declared.sequence.Fade.{Fade}
use Rattle.small_chunks.specs.declared.sequence.SeqnSegment.{SeqnSegment}
use Rattle.refusal.specs.declared.Refusal.TheVariants.{ChunkLength, Segment}
use Rattle.refusal.specs.Outcome.{Outcome}

-- the segment of eight bytes: start and end in the highest octave
unfoldable pub segment_of : List ℕ → SeqnSegment
segment_of l = record { start = big_endian 4 l; end = big_endian 4 (drop 4 l) }

-- the eight bytes of a segment
unfoldable pub segment_bytes : SeqnSegment → List ℕ
segment_bytes s = big_endian_bytes 4 s.start ++ big_endian_bytes 4 s.end

-- the segments of a SEQN
abbrev pub sequence_segments : List ℕ → List SeqnSegment
sequence_segments body = map segment_of (parts 8 body)

-- its samples: none where the end is not past the start
abbrev pub segment_length : SeqnSegment → ℕ
segment_length s = s.end - s.start

-- start and end are multiples of 4, and start ≤ end ≤ hi
abbrev pub segment_valid : SeqnSegment → ℕ → Bool
segment_valid s hi = eqb (s.start % 4) 0 && eqb (s.end % 4) 0 && leb s.start s.end && leb s.end hi

-- a segment that is not valid is refused by 21
abbrev pub segment_verdict : SeqnSegment → ℕ → Outcome ⊤
segment_verdict s hi = cond (segment_valid s hi) (Ok tt) (Err Segment)

-- four bytes: the segment, counted from 0, at which the fade begins
unfoldable pub fade_of : List ℕ → Fade
fade_of l = record { segment = big_endian 4 l }

-- its four bytes
unfoldable pub fade_bytes : Fade → List ℕ
fade_bytes f = big_endian_bytes 4 f.segment

-- a chunk under 4 bytes is refused by 6; what lies past them is ignored
abbrev pub parsed_fade : List ℕ → Outcome Fade
parsed_fade l = cond (ltb (length l) 4) (Err ChunkLength) (Ok (fade_of l))
