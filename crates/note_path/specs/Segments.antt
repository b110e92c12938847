-- What an iterator over the segments of a part gives; no reader of the meanings needs it.
use Rattle.std.specs.Prelude.{List, [], ◌∷◌, ◌≡◌, ◌≤◌, length, drop, Option, MatchOption}
use Rattle.small_chunks.specs.declared.sequence.SeqnSegment.{SeqnSegment}
use Rattle.sheet_layout.specs.Members.{segments_in, Whole}
use Rattle.note_path.specs.declared.segments.Segments.{Segments}

-- the segments that are left
abbrev pub left : Segments → List SeqnSegment
left s = segments_in (drop s.at s.part.now)

-- it stands in the part, and none of them is cut off
abbrev pub Stands : Segments → Type 0
Stands s = (s.at ≤ length s.part.now) × Whole 8 8 (drop s.at s.part.now)

-- the first of them is taken and the others are left in the same part, or none is left
abbrev pub Takes : Segments → Option SeqnSegment → Segments → Type 0
Takes s r t = MatchOption r ((left s ≡ []) × (t ≡ s)) (λ x. (left s ≡ x ∷ left t) × (t.part ≡ s.part))
