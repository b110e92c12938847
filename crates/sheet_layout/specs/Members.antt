-- What the code's helpers ask and give; no reader of the meanings needs it.
-- The members of a part of the sheet, read off its bytes: the points of its envelopes, or the segments of its sequence.
use Rattle.std.specs.Prelude.{ℕ, ◌+◌, ◌-◌, cond, ◌≡◌, List, [], ◌∷◌, map, eqb, length, take, drop, Option, option_map}
use Rattle.std.specs.List.{position}
use Rattle.laws.specs.Walk.{Front, more, last, walk}
use Rattle.sheet.specs.Allowed.{All}
use Rattle.small_chunks.specs.Envelope.{point_of}
use Rattle.small_chunks.specs.Sequence.{segment_of}
use Rattle.small_chunks.specs.declared.points.EgPoint.{EgPoint}
use Rattle.small_chunks.specs.declared.sequence.SeqnSegment.{SeqnSegment}
use Rattle.sheet_layout.specs.Joined.{joined}

-- the bytes from one place up to another
abbrev pub between : ℕ → ℕ → List ℕ → List ℕ
between at next s = take (next - at) (drop at s)

-- a record of the member's kind, whose body has n bytes, is a member; a byte of another kind opens a group and is passed over
abbrev pub first_member : ℕ → ℕ → List ℕ → Front (List (List ℕ))
first_member member n [] = last []
first_member member n (kind ∷ l) = cond (eqb kind member) (more (take n l ∷ []) n) (more [] 0)

-- the bodies of the members, in order
unfoldable pub members_in : ℕ → ℕ → List ℕ → List (List ℕ)
members_in member n part = joined (walk (first_member member n) 0 part)

-- the points of a part that holds attacks or releases
abbrev pub points_in : List ℕ → List EgPoint
points_in part = map point_of (members_in 6 6 part)

-- the segments of a part that holds a sequence
abbrev pub segments_in : List ℕ → List SeqnSegment
segments_in part = map segment_of (members_in 8 8 part)

-- no member is cut off by the end of the part
abbrev pub Whole : ℕ → ℕ → List ℕ → Type 0
Whole member n part = All (λ body. length body ≡ n) (members_in member n part)

-- from a place on, where the next member begins, if one follows
abbrev pub next_member : ℕ → ℕ → List ℕ → Option ℕ
next_member member at part = option_map (λ k. at + k) (position (λ kind. eqb kind member) (drop at part))
