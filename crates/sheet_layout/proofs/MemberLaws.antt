-- The members of flat envelopes are their points, joined; those of a flat sequence are its segments. None is cut off.
-- Assumes nothing.
use mathlib.Core.Path.{◌≡◌, refl, sym, ap, ◌∙◌}
use mathlib.Core.List.{List, [], ◌∷◌, ◌++◌, map, append_assoc, append-nil, map-append}
use Prim.Native.Nat.{ℕ}
use native.Mathlib.Omega.{arith}
use borrow.Author.Tests.{ne_eqb, eq-eqb}
use lib.ListN.{length, take, drop}
use lib.Seq.{take_at, drop_at}
use Rattle.laws.specs.Walk.{each}
use Rattle.laws.proofs.WalkLaws.{walk_more, walk_last}
use Rattle.small_chunks.specs.Envelope.{point_of, point_bytes}
use Rattle.small_chunks.specs.Sequence.{segment_of, segment_bytes}
use Rattle.small_chunks.specs.declared.points.EgPoint.{EgPoint}
use Rattle.small_chunks.specs.declared.sequence.SeqnSegment.{SeqnSegment}
use Rattle.small_chunks.proofs.FieldLaws.{point_length, point_back, segment_length_lem, segment_back}
use Rattle.sheet.specs.Flat.{if_there, flat_point, flat_envelope, flat_segment, flat_sequence}
use Rattle.sheet.specs.Allowed.{All, PointFits, SegmentFits}
use Rattle.sheet_grammar.proofs.ListLaws.{all_append, map_back}
use Rattle.sheet_layout.specs.Joined.{joined}
use Rattle.sheet_layout.specs.Members.{first_member, members_in, points_in, segments_in, Whole}
use Rattle.std.specs.Prelude.{None, Option, Some}

module _ (member n : ℕ) where
  pub none_left : members_in member n [] ≡ []
  unfolding members_in
  none_left = ap joined (walk_last (first_member member n) refl [] [] refl)

  -- a byte that opens a group
  pub opener_passed : (kind : ℕ) (l : List ℕ) → (kind ≡ member → ⊥) → members_in member n (kind ∷ l) ≡ members_in member n l
  unfolding members_in
  opener_passed kind l other = ap joined (walk_more (first_member member n) refl (kind ∷ l) [] 0 (rw (ne_eqb kind member other)))

  -- a member, as much of it as there is
  pub member_first : (l : List ℕ) → members_in member n (member ∷ l) ≡ take n l ∷ members_in member n (drop n l)
  unfolding members_in
  member_first l = ap joined (walk_more (first_member member n) refl (member ∷ l) (take n l ∷ []) n (rw (eq-eqb member member refl)))

  -- a member that is all there
  pub member_read : (body rest : List ℕ) → length body ≡ n → members_in member n (member ∷ (body ++ rest)) ≡ body ∷ members_in member n rest
  member_read body rest e = member_first (body ++ rest) ∙ rw (take_at body rest n e, drop_at body rest n e)

  module _ {A : Type 0} (f : A → List ℕ) (size : (a : A) → length (f a) ≡ n) where
    members_read : (as' : List A) (rest : List ℕ) → members_in member n (each (λ a. member ∷ f a) as' ++ rest) ≡ map f as' ++ members_in member n rest
    members_read [] rest = refl
    members_read (a ∷ as') rest =
        rw (append_assoc (f a) (each (λ x. member ∷ f x) as') rest)
        (member_read (f a) (each (λ x. member ∷ f x) as' ++ rest) (size a) ∙ ap (λ (l : List (List ℕ)). f a ∷ l) (members_read as' rest))

    members_sized : (as' : List A) → All (λ body. length body ≡ n) (map f as')
    members_sized [] = tt
    members_sized (a ∷ as') = (size a, members_sized as')

-- ---- envelopes

envelope_members : (kind : ℕ) (es : List (List EgPoint)) → (kind ≡ 6 → ⊥) → members_in 6 6 (each (flat_envelope kind) es) ≡ map point_bytes (joined es)
envelope_members kind [] other = none_left 6 6
envelope_members kind (e ∷ es) other =
    opener_passed 6 6 kind (each flat_point e ++ each (flat_envelope kind) es) other
    ∙ members_read 6 6 point_bytes point_length e (each (flat_envelope kind) es)
    ∙ rw (envelope_members kind es other) (sym (map-append point_bytes e (joined es)))

pub envelope_whole : (kind : ℕ) (es : List (List EgPoint)) → (kind ≡ 6 → ⊥) → Whole 6 6 (each (flat_envelope kind) es)
envelope_whole kind es other = rw (envelope_members kind es other) (members_sized 6 6 point_bytes point_length (joined es))

point_same : (p : EgPoint) → PointFits p → point_of (point_bytes p) ≡ p
point_same p f = ap point_of (sym (append-nil (point_bytes p))) ∙ point_back p [] f.duration f.dest

all_points : (es : List (List EgPoint)) → All (All PointFits) es → All PointFits (joined es)
all_points [] h = tt
all_points (e ∷ es) h = all_append PointFits e (joined es) h.0 (all_points es h.1)

pub envelope_points_lem : (kind : ℕ) (es : List (List EgPoint)) → (kind ≡ 6 → ⊥) → All (All PointFits) es → points_in (each (flat_envelope kind) es) ≡ joined es
envelope_points_lem kind es other h = ap (map point_of) (envelope_members kind es other) ∙ map_back point_bytes point_of point_same (joined es) (all_points es h)

-- ---- the sequence

sequence_members : (segments : List SeqnSegment) → members_in 8 8 (flat_sequence segments) ≡ map segment_bytes segments
sequence_members segments =
    opener_passed 8 8 7 (each flat_segment segments) not_8
    ∙ ap (members_in 8 8) (sym (append-nil (each flat_segment segments)))
    ∙ members_read 8 8 segment_bytes segment_length_lem segments []
    ∙ ap (λ (l : List (List ℕ)). map segment_bytes segments ++ l) (none_left 8 8)
    ∙ append-nil (map segment_bytes segments)
  where
    not_8 : ◌≡◌ {A = ℕ} 7 8 → ⊥
    not_8 e = omega (arith, e)

-- a sequence that may be missing
pub segments_whole : (o : Option (List SeqnSegment)) → Whole 8 8 (if_there flat_sequence o)
segments_whole None = rw (none_left 8 8) tt
segments_whole (Some segments) = rw (sequence_members segments) (members_sized 8 8 segment_bytes segment_length_lem segments)

segment_same : (s : SeqnSegment) → SegmentFits s → segment_of (segment_bytes s) ≡ s
segment_same s f = ap segment_of (sym (append-nil (segment_bytes s))) ∙ segment_back s [] f.start f.end

pub sequence_segments_lem : (segments : List SeqnSegment) → All SegmentFits segments → segments_in (flat_sequence segments) ≡ segments
sequence_segments_lem segments h = ap (map segment_of) (sequence_members segments) ∙ map_back segment_bytes segment_of segment_same segments h
