-- Segments joined: how long they are, which steps have a place, and what it says that they are valid.
--     scaled_length                                               offsets times `scale` make the length times `scale`
--     length-take                                                 the first of them are no longer than all
--     add_length, length_list                                     their length up to 2^32, added up one by one
--     steps_none, steps_here, steps_past                          where a step lies: nowhere, in the first of them, or in those after it
--     path_ends, sequence_ends                                    a step that has a place lies before the path's end
--     valid_list                                                  each of them is valid
--     valid_order                                                 valid segments lie within the highest octave
--     take_all_segments                                           a part has no more segments than bytes
-- Assumes nothing.
use Prim.Native.Nat.{ℕ, zero, suc, ◌+◌, ◌-◌, ◌*◌, ◌≤◌, ◌<◌, ◌^◌, min}
use mathlib.Core.Bool.{Bool, true, false, cond, ◌&&◌, and-eq-true_iff}
use mathlib.Core.List.{List, [], ◌∷◌}
use mathlib.Core.Path.{◌≡◌, refl, sym, ap, ◌∙◌}
use native.Mathlib.Nat.{add-mul, mul-one, zero-mul}
use native.Mathlib.Omega.{arith}
use borrow.Author.Tests.{lt-ltb, le-ltb, ltb-true, ltb-false, eqb-true, eqb-false}
use lib.Dec.{ltb, eqb}
use lib.ListN.{length, take, drop, length-map, length-drop}
use lib.Seq.{take_all}
use Rattle.laws.proofs.Cases.{impossible}
use Rattle.header.specs.declared.voice_header.VoiceHeader.{VoiceHeader}
use Rattle.small_chunks.specs.Sequence.{segment_length, segment_valid, segment_verdict}
use Rattle.small_chunks.specs.declared.sequence.SeqnSegment.{SeqnSegment}
use Rattle.small_chunks.proofs.SequenceLaws.{playable_of}
use Rattle.sheet_layout.specs.Members.{members_in, segments_in}
use Rattle.sheet_layout.proofs.MemberLaws.{none_left, opener_passed, member_first}
use Rattle.note_path.specs.Path.{segments_path, octave_start, path_of, joined_length, all_valid}
use Rattle.note_path.specs.Run.{InOrder}
use Rattle.note_path.proofs.OctavePathLaws.{path_sequence}
use Rattle.refusal.specs.declared.Refusal.TheVariants.{Segment}
use Rattle.std.specs.Prelude.{Err, None, Some}
use Rattle.std.specs.Result.{is_ok}
use Rattle.std.specs.List.{fold, list_all}
use Rattle.refusal.specs.Outcome.{accepted}

-- ---- the length

pub scaled_length : (scale : ℕ) (ss : List SeqnSegment) → joined_length scale ss ≡ joined_length 1 ss * scale
unfolding joined_length
scaled_length scale [] = sym (zero-mul scale)
scaled_length scale (s ∷ ss) =
    ap (λ (n : ℕ). segment_length s * scale + n) (scaled_length scale ss)
    ∙ rw (mul-one (segment_length s)) (sym (add-mul (segment_length s) (joined_length 1 ss) scale))

pub length-take : (scale n : ℕ) (ss : List SeqnSegment) → joined_length scale (take n ss) ≤ joined_length scale ss
unfolding joined_length
length-take scale zero ss = omega arith
length-take scale (suc n) [] = omega arith
length-take scale (suc n) (s ∷ ss) = omega (arith, length-take scale n ss)

-- ---- the length up to 2^32

-- a sum, and a segment added to it
abbrev pub add_length : ℕ → SeqnSegment → ℕ
add_length sum s = min (min (sum + segment_length s) (2 ^ 64 - 1)) (2 ^ 32)

length_from : (sum : ℕ) (ss : List SeqnSegment) → sum ≤ 2 ^ 32 → fold add_length sum ss ≡ min (sum + joined_length 1 ss) (2 ^ 32)
unfolding joined_length
length_from sum [] h = omega arith
length_from sum (s ∷ ss) h = length_from (add_length sum s) ss (omega arith) ∙ omega arith

pub length_list : (ss : List SeqnSegment) → fold add_length 0 ss ≡ min (joined_length 1 ss) (2 ^ 32)
length_list ss = length_from 0 ss (omega arith) ∙ omega arith

-- ---- the steps

module _ (first scale : ℕ) where
  pub steps_none : (q : ℕ) → segments_path first scale [] q ≡ None
  unfolding segments_path
  steps_none q = refl

  module _ (s : SeqnSegment) (ss : List SeqnSegment) (q : ℕ) where
    pub steps_here : q < segment_length s * scale → segments_path first scale (s ∷ ss) q ≡ Some (first + s.start * scale + q)
    unfolding segments_path
    steps_here h = rw (lt-ltb q (segment_length s * scale) h)

    pub steps_past : segment_length s * scale ≤ q → segments_path first scale (s ∷ ss) q ≡ segments_path first scale ss (q - segment_length s * scale)
    unfolding segments_path
    steps_past h = rw (le-ltb q (segment_length s * scale) h)

path_ends : (first scale : ℕ) (ss : List SeqnSegment) (q i : ℕ) → segments_path first scale ss q ≡ Some i → q < joined_length scale ss
unfolding segments_path joined_length
path_ends first scale [] q i e = impossible cc
path_ends first scale (s ∷ ss) q i e = go (path_ends first scale ss (q - segment_length s * scale) i) (ltb q (segment_length s * scale)) refl e
  where
    go : (segments_path first scale ss (q - segment_length s * scale) ≡ Some i → q - segment_length s * scale < joined_length scale ss) → (t : Bool)
        → ltb q (segment_length s * scale) ≡ t
        → cond t (Some (first + s.start * scale + q)) (segments_path first scale ss (q - segment_length s * scale)) ≡ Some i
        → q < segment_length s * scale + joined_length scale ss
    go later true t e = omega (arith, ltb-true q (segment_length s * scale) t)
    go later false t e = omega (arith, ltb-false q (segment_length s * scale) t, later e)

-- of a voice's sequence in octave k
pub sequence_ends : (segments : List SeqnSegment) (h : VoiceHeader) (n k q i : ℕ) → path_of (Some segments) h n k q ≡ Some i → q < joined_length (2 ^ k) segments
sequence_ends segments h n k q i e = path_ends (octave_start h k) (2 ^ k) segments q i (sym (path_sequence h n k q segments) ∙ e)

-- ---- their validity

pub valid_list : (n : ℕ) (ss : List SeqnSegment) → list_all (λ s. is_ok (segment_verdict s n)) ss ≡ all_valid ss n
unfolding all_valid
valid_list n [] = refl
valid_list n (s ∷ ss) = go (valid_list n ss) (segment_valid s n)
  where
    go : list_all (λ s. is_ok (segment_verdict s n)) ss ≡ all_valid ss n → (t : Bool)
        → (is_ok (cond t accepted (Err Segment)) && list_all (λ s. is_ok (segment_verdict s n)) ss) ≡ (t && all_valid ss n)
    go e true = e
    go e false = refl

pub valid_order : (ss : List SeqnSegment) (n : ℕ) → all_valid ss n ≡ true → InOrder n ss
unfolding all_valid
valid_order [] n v = tt
valid_order (s ∷ ss) n v =
    let both = (and-eq-true_iff (segment_valid s n) (all_valid ss n)).0 v in
    let p = playable_of s n (rw both.0) in
    (p.ordered, p.within, valid_order ss n both.1)

-- ---- how many lie in a part

-- each member takes a byte at least
module _ (member n : ℕ) where
  none_fit : length (members_in member n []) ≤ 0
  none_fit = rw (none_left member n) (omega arith)

  members_fit : (most : ℕ) (part : List ℕ) → length part ≤ most → length (members_in member n part) ≤ length part
  members_fit zero [] h = none_fit
  members_fit zero (kind ∷ l) h = absurd (omega arith)
  members_fit (suc most) [] h = none_fit
  members_fit (suc most) (kind ∷ l) h = go (λ part g. members_fit most part g) (eqb kind member) refl
    where
      go : ((part : List ℕ) → length part ≤ most → length (members_in member n part) ≤ length part) → (t : Bool) → eqb kind member ≡ t → length (members_in member n (kind ∷ l)) ≤ length (kind ∷ l)
      go fit true e =
          let d = length-drop n l in
          rw (eqb-true kind member e, member_first member n l) (omega (arith, fit (drop n l) (omega arith)))
      go fit false e = rw (opener_passed member n kind l (eqb-false kind member e)) (omega (arith, fit l (omega arith)))

pub take_all_segments : (part : List ℕ) → take (length part) (segments_in part) ≡ segments_in part
take_all_segments part = take_all (length part) (segments_in part) (rw length-map (members_fit 8 8 (length part) part (omega arith)))
