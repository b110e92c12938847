-- `note_frame::fade::with_fade` meets its contract: the path is short, so no length is held, no product passes 64 bits and no cast cuts one.
use Prim.Native.Nat.{ℕ, ◌*◌, ◌<◌, ◌^◌, min}
use mathlib.Core.List.{List}
use mathlib.Core.Path.{◌≡◌, ap, ◌∙◌}
use native.Mathlib.Nat.{lt_of_le_of_lt}
use native.Mathlib.Omega.{arith}
use lib.ListN.{length, take}
use Rattle.small_chunks.specs.declared.sequence.SeqnSegment.{SeqnSegment}
use Rattle.sheet_layout.specs.Members.{segments_in}
use Rattle.note_path.specs.Path.{joined_length}
use Rattle.note_path.proofs.LengthLaws.{length-take, take_all_segments}
use Rattle.note_frame.proofs.GainsLaws.{octave_length}
use Rattle.note_frame.proofs.fade.with_fade.Goals as goal

-- the segments before the fade's are no longer than all
short : (k count : ℕ) (segments : List SeqnSegment) → joined_length (2 ^ k) segments < 2 ^ 32 → joined_length (2 ^ k) (take count segments) < 2 ^ 32
short k count segments fits = lt_of_le_of_lt (length-take (2 ^ k) count segments) fits

-- where the fade begins, and where it ends with the path
start_is : (k scale n count : ℕ) (segments : List SeqnSegment) → scale ≡ 2 ^ k → joined_length (2 ^ k) segments < 2 ^ 32
    → n ≡ min (joined_length 1 (take count segments)) (2 ^ 32) → n * scale ≡ joined_length (2 ^ k) (take count segments)
start_is k scale n count segments is fits e = octave_length k scale n (take count segments) is (short k count segments fits) e

length_is : (k scale n : ℕ) (part : List ℕ) → scale ≡ 2 ^ k → joined_length (2 ^ k) (segments_in part) < 2 ^ 32
    → n ≡ min (joined_length 1 (take (length part) (segments_in part))) (2 ^ 32) → n * scale ≡ joined_length (2 ^ k) (segments_in part)
length_is k scale n part is fits e =
    octave_length k scale n (segments_in part) is fits (e ∙ ap (λ ss. min (joined_length 1 ss) (2 ^ 32)) (take_all_segments part))

pub overflow_mul-fade_start : goal.overflow_mul-fade_start
overflow_mul-fade_start c =
    let a = c.args in
    let segments = segments_in a.segments.now in
    omega (
      arith,
      start_is a.k c.power_of_two-scale.result c.sequence_length.result a.f.segment segments c.power_of_two-scale.ensures c.requires.2 c.sequence_length.ensures,
      short a.k a.f.segment segments c.requires.2,
    )

pub overflow_mul-path_length : goal.overflow_mul-path_length
overflow_mul-path_length c =
    let a = c.args in
    omega (
      arith,
      length_is a.k c.power_of_two-scale.result c.sequence_length-2.result a.segments.now c.power_of_two-scale.ensures c.requires.2 c.sequence_length-2.ensures,
      c.requires.2,
    )

pub overflow_cast-result : goal.overflow_cast-result
overflow_cast-result c =
    let a = c.args in
    let segments = segments_in a.segments.now in
    omega (
      arith,
      start_is a.k c.power_of_two-scale.result c.sequence_length.result a.f.segment segments c.power_of_two-scale.ensures c.requires.2 c.sequence_length.ensures,
      short a.k a.f.segment segments c.requires.2,
    )

pub overflow_cast-result-2 : goal.overflow_cast-result-2
overflow_cast-result-2 c =
    let a = c.args in
    omega (
      arith,
      length_is a.k c.power_of_two-scale.result c.sequence_length-2.result a.segments.now c.power_of_two-scale.ensures c.requires.2 c.sequence_length-2.ensures,
      c.requires.2,
    )

pub returns : goal.returns
returns c =
    let a = c.args in
    let scale = c.power_of_two-scale in
    simp (
      start_is a.k scale.result c.sequence_length.result a.f.segment (segments_in a.segments.now) scale.ensures c.requires.2 c.sequence_length.ensures,
      length_is a.k scale.result c.sequence_length-2.result a.segments.now scale.ensures c.requires.2 c.sequence_length-2.ensures,
    )
