-- The rules of a sequence, by what the code knows of it: the bytes between two places of the sheet, and what may be missing.
--     part_order, part_within         the places lie in the sheet, one after the other
--     part_segments, part_whole       the bytes between them hold the segments, none is cut off
--     beside_is, count_is, miss_is    the rules by the answers of the code are the rules
--     not_below                       a number that isn't below another
--     long_by_quotient, long_if_any   what the code compares a length with: a quotient by 2 ^ k, which is 0 from k = 32 on
-- Assumes nothing.
use Prim.Native.Nat.{ℕ, ◌*◌, ◌/◌, ◌^◌, ◌≤◌, ◌<◌, min}
use mathlib.Core.Bool.{Bool, true, false, not}
use mathlib.Core.List.{List}
use mathlib.Core.Path.{◌≡◌, refl, sym, ap, ◌∙◌}
use native.Mathlib.Nat.{div-le_self, div-eq_of_lt, div-lt_iff_lt-mul, le-div_iff_mul-le}
use native.Mathlib.Omega.{arith}
use borrow.Author.Tests.{lt-ltb, le-ltb, ltb-true, ltb-false, le-leb, lt-leb}
use lib.Dec.{leb, ltb}
use lib.ListN.{length, take, get_or}
use lib.Pow.{pow_pos, pow_mono}
use mir.Syntax.{w8}
use mir.Val.{Fits}
use Rattle.small_chunks.specs.declared.sequence.Fade.{Fade}
use Rattle.small_chunks.specs.declared.sequence.SeqnSegment.{SeqnSegment}
use Rattle.sheet.specs.Judge.{judged}
use Rattle.sheet.specs.Read.{read_sheet}
use Rattle.sheet_layout.specs.Layout.{layout_of}
use Rattle.sheet_layout.specs.Members.{between, segments_in, Whole}
use Rattle.sheet_layout.specs.declared.Layout.{Layout}
use Rattle.sheet_layout.proofs.PointLaws.{places, sequence_there, no_sequence, sequence_whole}
use Rattle.note_path.specs.Path.{segments_of, joined_length}
use Rattle.note_path.proofs.LengthLaws.{scaled_length, take_all_segments}
use Rattle.note_rules.specs.Answers.{beside_one_shot_by, fade_misses_by}
use Rattle.std.specs.Option.{unwrap_or}
use Rattle.note_rules.specs.Rules.{beside_one_shot, fade_misses}
use Rattle.std.specs.Prelude.{None, Ok, Option, Some, option_map}

-- ---- the bytes of a sequence

module _ (s : List ℕ) (bytes : (i : ℕ) → Fits w8 (get_or s i 0)) (sound : judged s ≡ Ok tt) (l : Layout) (is : l ≡ layout_of (read_sheet s)) where
  pub part_order : l.sequence ≤ l.fade
  part_order = rw is (places s bytes sound).2

  pub part_within : l.fade ≤ length s
  part_within = rw is (places s bytes sound).3

  pub part_whole : Whole 8 8 (between l.sequence l.fade s)
  part_whole = rw is (sequence_whole s bytes sound)

  pub part_segments : segments_in (between l.sequence l.fade s) ≡ segments_of (read_sheet s).sequence
  part_segments = rw is (go (read_sheet s).sequence refl)
    where
      go : (o : Option (List SeqnSegment)) → (read_sheet s).sequence ≡ o → segments_in (between (layout_of (read_sheet s)).sequence (layout_of (read_sheet s)).fade s) ≡ segments_of o
      go None e = no_sequence s bytes sound e
      go (Some segments) e = sequence_there s bytes sound segments e

-- ---- the rules by the code's answers

pub beside_is : (o : Option (List SeqnSegment)) (one_shot : ℕ) → beside_one_shot_by (option_map length o) one_shot ≡ beside_one_shot o one_shot
beside_is None one_shot = refl
beside_is (Some segments) one_shot = refl

pub count_is : (o : Option (List SeqnSegment)) → unwrap_or (option_map length o) 0 ≡ length (segments_of o)
count_is None = refl
count_is (Some segments) = refl

pub miss_is : (o : Option Fade) (segments : ℕ) → fade_misses_by o segments ≡ fade_misses o segments
miss_is None segments = refl
miss_is (Some f) segments = refl

pub not_below : (i n : ℕ) → not (ltb i n) ≡ leb n i
not_below i n = go (ltb i n) refl
  where
    go : (t : Bool) → ltb i n ≡ t → not t ≡ leb n i
    go true e = sym (lt-leb n i (ltb-true i n e))
    go false e = sym (le-leb n i (ltb-false i n e))

-- ---- how long it is

-- two tests that hold together
same_test : (a b m n : ℕ) → (m < n → a < b) → (n ≤ m → b ≤ a) → ltb a b ≡ ltb m n
same_test a b m n holds fails = go (ltb m n) refl
  where
    go : (t : Bool) → ltb m n ≡ t → ltb a b ≡ t
    go true e = lt-ltb a b (holds (ltb-true m n e))
    go false e = le-ltb a b (fails (ltb-false m n e))

-- n is the length in the highest octave, as far as 2 ^ 32
module _ (k : ℕ) (part : List ℕ) (n : ℕ) (is : n ≡ min (joined_length 1 (take (length part) (segments_in part))) (2 ^ 32)) where
  pub long_by_quotient : ltb (4294967295 / 2 ^ k) n ≡ ltb 4294967295 (joined_length (2 ^ k) (segments_in part))
  long_by_quotient =
      let j = joined_length 1 (segments_in part) in
      let all : n ≡ min j (2 ^ 32) = is ∙ ap (λ ss. min (joined_length 1 ss) (2 ^ 32)) (take_all_segments part) in
      let small = div-le_self 4294967295 (2 ^ k) in
      let past : 4294967295 < j * 2 ^ k → 4294967295 / 2 ^ k < j = (div-lt_iff_lt-mul (pow_pos k)).1 in
      let within : j * 2 ^ k ≤ 4294967295 → j ≤ 4294967295 / 2 ^ k = (le-div_iff_mul-le (pow_pos k)).1 in
      same_test (4294967295 / 2 ^ k) n 4294967295 (j * 2 ^ k) (λ h. omega (arith, past h, small, all)) (λ h. omega (arith, within h, all))
      ∙ ap (ltb 4294967295) (sym (scaled_length (2 ^ k) (segments_in part)))

  -- one sample is past it, from k = 32 on
  pub long_if_any : 32 ≤ k → ltb 0 n ≡ ltb 4294967295 (joined_length (2 ^ k) (segments_in part))
  long_if_any h =
      let p : 2 ^ 32 ≤ 2 ^ k = pow_mono h in
      let none_left : 4294967295 / 2 ^ k ≡ 0 = div-eq_of_lt (omega arith) in
      ap (λ (x : ℕ). ltb x n) (sym none_left) ∙ long_by_quotient
