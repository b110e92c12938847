-- A block that is filled stretch by stretch, and silenced past the last of them.
--     filled_none, filled_more, filled_whole      before any stretch, one more, and the whole
--     filled_length                               the buffer keeps its length
--     part_length, take_zeros, zeros_back         the part of the buffer that a stretch is lent, and of sums that are 0
--     stretch_ready                               what a stretch asks
-- Assumes nothing.
use Prim.Native.Nat.{ℕ, ◌+◌, ◌-◌, ◌*◌, ◌/◌, ◌%◌, ◌≤◌, ◌<◌, min}
use mathlib.Core.List.{List, ◌++◌, append_assoc}
use mathlib.Core.Path.{◌≡◌, sym, ap, ◌∙◌}
use native.Mathlib.Omega.{arith}
use lib.IntN.{ℤ, pos}
use lib.ListN.{length, take, drop, replicate, length-append, length-replicate, length-drop, replicate-append-replicate}
use lib.Seq.{take_at, drop_at, drop-drop, length-take-le}
use Rattle.sheet_layout.specs.declared.Layout.{Layout}
use Rattle.note_frame.specs.Frame.{silent}
use Rattle.note_frame.specs.Frames.{frames_from, interleaved}
use Rattle.note_frame.specs.declared.chain.Frame.{Frame}
use Rattle.note_frame.proofs.FramesLaws.{frames_silent, frames_join, frames_split, interleaved_frames, interleaved_join, interleaved_silent, interleaved_none}
use Rattle.ensemble_score.specs.declared.Entry.{Entry}
use Rattle.ensemble_block.specs.Stretch.{StretchTo, Mixable, StretchReady}

-- frames from `place` up to `at` stand at the front of a buffer, and past them what it held
abbrev pub filled_to : (ℕ → Frame) → ℕ → List ℤ → ℕ → List ℤ
filled_to f place before at = interleaved (frames_from f place (at - place)) ++ drop (2 * (at - place)) before

module _ (f : ℕ → Frame) (place : ℕ) (before : List ℤ) where
  pub filled_none : before ≡ filled_to f place before place
  filled_none =
      let none : place - place ≡ 0 = omega arith in
      rw (none, interleaved_none f place)

  -- a stretch from `at` to `next` was lent its part of the buffer, and put back with its frames
  pub filled_more : (at next d : ℕ) (out part : List ℤ) → place ≤ at → at ≤ next → out ≡ filled_to f place before at → d ≡ next - at → part ≡ interleaved (frames_from f at d)
      → take (2 * (at - place)) out ++ (part ++ drop (2 * (next - place) - 2 * (at - place)) (drop (2 * (at - place)) out)) ≡ filled_to f place before next
  filled_more at next d out part a b is long stretch =
      let done = interleaved (frames_from f place (at - place)) in
      let n = 2 * (at - place) in
      let front : take n out ≡ done = ap (take n) is ∙ take_at done (drop n before) n (interleaved_frames f place (at - place)) in
      let back : drop n out ≡ drop n before = ap (drop n) is ∙ drop_at done (drop n before) n (interleaved_frames f place (at - place)) in
      let past : n + (2 * (next - place) - n) ≡ 2 * (next - place) = omega arith in
      let frames = ap interleaved (frames_split f place at next a b) ∙ interleaved_join (frames_from f place (at - place)) (frames_from f at (next - at)) in
      rw (front, back, drop-drop (2 * (next - place) - n) n before, past, stretch, long, frames)
      (sym (append_assoc done (interleaved (frames_from f at (next - at))) (drop (2 * (next - place)) before)))

  pub filled_length : (at : ℕ) → 2 * (at - place) ≤ length before → length (filled_to f place before at) ≡ length before
  filled_length at h =
      let done = interleaved (frames_from f place (at - place)) in
      omega (arith, length-append done (drop (2 * (at - place)) before), interleaved_frames f place (at - place), length-drop (2 * (at - place)) before)

  -- past the last stretch nothing is left, or nothing but silence
  module _ (ends : (j : ℕ) → 4294967295 ≤ j → f j ≡ silent) (small : place ≤ 4294967295) (even : length before % 2 ≡ 0) (end : ℕ) (end_is : end ≡ place + min (length before / 2) (4294967295 - place)) where
    -- the frames past them
    abbrev left : ℕ
    left = length before / 2 - (end - place)

    past_silent : (j : ℕ) → place + (end - place) ≤ j → j < place + (end - place) + left → f j ≡ silent
    past_silent j a b = ends j (omega arith)

    all_are : interleaved (frames_from f place (length before / 2)) ≡ interleaved (frames_from f place (end - place)) ++ replicate (2 * left) (pos 0)
    all_are =
        let whole : length before / 2 ≡ (end - place) + left = omega arith in
        ap (λ (k : ℕ). interleaved (frames_from f place k)) whole
        ∙ rw (
          frames_join f place (end - place) left,
          frames_silent f (place + (end - place)) left past_silent,
          interleaved_join (frames_from f place (end - place)) (replicate left silent),
          interleaved_silent left,
        )

    pub filled_whole : (mid after : List ℤ) → mid ≡ filled_to f place before end → length mid ≡ length before
        → after ≡ take (2 * (end - place)) mid ++ replicate (length mid - 2 * (end - place)) (pos 0) → after ≡ interleaved (frames_from f place (length before / 2))
    filled_whole mid after filled same is =
        let n = 2 * (end - place) in
        let front : take n mid ≡ interleaved (frames_from f place (end - place)) =
        ap (take n) filled ∙ take_at (interleaved (frames_from f place (end - place))) (drop n before) n (interleaved_frames f place (end - place)) in
        let tail : length mid - n ≡ 2 * left = omega arith in
        is ∙ rw (front, tail) (sym all_are)

-- ---- the parts that a stretch is lent

pub part_length : {A : Type 0} (from to : ℕ) (out : List A) → from ≤ to → to ≤ length out → length (take (to - from) (drop from out)) ≡ to - from
part_length from to out a b = length-take-le (to - from) (drop from out) (omega (arith, length-drop from out))

-- n zeros, and as many more as are left of k
zeros_are : (n k : ℕ) → n ≤ k → replicate k (pos 0) ≡ replicate n (pos 0) ++ replicate (k - n) (pos 0)
zeros_are n k h =
    let whole : n + (k - n) ≡ k = omega arith in
    sym (replicate-append-replicate n (k - n) (pos 0) ∙ ap (λ (m : ℕ). replicate m (pos 0)) whole)

pub take_zeros : (n k : ℕ) (sums : List ℤ) → n ≤ k → sums ≡ replicate k (pos 0) → take n sums ≡ replicate n (pos 0)
take_zeros n k sums h is = ap (take n) (is ∙ zeros_are n k h) ∙ take_at (replicate n (pos 0)) (replicate (k - n) (pos 0)) n (length-replicate n (pos 0))

pub zeros_back : (n k : ℕ) (sums totals : List ℤ) → n ≤ k → sums ≡ replicate k (pos 0) → totals ≡ replicate (length (take n sums)) (pos 0) → totals ++ drop n sums ≡ replicate k (pos 0)
zeros_back n k sums totals h is zeros =
    let many : length (take n sums) ≡ n = ap length (take_zeros n k sums h is) ∙ length-replicate n (pos 0) in
    let rest = ap (drop n) (is ∙ zeros_are n k h) ∙ drop_at (replicate n (pos 0)) (replicate (k - n) (pos 0)) n (length-replicate n (pos 0)) in
    rw (zeros, many, rest) (sym (zeros_are n k h))

pub stretch_ready : (score : List Entry) (rate at next end most : ℕ) (sheet : List ℕ) (l : Layout) (left right totals part : List ℤ) → Mixable score rate sheet l left right
    → StretchTo score at end most next → end ≤ 4294967295 → length part ≡ 2 * (next - at) → totals ≡ replicate (2 * (next - at)) (pos 0)
    → StretchReady score rate at sheet l left right totals part
stretch_ready score rate at next end most sheet l left right totals part mixable stretch in_time long zeros =
    let past : at + length part / 2 ≡ next = omega (arith, stretch.some) in
    record {
      mixable = mixable;
      calm = rw past stretch.calm;
      in_time = omega (arith, stretch.within);
      even = omega arith;
      none_yet = zeros ∙ ap (λ (n : ℕ). replicate n (pos 0)) (sym long);
    }
