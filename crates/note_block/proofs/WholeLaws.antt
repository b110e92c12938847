-- The frames that aren't over, and the silence after them, are the note's next block.
-- Assumes nothing.
use Prim.Native.Nat.{ℕ, ◌+◌, ◌-◌, ◌*◌, ◌/◌, ◌%◌, ◌≤◌, ◌<◌, min}
use mathlib.Core.Bool.{Bool, true, false}
use mathlib.Core.List.{List, ◌++◌}
use mathlib.Core.Path.{◌≡◌, refl, sym, ap, subst, ◌∙◌}
use native.Mathlib.Nat.{add-zero}
use native.Mathlib.Omega.{arith}
use borrow.Author.Tests.{ltb-true, ltb-false}
use lib.Dec.{ltb}
use lib.IntN.{ℤ, pos}
use lib.ListN.{length, take, drop, replicate}
use lib.Seq.{take_at}
use Rattle.note_frame.specs.Frame.{silent}
use Rattle.note_frame.specs.Frames.{frames_from, interleaved, sounding}
use Rattle.note_frame.specs.declared.chain.Frame.{Frame}
use Rattle.note_stage.specs.Block.{Played}
use Rattle.note_frame.proofs.FramesLaws.{frames_same, frames_silent, frames_join, interleaved_frames, interleaved_join, interleaved_silent, sounding_join, sounding_silent}

-- a block of as many frames
pub played_many : (f : ℕ → Frame) (m d d' : ℕ) (before after : List ℤ) (r : ℕ) → d ≡ d' → Played f m d before after r → Played f m d' before after r
played_many f m d d' before after r e p = subst (λ (k : ℕ). Played f m k before after r) e p

-- a block of frames that are the same
pub played_same : (f g : ℕ → Frame) (m d : ℕ) (before after : List ℤ) (r : ℕ) → ((j : ℕ) → m ≤ j → j < m + d → f j ≡ g j) → Played f m d before after r → Played g m d before after r
played_same f g m d before after r same p =
    let frames = frames_same f g m r (λ j a b. same j a (omega (arith, p.within))) in
    record {
      within = p.within;
      out_is = p.out_is ∙ ap (λ (fs : List Frame). interleaved fs ++ drop (2 * r) before) frames;
      count_is = p.count_is ∙ ap sounding frames;
      rest_over = λ j a b. sym (same j (omega arith) b) ∙ p.rest_over j a b;
    }

module _ (f : ℕ → Frame) (m d r : ℕ) (before mid : List ℤ) (ends : (j : ℕ) → 4294967295 ≤ j → f j ≡ silent) (small : m ≤ 4294967295) (even : length before % 2 ≡ 0)
    (part : d ≡ min (length before / 2) (4294967295 - m)) (played : Played f m d before mid r) where
  -- the frames past those played
  abbrev left : ℕ
  left = length before / 2 - r

  -- over, or past the last frame that a note can have
  past_silent : (j : ℕ) → m + r ≤ j → j < m + r + left → f j ≡ silent
  past_silent j a b = go (ltb j (m + d)) refl
    where
      go : (t : Bool) → ltb j (m + d) ≡ t → f j ≡ silent
      go true t = played.rest_over j a (ltb-true j (m + d) t)
      go false t = ends j (omega (arith, ltb-false j (m + d) t, played.within))

  all_are : frames_from f m (length before / 2) ≡ frames_from f m r ++ replicate left silent
  all_are =
      let whole : length before / 2 ≡ r + left = omega (arith, played.within) in
      ap (frames_from f m) whole
      ∙ frames_join f m r left
      ∙ ap (λ (fs : List Frame). frames_from f m r ++ fs) (frames_silent f (m + r) left past_silent)

  pub whole_count : r ≡ sounding (frames_from f m (length before / 2))
  whole_count =
      played.count_is
      ∙ rw (all_are, sounding_join (frames_from f m r) (replicate left silent), sounding_silent left) (sym (add-zero (sounding (frames_from f m r))))

  pub whole_buffer : (after : List ℤ) → length mid ≡ length before → after ≡ take (2 * r) mid ++ replicate (length mid - 2 * r) (pos 0) → after ≡ interleaved (frames_from f m (length before / 2))
  whole_buffer after same is =
      let tail : length mid - 2 * r ≡ 2 * left = omega (arith, played.within) in
      let front : take (2 * r) mid ≡ interleaved (frames_from f m r) = ap (take (2 * r)) played.out_is ∙ take_at (interleaved (frames_from f m r)) (drop (2 * r) before) (2 * r) (interleaved_frames f m r) in
      is ∙ rw (front, tail, all_are, interleaved_join (frames_from f m r) (replicate left silent), interleaved_silent left)
