-- One entry added to the sums of a stretch: its block's frames that aren't over are added, and those after them are silent.
--     added_nothing, added_frames          an entry that hasn't started, and one that has
-- Assumes nothing.
use Prim.Native.Nat.{ℕ, ◌+◌, ◌-◌, ◌*◌, ◌/◌, ◌%◌, ◌≤◌, ◌<◌, min}
use mathlib.Core.List.{List, ◌++◌}
use mathlib.Core.Path.{◌≡◌, sym, ap, subst, ◌∙◌}
use native.Mathlib.Omega.{arith}
use lib.IntN.{ℤ, pos}
use lib.ListN.{length, drop, replicate}
use Rattle.sheet.specs.Voice.{Voice}
use Rattle.body_read.specs.Sides.{Sides}
use Rattle.note_frame.specs.Frame.{silent, with_key, frame}
use Rattle.note_frame.specs.Frames.{frames_from, interleaved}
use Rattle.note_frame.specs.declared.chain.Frame.{Frame}
use Rattle.note_frame.specs.declared.playing.Key.{Key}
use Rattle.note_frame.proofs.FramesLaws.{frames_silent, frames_join, interleaved_frames, interleaved_join, interleaved_silent}
use Rattle.note_stage.specs.Block.{Played}
use Rattle.ensemble_score.specs.declared.Entry.{Entry}
use Rattle.ensemble_sums.specs.Sums.{plus, added_to}
use Rattle.ensemble_sums.proofs.SumLaws.{plus_zeros, added_zeros}
use Rattle.ensemble_block.specs.Mixed.{entry_note, entry_frame}
use Rattle.ensemble_block.specs.Stretch.{Calm, key_at, playing_at}
use Rattle.ensemble_block.proofs.EntryLaws.{entry_waits, entry_plays}

-- d frames of which r are not over
played_values : (f : ℕ → Frame) (m d : ℕ) (before after : List ℤ) (r : ℕ) → Played f m d before after r
    → interleaved (frames_from f m d) ≡ interleaved (frames_from f m r) ++ replicate (2 * (d - r)) (pos 0)
played_values f m d before after r p =
    let whole : d ≡ r + (d - r) = omega (arith, p.within) in
    let rest = frames_silent f (m + r) (d - r) (λ j a b. p.rest_over j a (omega (arith, p.within))) in
    ap (λ (k : ℕ). interleaved (frames_from f m k)) whole
    ∙ rw (frames_join f m r (d - r), rest, interleaved_join (frames_from f m r) (replicate (d - r) silent), interleaved_silent (d - r))

module _ (v : Voice) (s : Sides) (rate : ℕ) (e : Entry) (at : ℕ) (sums before : List ℤ) (calm : Calm at (at + length before / 2) e) (even : length before % 2 ≡ 0)
    (as_many : length sums ≡ length before) where
  -- the values that the entry gives
  abbrev values : List ℤ
  values = interleaved (frames_from (λ m. entry_frame v s rate m e) at (length before / 2))

  pub added_nothing : at < e.start → sums ≡ plus values sums
  added_nothing h =
      let zeros = ap interleaved (entry_waits v s rate e at (length before / 2) calm h) ∙ interleaved_silent (length before / 2) in
      sym (ap (λ (l : List ℤ). plus l sums) zeros ∙ plus_zeros (2 * (length before / 2)) sums (omega arith))

  module _ (started : e.start ≤ at) (up_later : e.start ≤ e.key_up) (in_time : at + length before / 2 ≤ 4294967295) where
    -- by the note as it plays in the stretch
    added_playing : (mid : List ℤ) (r : ℕ) → Played (frame v s (playing_at rate at e)) (at - e.start) (length before / 2) before mid r → added_to sums (2 * r) mid ≡ plus values sums
    added_playing mid r p =
        let f = frame v s (playing_at rate at e) in
        let m = at - e.start in
        let d = length before / 2 in
        let xs = interleaved (frames_from f m r) in
        let all = ap interleaved (entry_plays v s rate e at d calm started up_later) ∙ played_values f m d before mid r p in
        ap (added_to sums (2 * r)) p.out_is
        ∙ added_zeros xs sums (drop (2 * r) before) (2 * r) (2 * (d - r)) (interleaved_frames f m r) (omega (arith, p.within))
        ∙ ap (λ (l : List ℤ). plus l sums) (sym all)

    pub added_frames : (key : Key) (mid : List ℤ) (r : ℕ) → key ≡ key_at at e
        → Played (frame v s (with_key (entry_note rate e) key)) (at - e.start) (min (length before / 2) (4294967295 - (at - e.start))) before mid r
        → added_to sums (2 * r) mid ≡ plus values sums
    added_frames key mid r is p =
        let whole : min (length before / 2) (4294967295 - (at - e.start)) ≡ length before / 2 = omega arith in
        let by_key = subst (λ (k : Key). Played (frame v s (with_key (entry_note rate e) k)) (at - e.start) (min (length before / 2) (4294967295 - (at - e.start))) before mid r) is p in
        added_playing mid r (subst (λ (d : ℕ). Played (frame v s (playing_at rate at e)) (at - e.start) d before mid r) whole by_key)
