-- Mixed frames: no law elsewhere unfolds `mixed_frame` and `all_together`.
--     mixed_last, mixed_is              silence from mixed frame 4,294,967,295 on, and a frame up to there
--     no_entry, one_entry               of no entries: silence; of one that starts at 0: its note
--     none_together, next_together      no frames at once, and one more
--     last_together                     one more past the last
--     held_frames, plus_frames          the values of frames, held, and added to those of others
-- Assumes nothing.
use Prim.Native.Nat.{ℕ, zero, suc, ◌-◌, ◌≤◌, ◌<◌}
use mathlib.Core.Bool.{Bool, true, false, ◌||◌, or-false}
use mathlib.Core.List.{List, [], ◌∷◌, ◌++◌, map}
use mathlib.Core.Path.{◌≡◌, refl, sym, ap, ◌∙◌}
use native.Mathlib.Omega.{arith}
use borrow.Author.Tests.{lt-ltb, le-ltb, ltb-true, ltb-false}
use lib.Dec.{ltb}
use lib.IntN.{ℤ, ◌+ℤ◌, +ℤ_idr}
use mir.Syntax.{w16}
use mir.Val.{SFits}
use Rattle.sheet.specs.Voice.{Voice}
use Rattle.body_read.specs.Sides.{Sides}
use Rattle.note_frame.specs.Frame.{silent, frame}
use Rattle.note_frame.specs.Frames.{frames_from, interleaved}
use Rattle.note_frame.specs.declared.chain.Frame.{Frame}
use Rattle.note_frame.proofs.FrameLaws.{frame_last}
use Rattle.ensemble_score.specs.declared.Entry.{Entry}
use Rattle.ensemble_sums.specs.Sums.{held_to16, plus}
use Rattle.ensemble_sums.proofs.SumLaws.{held_same, held_zero}
use Rattle.ensemble_block.specs.Mixed.{entry_note, entry_frame, together, all_together, held_frame, mixed_frame}
use Rattle.ensemble_block.proofs.EntryLaws.{entry_started}
use Rattle.std.proofs.lemmas.Int.{ints}

-- ---- frames at once

pub none_together : all_together [] ≡ silent
unfolding all_together
none_together = refl

pub next_together : (f : Frame) (fs : List Frame) → all_together (f ∷ fs) ≡ together f (all_together fs)
unfolding all_together
next_together f fs = refl

-- the last of them as the first
sums_swap : (a b c : ℤ) → b +ℤ (a +ℤ c) ≡ a +ℤ (b +ℤ c)
sums_swap a b c = omega (arith, ints)

sounds_swap : (a b c : Bool) → (b || (a || c)) ≡ (a || (b || c))
sounds_swap true true c = refl
sounds_swap true false c = refl
sounds_swap false b c = refl

together_swap : (f g h : Frame) → together g (together f h) ≡ together f (together g h)
together_swap f g h = rw (sums_swap f.left g.left h.left, sums_swap f.right g.right h.right, sounds_swap f.sounds g.sounds h.sounds)

pub last_together : (fs : List Frame) (f : Frame) → all_together (fs ++ (f ∷ [])) ≡ together f (all_together fs)
unfolding all_together
last_together [] f = refl
last_together (g ∷ fs) f = ap (together g) (last_together fs f) ∙ together_swap f g (all_together fs)

-- ---- a mixed frame

module _ (v : Voice) (s : Sides) (rate : ℕ) (score : List Entry) (m : ℕ) where
  pub mixed_last : 4294967295 ≤ m → mixed_frame v s rate score m ≡ silent
  unfolding mixed_frame
  mixed_last h = rw le-ltb

  pub mixed_is : m < 4294967295 → mixed_frame v s rate score m ≡ held_frame (all_together (map (entry_frame v s rate m) score))
  unfolding mixed_frame
  mixed_is h = rw lt-ltb

pub no_entry : (v : Voice) (s : Sides) (rate m : ℕ) → mixed_frame v s rate [] m ≡ silent
no_entry v s rate m = go (ltb m 4294967295) refl
  where
    go : (t : Bool) → ltb m 4294967295 ≡ t → mixed_frame v s rate [] m ≡ silent
    go true e = mixed_is v s rate [] m (ltb-true m 4294967295 e) ∙ rw (none_together, held_zero)
    go false e = mixed_last v s rate [] m (ltb-false m 4294967295 e)

-- ---- one entry

-- a frame of 16 bits, alone, is held as it is
held_alone : (f : Frame) → SFits w16 f.left → SFits w16 f.right → held_frame (together f silent) ≡ f
held_alone f l r = rw (+ℤ_idr f.left, +ℤ_idr f.right, held_same f.left l, held_same f.right r, or-false f.sounds)

-- a score of one entry that starts at mixed frame 0 is its note
module _ (v : Voice) (s : Sides) (rate : ℕ) (e : Entry) (m : ℕ) where
  -- its frame
  abbrev played : Frame
  played = frame v s (entry_note rate e) m

  pub one_entry : SFits w16 played.left → SFits w16 played.right → e.start ≡ 0 → mixed_frame v s rate (e ∷ []) m ≡ played
  one_entry l r first = go (ltb m 4294967295) refl
    where
      go : (t : Bool) → ltb m 4294967295 ≡ t → mixed_frame v s rate (e ∷ []) m ≡ played
      go true t =
          let now : m - e.start ≡ m = omega arith in
          let alone = entry_started v s rate e m (omega arith) ∙ ap (frame v s (entry_note rate e)) now in
          mixed_is v s rate (e ∷ []) m (ltb-true m 4294967295 t)
          ∙ rw (next_together (entry_frame v s rate m e) [], none_together, alone) (held_alone played l r)
      go false t =
          let last = ltb-false m 4294967295 t in
          mixed_last v s rate (e ∷ []) m last ∙ sym (frame_last v s (entry_note rate e) m last)

-- ---- values

pub held_frames : (f : ℕ → Frame) (m d : ℕ) → map held_to16 (interleaved (frames_from f m d)) ≡ interleaved (frames_from (λ p. held_frame (f p)) m d)
unfolding frames_from interleaved
held_frames f m zero = refl
held_frames f m (suc d) = ap (λ (l : List ℤ). held_to16 (f m).left ∷ held_to16 (f m).right ∷ l) (held_frames f (suc m) d)

pub plus_frames : (f g : ℕ → Frame) (m d : ℕ) → plus (interleaved (frames_from f m d)) (interleaved (frames_from g m d)) ≡ interleaved (frames_from (λ p. together (f p) (g p)) m d)
unfolding frames_from interleaved plus
plus_frames f g m zero = refl
plus_frames f g m (suc d) = ap (λ (l : List ℤ). ((f m).left +ℤ (g m).left) ∷ ((f m).right +ℤ (g m).right) ∷ l) (plus_frames f g (suc m) d)
