-- An entry in a calm stretch: it is silent throughout, or its note plays throughout, held or released.
--     key_released, key_held            its key, by the stretch's first frame
--     entry_started, entry_not_yet      one frame of it
--     entry_plays, entry_waits          its frames in a stretch
--     entry_accepted                    no rule turns its note back
-- Assumes nothing.
use Prim.Native.Nat.{ℕ, ◌+◌, ◌-◌, ◌%◌, ◌≤◌, ◌<◌}
use mathlib.Core.Bool.{Bool, true, false}
use mathlib.Core.Path.{◌≡◌, refl, ap, ◌∙◌}
use native.Mathlib.Omega.{arith}
use borrow.Author.Tests.{le-leb, lt-leb, leb-true, leb-false, ne_eqb}
use lib.Dec.{leb}
use lib.ListN.{replicate}
use Rattle.refusal.proofs.RuleLaws.{none_join, none_first}
use Rattle.refusal.specs.Rules.{first_holding, NoneHolds}
use Rattle.sheet.specs.Voice.{Voice}
use Rattle.body_read.specs.Sides.{Sides}
use Rattle.voice_rules.specs.Rules.{voice_rules}
use Rattle.note_rules.specs.Rules.{key_up_ahead, sequence_rules, octave_rules, place_rules, note_rules, fill_rules}
use Rattle.note_rules.proofs.RuleLaws.{not_ahead, from_places, from_octave, from_sequence, rules_are}
use Rattle.note_frame.specs.Frame.{silent, frame}
use Rattle.note_frame.specs.Frames.{frames_from}
use Rattle.note_frame.specs.declared.playing.Key.TheVariants.{Held, Released}
use Rattle.note_frame.proofs.FrameLaws.{frame_before}
use Rattle.note_frame.proofs.FramesLaws.{frames_shift, frames_silent}
use Rattle.ensemble_score.specs.declared.Entry.{Entry}
use Rattle.ensemble_rules.specs.Rules.{entry_rules}
use Rattle.ensemble_block.specs.Mixed.{entry_note, entry_frame}
use Rattle.ensemble_block.specs.Stretch.{Calm, key_at, playing_at}
use Rattle.std.specs.Prelude.{Ok}

-- ---- the key

module _ (at : ℕ) (e : Entry) where
  pub key_released : e.key_up ≤ at → key_at at e ≡ Released (e.key_up - e.start)
  key_released h = rw (le-leb e.key_up at h)

  pub key_held : at < e.key_up → key_at at e ≡ Held
  key_held h = rw (lt-leb e.key_up at h)

-- ---- the frames

module _ (v : Voice) (s : Sides) (rate : ℕ) (e : Entry) where
  -- from its start on a frame of its note, before it nothing
  pub entry_started : (m : ℕ) → e.start ≤ m → entry_frame v s rate m e ≡ frame v s (entry_note rate e) (m - e.start)
  unfolding entry_frame
  entry_started m h = rw (le-leb e.start m h)

  pub entry_not_yet : (m : ℕ) → m < e.start → entry_frame v s rate m e ≡ silent
  unfolding entry_frame
  entry_not_yet m h = rw (lt-leb e.start m h)

  module _ (at d : ℕ) (calm : Calm at (at + d) e) where
    pub entry_waits : at < e.start → frames_from (λ m. entry_frame v s rate m e) at d ≡ replicate d silent
    entry_waits h = frames_silent (λ m. entry_frame v s rate m e) at d (λ j a b. entry_not_yet j (omega (arith, calm.starts h)))

    module _ (started : e.start ≤ at) (up_later : e.start ≤ e.key_up) where
      -- the note as it plays in the stretch has the frames of the entry's note
      same_frame : (i : ℕ) → i < d → frame v s (entry_note rate e) (at - e.start + i) ≡ frame v s (playing_at rate at e) (at - e.start + i)
      same_frame i h = go (leb e.key_up at) refl
        where
          go : (t : Bool) → leb e.key_up at ≡ t → frame v s (entry_note rate e) (at - e.start + i) ≡ frame v s (playing_at rate at e) (at - e.start + i)
          go true t = rw (key_released at e (leb-true e.key_up at t))
          go false t =
              let ahead = leb-false e.key_up at t in
              let before : at - e.start + i < e.key_up - e.start = omega (arith, calm.comes_up ahead) in
              rw (key_held at e ahead) (frame_before v s (entry_note rate e) (e.key_up - e.start) (at - e.start + i) before)

      pub entry_plays : frames_from (λ m. entry_frame v s rate m e) at d ≡ frames_from (frame v s (playing_at rate at e)) (at - e.start) d
      entry_plays =
          frames_shift (λ m. entry_frame v s rate m e) (frame v s (playing_at rate at e)) at (at - e.start) d
          (λ i h.
          let place : at + i - e.start ≡ at - e.start + i = omega arith in
          entry_started (at + i) (omega arith) ∙ ap (frame v s (entry_note rate e)) place ∙ same_frame i h)

-- ---- the rules

module _ (v : Voice) (rate at : ℕ) (e : Entry) where
  -- the key-up isn't ahead of the frames before the stretch
  key_then : key_up_ahead (key_at at e) (at - e.start) ≡ false
  key_then = go (leb e.key_up at) refl
    where
      go : (t : Bool) → leb e.key_up at ≡ t → key_up_ahead (key_at at e) (at - e.start) ≡ false
      go true t =
          let up = leb-true e.key_up at t in
          rw (key_released at e up) (not_ahead (Released (e.key_up - e.start)) (at - e.start) (omega arith))
      go false t = rw (key_held at e (leb-false e.key_up at t))

  note_none : NoneHolds (entry_rules v rate e) → NoneHolds (note_rules v.header (playing_at rate at e) (at - e.start))
  note_none none = (none.1.0, (none.1.1.0, (none.1.1.1.0, (key_then, none.1.1.1.1))))

  pub entry_accepted : (left right places : ℕ) → NoneHolds (voice_rules v left right) → NoneHolds (sequence_rules v) → NoneHolds (entry_rules v rate e) → places % 2 ≡ 0
      → first_holding (fill_rules v left right (playing_at rate at e) (at - e.start) places) ≡ Ok tt
  entry_accepted left right places voice sequence entry even =
      let n = playing_at rate at e in
      let m = at - e.start in
      let odd : NoneHolds (place_rules places) = (ne_eqb (places % 2) 1 (λ one. omega arith), tt) in
      let from_Places = none_join (place_rules places) (note_rules v.header n m) odd (note_none entry) in
      let from_octave_lem = none_join (octave_rules v e.octave) (from_places v left right n m places) (entry.0, tt) from_Places in
      let from_sequence_lem = none_join (sequence_rules v) (from_octave v left right n m places) sequence from_octave_lem in
      let all = none_join (voice_rules v left right) (from_sequence v left right n m places) voice from_sequence_lem in
      none_first (fill_rules v left right n m places) (rw (rules_are v left right n m places) all)
