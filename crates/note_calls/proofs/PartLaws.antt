-- A fill that was lent a part of a buffer. What the part held matters to no answer and no accepted block.
--     block_places                           an accepted block has as many values as its buffer has places
--     same_answer, same_note                 by any two buffers of one length
--     accepted_within, accepted_length       how many values a fill puts out, by its answer
--     part_places, part_stored               the part's length; a fill's accepted block, stored at the part's place of the whole
-- Assumes nothing.
use Prim.Native.Nat.{ℕ, ◌+◌, ◌/◌, ◌%◌, ◌≤◌}
use mathlib.Core.List.{List, ◌++◌, append_assoc}
use mathlib.Core.Path.{◌≡◌, refl, sym, ap, ◌∙◌}
use native.Mathlib.Omega.{arith}
use borrow.Author.Tests.{eqb-false}
use lib.IntN.{ℤ, pos}
use lib.ListN.{length, take, drop, replicate, length-replicate, length-drop, take-append-drop}
use lib.Seq.{sets, sets-eq, drop-drop, length-take-le}
use Rattle.laws.proofs.Cases.{impossible}
use Rattle.sheet.specs.Judge.{judged, if_sound}
use Rattle.sheet.specs.Read.{read_sheet}
use Rattle.sheet.specs.Voice.{Voice}
use Rattle.body_read.specs.Sides.{Sides}
use Rattle.note_frame.specs.Frame.{frame}
use Rattle.note_frame.specs.Frames.{interleaved}
use Rattle.note_frame.specs.declared.chain.Frame.{Frame}
use Rattle.note_frame.specs.declared.playing.Playing.{Playing}
use Rattle.note_frame.proofs.FramesLaws.{frames_length, interleaved_length}
use Rattle.note_rules.proofs.RuleLaws.{none_of}
use Rattle.note.specs.Fill.{fill_voice, fill_sheet, fill_leaves, after_fill}
use Rattle.note.specs.declared.Note.{Note}
use Rattle.note.proofs.BlockLaws.{block_frames}
use Rattle.note.proofs.FillLaws.{none_first_of}
use Rattle.note_calls.specs.Play.{accepted_block}
use Rattle.refusal.specs.Outcome.{Outcome}
use Rattle.std.specs.Prelude.{Err, Ok, ⊤}

-- ---- how long a block is

module _ (s : Sides) (n : Playing) (frames places : ℕ) (block : List Frame) where
  voice_places : (v : Voice) → fill_voice v s n frames places ≡ Ok block → length (interleaved block) ≡ places
  voice_places v e =
      let even = (none_of v (length s.left) (length s.right) n frames places (none_first_of v s n frames places block e)).even.0 in
      let count : length block ≡ places / 2 = ap length (block_frames v s n frames places block e) ∙ frames_length (frame v s n) frames (places / 2) in
      omega (arith, interleaved_length block, eqb-false (places % 2) 1 even)

  pub block_places : (sheet : List ℕ) → fill_sheet sheet s n frames places ≡ Ok block → length (interleaved block) ≡ places
  block_places sheet = go (judged sheet)
    where
      go : (j : Outcome ⊤) → if_sound j Err (fill_voice (read_sheet sheet) s n frames places) ≡ Ok block → length (interleaved block) ≡ places
      go (Ok tt) e = voice_places (read_sheet sheet) e
      go (Err refusal) e = impossible cc

-- ---- by the outcome

module _ (n : Note) (b b' : List ℤ) where
  outcome_answer : (o : Outcome (List Frame)) → (fill_leaves o n b).answer ≡ (fill_leaves o n b').answer
  outcome_answer (Ok block) = refl
  outcome_answer (Err refusal) = refl

  outcome_note : (o : Outcome (List Frame)) → (fill_leaves o n b).note ≡ (fill_leaves o n b').note
  outcome_note (Ok block) = refl
  outcome_note (Err refusal) = refl

-- a buffer of so many places
abbrev pub zeros : ℕ → List ℤ
zeros places = replicate places (pos 0)

pub accepted_within : (a : Outcome ℕ) (places : ℕ) → length (accepted_block a (zeros places)) ≤ places
accepted_within (Ok count) places = omega (arith, length-replicate places (pos 0))
accepted_within (Err refusal) places = omega arith

module _ (sheet : List ℕ) (s : Sides) (n : Note) where
  -- what a fill gives, by its places
  abbrev fill_of : ℕ → Outcome (List Frame)
  fill_of places = fill_sheet sheet s n.playing n.frames places

  module _ (b b' : List ℤ) (e : length b ≡ length b') where
    pub same_answer : (after_fill sheet s n b).answer ≡ (after_fill sheet s n b').answer
    same_answer = ap (λ (k : ℕ). (fill_leaves (fill_of k) n b).answer) e ∙ outcome_answer n b b' (fill_of (length b'))

    pub same_note : (after_fill sheet s n b).note ≡ (after_fill sheet s n b').note
    same_note = ap (λ (k : ℕ). (fill_leaves (fill_of k) n b).note) e ∙ outcome_note n b b' (fill_of (length b'))

  -- the block that a fill of so many places puts out
  abbrev pub block_of : ℕ → List ℤ
  block_of places = accepted_block (after_fill sheet s n (zeros places)).answer (after_fill sheet s n (zeros places)).buffer

  pub accepted_length : (places : ℕ) → length (block_of places) ≡ length (accepted_block (after_fill sheet s n (zeros places)).answer (zeros places))
  accepted_length places = go (fill_of (length (zeros places))) (λ block e. block_places s n.playing n.frames (length (zeros places)) block sheet e)
    where
      go : (o : Outcome (List Frame)) → ((block : List Frame) → o ≡ Ok block → length (interleaved block) ≡ length (zeros places))
          → length (accepted_block (fill_leaves o n (zeros places)).answer (fill_leaves o n (zeros places)).buffer) ≡ length (accepted_block (fill_leaves o n (zeros places)).answer (zeros places))
      go (Ok block) long = long block refl
      go (Err refusal) long = refl

  -- a part of so many places, put back after the fill
  module _ (d : List ℤ) (at size places : ℕ) (is : size ≡ places) (room : at + places ≤ length d) where
    pub part_places : length (take size (drop at d)) ≡ length (zeros places)
    part_places = length-take-le size (drop at d) (omega (arith, length-drop at d)) ∙ is ∙ sym (length-replicate places (pos 0))

    stored_by : (o : Outcome (List Frame)) → ((block : List Frame) → o ≡ Ok block → length (interleaved block) ≡ size)
        → take at d ++ ((fill_leaves o n (take size (drop at d))).buffer ++ drop size (drop at d))
        ≡ sets d at (accepted_block (fill_leaves o n (zeros places)).answer (fill_leaves o n (zeros places)).buffer)
    stored_by (Ok block) long =
        let fits : at + length (interleaved block) ≤ length d = omega (arith, long block refl) in
        rw (sets-eq (interleaved block) d at fits, long block refl, drop-drop size at d) (sym (append_assoc (take at d) (interleaved block) (drop (at + size) d)))
    stored_by (Err refusal) long = rw (take-append-drop size (drop at d)) (take-append-drop at d)

    pub part_stored : take at d ++ ((after_fill sheet s n (take size (drop at d))).buffer ++ drop size (drop at d)) ≡ sets d at (block_of places)
    part_stored =
        ap (λ (k : ℕ). take at d ++ ((fill_leaves (fill_of k) n (take size (drop at d))).buffer ++ drop size (drop at d))) part_places
        ∙ stored_by (fill_of (length (zeros places)))
        (λ block e. block_places s n.playing n.frames (length (zeros places)) block sheet e ∙ length-replicate places (pos 0) ∙ sym is)
