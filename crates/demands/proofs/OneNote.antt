-- What the reckoning puts out is one note: its blocks are the first frames of one note, whose key is the last state's. A key-up changes no frame that was put
-- out before it, so each block is of that note; and the last state's key is the first key-up's. Each count is of
-- that note's own frames too.
-- Assumes nothing.
use Prim.Native.Nat.{ℕ, ◌+◌, ◌/◌, ◌<◌, min}
use mathlib.Core.Bool.{cond}
use mathlib.Core.List.{List, [], ◌∷◌, ◌++◌}
use mathlib.Core.Path.{◌≡◌, refl, sym, ap, ◌∙◌}
use native.Mathlib.Nat.{add-zero, zero-add}
use native.Mathlib.Omega.{arith}
use lib.ListN.{length, length-append}
use Rattle.note_frame.specs.declared.chain.Frame.{Frame}
use Rattle.note_frame.specs.Frames.{frames_from, sounding}
use Rattle.note_frame.proofs.FramesLaws.{frames_none, frames_length, frames_same, interleaved_none}
use Rattle.note_frame.specs.declared.playing.Key.{Key}
use Rattle.note_frame.specs.declared.playing.Key.TheVariants.{Held, Released}
use Rattle.note.proofs.BlockLaws.{block_frames}
use Rattle.note_frame.proofs.FrameLaws.{frame_put}
use Rattle.voice_read.specs.ReadVoice.{Reading}
use Rattle.demands.specs.Reckoning.{Call, fill, key_up, Started, State, playing, at_first, set_by, fill_at, answer_to, grown, put_out, reckon_from}
use Rattle.demands.specs.Reckoning.{has_key_up, before_key_up, frames_of, note_key, note_frame, Counted, OneNote}
use Rattle.demands.proofs.InOrder.{block_of, put_length, InOrder, order_put, order_count}
use Rattle.refusal.specs.Outcome.{Outcome}
use Rattle.std.specs.Prelude.{Err, Ok}

-- ---- what a fill leaves of the state

grown_is : (o : Outcome (List Frame)) (state : State) → grown o state ≡ record { n = state.n + length (block_of o); u = state.u }
grown_is (Ok block) state = refl
grown_is (Err refusal) state = rw add-zero

module _ (r : Reading) (s : Started) where
  -- the note's frames, with this key
  abbrev frames_by : Key → ℕ → Frame
  frames_by key = note_frame r s key

  -- a fill's block, from a state
  abbrev block_at : State → ℕ → List Frame
  block_at state places = block_of (fill_at r s state places)

  block_is : (state : State) (places : ℕ) → block_at state places ≡ frames_from (frames_by state.u) state.n (length (block_at state places))
  block_is state places = go (fill_at r s state places) refl
    where
      f : ℕ → Frame
      f = frames_by state.u

      go : (o : Outcome (List Frame)) → fill_at r s state places ≡ o → block_of o ≡ frames_from f state.n (length (block_of o))
      go (Ok block) e =
          let is = block_frames r.voice r.sides (playing s state.u) state.n places block e in
          let long : length block ≡ places / 2 = ap length is ∙ frames_length f state.n (places / 2) in
          rw long is
      go (Err refusal) e = sym (frames_none f state.n)

  -- the state after a fill
  abbrev filled : State → ℕ → State
  filled state places = record { n = state.n + length (block_at state places); u = state.u }

  -- and after a key-up
  abbrev released : State → State
  released state = record { n = state.n; u = set_by state.u state.n }

  -- the last state's key
  abbrev last_key : State → List Call → Key
  last_key state [] = state.u
  last_key state (fill places ∷ calls) = last_key (filled state places) calls
  last_key state (key_up ∷ calls) = last_key (released state) calls

  -- a key-up changes no frame before it
  frame_same : (n : ℕ) (u : Key) (p : ℕ) → p < n → frames_by (set_by u n) p ≡ frames_by u p
  frame_same n Held p h = frame_put r.voice r.sides (playing s Held) n p h
  frame_same n (Released u) p h = refl

  -- nor do later calls
  frame_stays : (calls : List Call) (state : State) (p : ℕ) → p < state.n → frames_by (last_key state calls) p ≡ frames_by state.u p
  frame_stays [] state p h = refl
  frame_stays (fill places ∷ calls) state p h = frame_stays calls (filled state places) p (omega arith)
  frame_stays (key_up ∷ calls) state p h = frame_stays calls (released state) p h ∙ frame_same state.n state.u p h

  -- ---- the blocks

  blocks_are : (calls : List Call) (state : State) → InOrder (frames_by (last_key state calls)) state.n (reckon_from r s state calls).blocks
  unfolding reckon_from
  blocks_are [] state = record { count = 0; is = sym (interleaved_none (frames_by state.u) state.n) }
  blocks_are (fill places ∷ calls) state =
      let o = fill_at r s state places in
      let next = filled state places in
      let d = length (block_at state places) in
      let f = frames_by (last_key next calls) in
      let same : frames_from (frames_by state.u) state.n d ≡ frames_from f state.n d =
      frames_same (frames_by state.u) f state.n d (λ j from below. sym (frame_stays calls next j below)) in
      rw (grown_is o state)
      (order_put f state.n o (reckon_from r s next calls).blocks (block_is state places ∙ same) (blocks_are calls next))
  blocks_are (key_up ∷ calls) state = blocks_are calls (released state)

  -- ---- the key

  key_released : (calls : List Call) (n u : ℕ) → last_key (record { n = n; u = Released u }) calls ≡ Released u
  key_released [] n u = refl
  key_released (fill places ∷ calls) n u = key_released calls (n + length (block_at (record { n = n; u = Released u }) places)) u
  key_released (key_up ∷ calls) n u = key_released calls n u

  -- the key of a note held so far, from the calls to come
  abbrev key_from : ℕ → List Call → Key
  key_from n calls = cond (has_key_up calls) (Released (min (n + frames_of (reckon_from r s (record { n = n; u = Held }) (before_key_up calls))) 4294967295)) Held

  key_held : (calls : List Call) (n : ℕ) → last_key (record { n = n; u = Held }) calls ≡ key_from n calls
  unfolding reckon_from
  key_held [] n = refl
  key_held (fill places ∷ calls) n =
      let state : State = record { n = n; u = Held } in
      let o = fill_at r s state places in
      let d = length (block_at state places) in
      let rest = (reckon_from r s (filled state places) (before_key_up calls)).blocks in
      let count : n + length (put_out o ++ rest) / 2 ≡ n + d + length rest / 2 = rw (length-append, put_length o) (omega arith) in
      rw (grown_is o state, count) (key_held calls (n + d))
  key_held (key_up ∷ calls) n = rw add-zero (key_released calls n (min n 4294967295))

  -- ---- the counts

  -- the answer of a fill, of frames f from n on
  counted_fill : (f : ℕ → Frame) (n places : ℕ) (calls : List Call) (answers : List (Outcome ℕ)) (o : Outcome (List Frame)) → block_of o ≡ frames_from f n (length (block_of o))
      → ((block : List Frame) → o ≡ Ok block → length block ≡ places / 2) → Counted f (n + length (block_of o)) calls answers → Counted f n (fill places ∷ calls) (answer_to o ∷ answers)
  counted_fill f n places calls answers (Ok block) is long later =
      let size = long block refl in
      (ap sounding (rw size at is), rw size at later)
  counted_fill f n places calls answers (Err refusal) is long later = rw add-zero at later

  block_size : (state : State) (places : ℕ) (block : List Frame) → fill_at r s state places ≡ Ok block → length block ≡ places / 2
  block_size state places block e =
      ap length (block_frames r.voice r.sides (playing s state.u) state.n places block e) ∙ frames_length (frames_by state.u) state.n (places / 2)

  counts_are : (calls : List Call) (state : State) → Counted (frames_by (last_key state calls)) state.n calls (reckon_from r s state calls).answers
  unfolding reckon_from
  counts_are [] state = refl
  counts_are (fill places ∷ calls) state =
      let o = fill_at r s state places in
      let next = filled state places in
      let f = frames_by (last_key next calls) in
      let d = length (block_at state places) in
      let same : frames_from (frames_by state.u) state.n d ≡ frames_from f state.n d =
      frames_same (frames_by state.u) f state.n d (λ j from below. sym (frame_stays calls next j below)) in
      rw (grown_is o state)
      (counted_fill f state.n places calls (reckon_from r s next calls).answers o (block_is state places ∙ same) (block_size state places) (counts_are calls next))
  counts_are (key_up ∷ calls) state = counts_are calls (released state)

  -- ---- the theorem

  pub one_note : (calls : List Call) → OneNote r s calls (reckon_from r s at_first calls)
  one_note calls =
      let key : last_key at_first calls ≡ note_key r s calls = rw zero-add at (key_held calls 0) in
      record {
        frames = rw key at (order_count (frames_by (last_key at_first calls)) 0 (reckon_from r s at_first calls).blocks (blocks_are calls at_first));
        counts = rw key at (counts_are calls at_first);
      }
