-- The ensemble on a read voice: what a host mixes is what the reckoning says, and the reckoning puts out the beginning of one mix. The place that
-- comes back stops at 4,294,967,295, which changes no mixed frame.
-- Assumes nothing.
use Prim.Native.Nat.{ℕ, ◌+◌, ◌/◌, ◌^◌, min}
use mathlib.Core.Bool.{not}
use mathlib.Core.List.{List, [], ◌∷◌, map}
use mathlib.Core.Path.{◌≡◌, refl, sym, ap, ◌∙◌}
use native.Mathlib.Nat.{add-zero}
use native.Mathlib.Omega.{arith}
use borrow.Author.Tests.{lt-leb}
use lib.IntN.{ℤ}
use lib.ListN.{length}
use Rattle.header.specs.Octaves.{total_samples}
use Rattle.sheet.specs.Flat.{flat}
use Rattle.note_frame.specs.Frames.{frames_from}
use Rattle.note_frame.specs.declared.chain.Frame.{Frame}
use Rattle.note_frame.proofs.FramesLaws.{frames_none, frames_length, interleaved_none}
use Rattle.voice_read.specs.ReadVoice.{Reading, read_voice}
use Rattle.ensemble_score.specs.declared.Entry.{Entry}
use Rattle.ensemble_block.specs.Mixed.{mixed_frame}
use Rattle.ensemble.specs.Mix.{mix_sheet, place_after, mix_leaves}
use Rattle.ensemble.specs.Calls.{MixOut, before, accepted_block, last_place, mix_all}
use Rattle.ensemble.proofs.MixLaws.{mix_sound, mix_capped, block_frames}
use Rattle.ensemble.proofs.Promise.{promise}
use Rattle.demands.specs.Demand2.{Acceptable}
use Rattle.demands.specs.Demand3.{sheet_read, sides_read}
use Rattle.demands.specs.Ensemble.{mix_at, place_to, mixed_on, reckon_mix_from, Placed, OneMix, Ensemble}
use Rattle.demands.specs.Reckoning.{put_out}
use Rattle.demands.proofs.InOrder.{block_of, InOrder, order_put, order_count}
use Rattle.demands.proofs.Accepted.{read_sound, read_samples}
use Rattle.demands.proofs.FillRefusals.{known_byte}
use Rattle.demands.proofs.MixRefusals.{voice_mix}
use Rattle.demands.proofs.Played.{read_out}
use Rattle.refusal.specs.Outcome.{Outcome, and_then}
use Rattle.std.specs.Prelude.{Err, Ok}

-- ---- a host's calls are the reckoning's

-- what a call puts out, by its outcome
call_puts : (o : Outcome (List Frame)) (n : ℕ) (buffer : List ℤ) (later : MixOut)
    → before (mix_leaves o n buffer).answer (accepted_block (mix_leaves o n buffer).answer (mix_leaves o n buffer).buffer) later ≡ before (place_to o n) (put_out o) later
call_puts (Ok block) n buffer later = refl
call_puts (Err refusal) n buffer later = refl

-- the answer from where the place stops is the answer from n
answer_capped : (o : Outcome (List Frame)) (n : ℕ) → place_to o (min n 4294967295) ≡ place_to o n
answer_capped (Ok block) n = ap Ok (omega arith)
answer_capped (Err refusal) n = refl

-- the place that comes back is n, stopped
place_capped : (o : Outcome (List Frame)) (n : ℕ) (buffer : List ℤ)
    → last_place (mix_leaves o (min n 4294967295) buffer).answer (min n 4294967295) ≡ min (mixed_on o n) 4294967295
place_capped (Ok block) n buffer = omega arith
place_capped (Err refusal) n buffer = refl

module _ (r : Reading) (a : Acceptable r) (score : List Entry) (rate : ℕ) where
  -- a host's call is the reckoning's
  call_same : (n places : ℕ) → mix_sheet score rate (min n 4294967295) (flat r.voice) r.sides places ≡ mix_at r score rate n places
  call_same n places =
      mix_sound score rate (min n 4294967295) (flat r.voice) r.sides places a.sheet_sound
      ∙ rw a.sheet_says (mix_capped score rate n r.voice r.sides places)

  calls_same : (buffers : List (List ℤ)) (n : ℕ) → reckon_mix_from r score rate n (map length buffers) ≡ mix_all score rate (min n 4294967295) (flat r.voice) r.sides buffers
  unfolding reckon_mix_from mix_all
  calls_same [] n = refl
  calls_same (buffer ∷ buffers) n =
      let o = mix_at r score rate n (length buffer) in
      let rest = mix_all score rate (min (mixed_on o n) 4294967295) (flat r.voice) r.sides buffers in
      rw (call_same n (length buffer), place_capped o n buffer)
      (ap (before (place_to o n) (put_out o)) (calls_same buffers (mixed_on o n))
      ∙ ap (λ (m : Outcome ℕ). before m (put_out o) rest) (sym (answer_capped o n))
      ∙ sym (call_puts o (min n 4294967295) buffer rest))

-- ---- the reckoning's blocks are one mix

on_is : (o : Outcome (List Frame)) (n : ℕ) → mixed_on o n ≡ n + length (block_of o)
on_is (Ok block) n = refl
on_is (Err refusal) n = sym (add-zero n)

module _ (r : Reading) (score : List Entry) (rate : ℕ) where
  abbrev mixed_at : ℕ → Frame
  mixed_at = mixed_frame r.voice r.sides rate score

  block_long : (n places : ℕ) (block : List Frame) → mix_at r score rate n places ≡ Ok block → length block ≡ places / 2
  block_long n places block e = ap length (block_frames score rate n r.voice r.sides places block e) ∙ frames_length mixed_at n (places / 2)

  block_is : (n places : ℕ) → block_of (mix_at r score rate n places) ≡ frames_from mixed_at n (length (block_of (mix_at r score rate n places)))
  block_is n places = go (mix_at r score rate n places) refl
    where
      go : (o : Outcome (List Frame)) → mix_at r score rate n places ≡ o → block_of o ≡ frames_from mixed_at n (length (block_of o))
      go (Ok block) e = let long = block_long n places block e in rw long (block_frames score rate n r.voice r.sides places block e)
      go (Err refusal) e = sym (frames_none mixed_at n)

  blocks_are : (calls : List ℕ) (n : ℕ) → InOrder mixed_at n (reckon_mix_from r score rate n calls).blocks
  unfolding reckon_mix_from
  blocks_are [] n = record { count = 0; is = sym (interleaved_none mixed_at n) }
  blocks_are (places ∷ calls) n =
      let o = mix_at r score rate n places in
      rw (on_is o n) (order_put mixed_at n o (reckon_mix_from r score rate (n + length (block_of o)) calls).blocks (block_is n places) (blocks_are calls (n + length (block_of o))))

  -- and its answers the places
  answer_then : (n places : ℕ) (o : Outcome (List Frame)) → mix_at r score rate n places ≡ o → (calls : List ℕ) (answers : List (Outcome ℕ)) → Placed (mixed_on o n) calls answers
      → Placed n (places ∷ calls) (place_to o n ∷ answers)
  answer_then n places (Ok block) e calls answers later =
      let long = block_long n places block e in
      (ap (place_after n) long, rw long at later)
  answer_then n places (Err refusal) e calls answers later = later

  answers_are : (calls : List ℕ) (n : ℕ) → Placed n calls (reckon_mix_from r score rate n calls).answers
  unfolding reckon_mix_from
  answers_are [] n = refl
  answers_are (places ∷ calls) n =
      let o = mix_at r score rate n places in
      answer_then n places o refl calls (reckon_mix_from r score rate (mixed_on o n) calls).answers (answers_are calls (mixed_on o n))

  one_mix : (calls : List ℕ) → OneMix r score rate calls (reckon_mix_from r score rate 0 calls)
  one_mix calls = record { frames = order_count mixed_at 0 (reckon_mix_from r score rate 0 calls).blocks (blocks_are calls 0); places = answers_are calls 0 }

-- ---- all of it

pub ensemble : Ensemble
ensemble = record {
  mixed = λ file b l score rate buffers r was is.
      let calls = map length buffers in
      let out = read_out (read_voice file) b l was.accepted in
      let sound = read_sound file out.reading was.bytes out.is in
      let both : ◌≡◌ {A = Outcome Reading} (Ok out.reading) (Ok r) = sym out.is ∙ is in
      let same : out.reading ≡ r = cc in
      let reckoned = calls_same out.reading sound score rate buffers 0 in
      let all : reckon_mix_from out.reading score rate 0 calls ≡ mix_all score rate 0 (sheet_read file b l) (sides_read file b l) buffers = rw (out.sheet, out.left, out.right) reckoned in
      (ap (λ o. and_then o (λ x. Ok (reckon_mix_from x score rate 0 calls))) out.is ∙ ap Ok all, rw (← all, same) (one_mix r score rate calls));
  one_entry = λ file r e rate m is start soft.
      let samples = read_samples file r is in
      promise.one_entry r.voice r.sides rate e m samples.0 samples.1 start soft;
  refused_by = λ file r score rate n places refusal bytes is.
      let sound = read_sound file r bytes is in
      let h = r.voice.header in
      let known = known_byte h.compression_byte sound.known.0 sound.known.1 in
      let total = lt-leb (2 ^ 64) (total_samples h) sound.total in
      voice_mix score rate n r.voice r.sides places refusal (known, (total, (ap not sound.lengths_suit_lem, tt)));
}
