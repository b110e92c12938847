-- What a host plays on a voice that it read is what the reckoning says. The three buffers, cut to their lengths, are what reading gave;
-- the note after any calls is the reckoning's state with its frames stopped at 4,294,967,295, which changes no block and no answer.
-- Assumes nothing.
use Prim.Native.Nat.{ℕ, ◌+◌, min}
use mathlib.Core.Bool.{Bool, true, false, cond}
use mathlib.Core.List.{List, [], ◌∷◌, map}
use mathlib.Core.Path.{◌≡◌, refl, sym, ap, ◌∙◌}
use native.Mathlib.Omega.{arith}
use lib.IntN.{ℤ, pos}
use lib.ListN.{length, take, drop, replicate, length-replicate}
use lib.Seq.{take-append_seam}
use Rattle.laws.proofs.Cases.{impossible}
use Rattle.laws.specs.Buffer.{written}
use Rattle.sheet.specs.Flat.{flat}
use Rattle.note_frame.specs.declared.chain.Frame.{Frame}
use Rattle.note_frame.specs.declared.playing.Key.{Key}
use Rattle.note_frame.specs.declared.playing.Key.TheVariants.{Held, Released}
use Rattle.note_rules.proofs.RuleLaws.{NotAhead, never_ahead}
use Rattle.note.specs.Fill.{fill_sheet, fill_leaves}
use Rattle.note.specs.Note.{key_up_of}
use Rattle.note.specs.declared.Note.{Note}
use Rattle.note.proofs.BlockLaws.{block_capped}
use Rattle.note_calls.specs.Play.{HostCall, fill_buffer, key_up_now, PutOut, before, then_fill, play}
use Rattle.note_calls.specs.Made.{is_key_up, host_calls, answer_number, room_for, after_calls}
use Rattle.voice_read.specs.Parsed.{Lent, ReadResult, lengths_of, fits, written_to, reading_leaves}
use Rattle.voice_read.specs.ReadVoice.{Reading, read_voice}
use Rattle.voice_read.specs.declared.chunks.Lengths.{Lengths}
use Rattle.demands.specs.Demand2.{Acceptable}
use Rattle.demands.specs.Demand3.{told_of, told_by, sheet_read, sides_read, fresh_note, WasRead}
use Rattle.demands.specs.Reckoning.{Call, fill, key_up, Started, State, playing, at_first, set_by, fill_at, answer_to, grown, put_out, reckon_from, reckon}
use Rattle.demands.proofs.Accepted.{read_sound}
use Rattle.refusal.specs.declared.Refusal.TheVariants.{BufferShort}
use Rattle.refusal.specs.Outcome.{Outcome, and_then}
use Rattle.std.specs.Prelude.{Err, Ok}

-- ---- what reading put out

-- a reading whose outputs are what the buffers hold, cut to their lengths
pub record ReadOut (o : Outcome Reading) (b : Lent) (l : Lengths) : Type 0 where
  pub reading : Reading
  pub is : o ≡ Ok reading
  pub lengths : lengths_of reading ≡ l
  pub sheet : take l.sheet (reading_leaves o b).buffers.sheet ≡ flat reading.voice
  pub left : take l.left (reading_leaves o b).buffers.left ≡ reading.sides.left
  pub right : take l.right (reading_leaves o b).buffers.right ≡ reading.sides.right

pub read_out : (o : Outcome Reading) (b : Lent) (l : Lengths) → (reading_leaves o b).parsed ≡ Ok l → ReadOut o b l
read_out (Ok r) b l e = go (fits r (length b.sheet) (length b.left) (length b.right)) refl e
  where
    fitting : ReadResult
    fitting = record { parsed = Ok (lengths_of r); buffers = written_to r b }

    short : ReadResult
    short = record { parsed = Err BufferShort; buffers = b }

    go : (t : Bool) → fits r (length b.sheet) (length b.left) (length b.right) ≡ t → (cond t fitting short).parsed ≡ Ok l → ReadOut (Ok r) b l
    go true p e =
        let same : lengths_of r ≡ l = cc in
        record {
          reading = r;
          is = refl;
          lengths = same;
          sheet = rw (← same, p) (take-append_seam (flat r.voice) (drop (length (flat r.voice)) b.sheet));
          left = rw (← same, p) (take-append_seam r.sides.left (drop (length r.sides.left) b.left));
          right = rw (← same, p) (take-append_seam r.sides.right (drop (length r.sides.right) b.right));
        }
    go false p e = impossible cc
read_out (Err refusal) b l e = impossible cc

-- ---- the calls

-- the note that a host holds at a state
abbrev note_at : Started → State → Note
note_at s state = record { playing = playing s state.u; frames = min state.n 4294967295 }

-- a key-up isn't later than the frames that were filled
abbrev pub Behind : State → Type 0
Behind state = NotAhead state.u (min state.n 4294967295)

module _ (s : Started) where
  note_key_up : (n : ℕ) (u : Key) → key_up_of (note_at s (record { n = n; u = u })) ≡ note_at s (record { n = n; u = set_by u n })
  note_key_up n Held = refl
  note_key_up n (Released u) = refl

  note_fill : (o : Outcome (List Frame)) (state : State) (buffer : List ℤ) → (fill_leaves o (note_at s state) buffer).note ≡ note_at s (grown o state)
  note_fill (Ok block) state buffer =
      let same : min (min state.n 4294967295 + length block) 4294967295 ≡ min (state.n + length block) 4294967295 = omega arith in
      rw same
  note_fill (Err refusal) state buffer = refl

pub behind_key_up : (n : ℕ) (u : Key) → Behind (record { n = n; u = u }) → Behind (record { n = n; u = set_by u n })
behind_key_up n Held h = omega arith
behind_key_up n (Released u) h = h

pub behind_fill : (o : Outcome (List Frame)) (state : State) → Behind state → Behind (grown o state)
behind_fill (Ok block) state h = never_ahead state.u (min state.n 4294967295) (min (state.n + length block) 4294967295) (omega arith) h
behind_fill (Err refusal) state h = h

-- what a fill puts out, by its outcome
fill_puts : (o : Outcome (List Frame)) (n : Note) (buffer : List ℤ) (later : PutOut) → then_fill (fill_leaves o n buffer) later ≡ before (answer_to o) (put_out o) later
fill_puts (Ok block) n buffer later = refl
fill_puts (Err refusal) n buffer later = refl

module _ (r : Reading) (a : Acceptable r) (s : Started) where
  -- the fill of a host's note is the reckoning's
  fill_same : (state : State) (places : ℕ) → Behind state
      → fill_sheet (flat r.voice) r.sides (note_at s state).playing (note_at s state).frames places ≡ fill_at r s state places
  fill_same state places h = rw (a.sheet_sound, a.sheet_says) (block_capped r.voice r.sides (playing s state.u) state.n places h)

  calls_same : (calls : List HostCall) (state : State) → Behind state → reckon_from r s state (map told_of calls) ≡ play (flat r.voice) r.sides (note_at s state) calls
  unfolding reckon_from play
  calls_same [] state h = refl
  calls_same (fill_buffer buffer ∷ calls) state h =
      let o = fill_at r s state (length buffer) in
      let rest = play (flat r.voice) r.sides (note_at s (grown o state)) calls in
      rw (fill_same state (length buffer) h, note_fill s o state buffer)
      (ap (before (answer_to o) (put_out o)) (calls_same calls (grown o state) (behind_fill o state h)) ∙ sym (fill_puts o (note_at s state) buffer rest))
  calls_same (key_up_now ∷ calls) state h = rw (note_key_up s state.n state.u) (calls_same calls (record { n = state.n; u = set_by state.u state.n }) (behind_key_up state.n state.u h))

-- ---- the theorem

module _ (file : List ℕ) (b : Lent) (l : Lengths) (s : Started) (was : WasRead file b l) where
  pub played : (calls : List HostCall) → reckon file s (map told_of calls) ≡ Ok (play (sheet_read file b l) (sides_read file b l) (fresh_note s) calls)
  played calls =
      let out = read_out (read_voice file) b l was.accepted in
      let same = calls_same out.reading (read_sound file out.reading was.bytes out.is) s calls at_first tt in
      ap (λ o. and_then o (λ r. Ok (reckon_from r s at_first (map told_of calls)))) out.is ∙ rw (out.sheet, out.left, out.right) (ap Ok same)

  -- the same of a reading that is known
  pub played_as : (r : Reading) → read_voice file ≡ Ok r → (calls : List HostCall)
      → reckon_from r s at_first (map told_of calls) ≡ play (sheet_read file b l) (sides_read file b l) (fresh_note s) calls
  played_as r is calls =
      let reckoned : ◌≡◌ {A = Outcome PutOut} (Ok (reckon_from r s at_first (map told_of calls))) (Ok (play (sheet_read file b l) (sides_read file b l) (fresh_note s) calls)) =
      sym (ap (λ o. and_then o (λ x. Ok (reckon_from x s at_first (map told_of calls)))) is) ∙ played calls in
      cc

-- ---- calls in numbers

told_by_lem : (calls : List ℕ) → map told_of (host_calls calls) ≡ map told_by calls
told_by_lem [] = refl
told_by_lem (call ∷ calls) = go (is_key_up call) (told_by_lem calls)
  where
    go : (t : Bool) → map told_of (host_calls calls) ≡ map told_by calls
        → (told_of (cond t key_up_now (fill_buffer (replicate call (pos 0)))) ∷ map told_of (host_calls calls)) ≡ cond t key_up (fill call) ∷ map told_by calls
    go true later = ap (λ (cs : List Call). key_up ∷ cs) later
    go false later = rw length-replicate (ap (λ (cs : List Call). fill call ∷ cs) later)

pub made : (file : List ℕ) (b : Lent) (l : Lengths) (s : Started) (calls : List ℕ) (blocks : List ℤ) (answers : List ℕ) (p : PutOut) → WasRead file b l
    → room_for calls (length blocks) (length answers) ≡ true → reckon file s (map told_by calls) ≡ Ok p →
    let left = after_calls (sheet_read file b l) (sides_read file b l) (fresh_note s) calls blocks answers in
    (left.blocks ≡ written p.blocks blocks) × (left.answers ≡ written (map answer_number p.answers) answers)
made file b l s calls blocks answers p was room reckoned =
    let out = play (sheet_read file b l) (sides_read file b l) (fresh_note s) (host_calls calls) in
    let same : ◌≡◌ {A = Outcome PutOut} (Ok out) (Ok p) = sym (played file b l s was (host_calls calls)) ∙ rw (told_by_lem calls) reckoned in
    let is : out ≡ p = cc in
    rw (room, is) (refl, refl)
