-- Demand 3. For every list of fills and key-ups, refused ones included, in blocks of any lengths, from a fresh note on a read voice: the
-- answers and the accepted blocks, joined, are those of the reckoning, which knows the file's bytes, n and u alone. It is proved as
-- `demand3`. What the code does comes in by three names, which are what the contracts say: `after_reading` (parse_voice), `after_fill`
-- (a note's fill, inside `play`) and `after_calls` (make_calls).
use Rattle.std.specs.Prelude.{ℕ, true, cond, List, [], ◌∷◌, map, ◌⊎◌, ◌≡◌, ℤ, length, take, Err, Ok}
use Rattle.laws.specs.Among.{Among}
use Rattle.laws.specs.Buffer.{written}
use Rattle.refusal.specs.Rules.{Holds, NoneHolds, numbers_of}
use Rattle.field.specs.BigEndian.{Bytes}
use Rattle.sheet.specs.Allowed.{All}
use Rattle.sheet.specs.Judge.{judged}
use Rattle.sheet.specs.Read.{read_sheet}
use Rattle.sheet.specs.Voice as sheet
use Rattle.body_read.specs.Sides.{Sides}
use Rattle.note_frame.specs.declared.chain.Frame.{Frame}
use Rattle.note_frame.specs.Velocity.{frame_without_velocity}
use Rattle.note_frame.specs.declared.playing.Key.{Key}
use Rattle.note_frame.specs.declared.playing.Playing.{Playing}
use Rattle.note_rules.specs.Rules.{fill_rules}
use Rattle.note.specs.Fill.{fill_sheet}
use Rattle.note.specs.Note.{start_of}
use Rattle.note.specs.declared.Note.{Note}
use Rattle.note_calls.specs.Play.{HostCall, fill_buffer, key_up_now, PutOut, play, last_note}
use Rattle.note_calls.specs.Made.{is_key_up, answer_number, room_for, after_calls}
use Rattle.voice_read.specs.Parsed.{Lent, after_reading}
use Rattle.voice_read.specs.ReadVoice.{Reading, read_voice}
use Rattle.voice_read.specs.declared.chunks.Lengths.{Lengths}
use Rattle.demands.specs.Demand1.{sheet_refusals}
use Rattle.demands.specs.Reckoning.{Call, fill, key_up, Started, playing, reckon_from, at_first, reckon, note_frame, OneNote}
use Rattle.refusal.specs.declared.Refusal.TheVariants.{Segment, SequenceOneShot, FadeSegment, SequenceLength, OddPlaces, NoOctave, Step, Rate, Velocity}
use Rattle.refusal.specs.Outcome.{Outcome}
use Rattle.refusal.specs.declared.Refusal.{Refusal}

-- ---- what the reckoning is told

-- of a call as a host makes it
abbrev pub told_of : HostCall → Call
told_of (fill_buffer buffer) = fill (length buffer)
told_of key_up_now = key_up

-- of a number that make_calls takes for a call
abbrev pub told_by : ℕ → Call
told_by call = cond (is_key_up call) key_up (fill call)

-- ---- a fresh note on what reading put out

-- the sheet, cut to its length
abbrev pub sheet_read : List ℕ → Lent → Lengths → List ℕ
sheet_read file b l = take l.sheet (after_reading file b).buffers.sheet

-- both sides, cut to their lengths
abbrev pub sides_read : List ℕ → Lent → Lengths → Sides
sides_read file b l = record { left = take l.left (after_reading file b).buffers.left; right = take l.right (after_reading file b).buffers.right }

-- as starting returned it
abbrev pub fresh_note : Started → Note
fresh_note s = start_of s.octave s.step s.rate s.velocity

-- a reading of a file of bytes that was accepted, into these buffers, with these lengths
pub record WasRead (file : List ℕ) (b : Lent) (l : Lengths) : Type 0 where
  pub bytes : Bytes file
  pub accepted : (after_reading file b).parsed ≡ Ok l

-- ---- rules

-- the numbers that can turn back a fill on a read voice: 21 to 25, 31 to 33, 44
abbrev pub read_voice_refusals : List Refusal
read_voice_refusals = Segment ∷ SequenceOneShot ∷ FadeSegment ∷ SequenceLength ∷ OddPlaces ∷ NoOctave ∷ Step ∷ Rate ∷ Velocity ∷ []

-- an answer that isn't refused, or by one of these
abbrev pub RefusedAmong : List Refusal → Outcome ℕ → Type 0
RefusedAmong refusals (Ok count) = Unit
RefusedAmong refusals (Err refusal) = Among refusal refusals

-- ---- the demand

-- what a list of calls gives, which one note it is, and what can turn a fill back
pub record Demand3 : Type 0 where
  -- every list of calls from a fresh note on what reading put out gives the reckoning's answers and blocks
  pub played : (file : List ℕ) (b : Lent) (l : Lengths) (s : Started) (calls : List HostCall) → WasRead file b l
      → reckon file s (map told_of calls) ≡ Ok (play (sheet_read file b l) (sides_read file b l) (fresh_note s) calls)
  -- so does a list that make_calls makes, where there is room for it: its buffers then begin with the reckoning's blocks and answers
  pub made : (file : List ℕ) (b : Lent) (l : Lengths) (s : Started) (calls : List ℕ) (blocks : List ℤ) (answers : List ℕ) (p : PutOut) → WasRead file b l
      → room_for calls (length blocks) (length answers) ≡ true → reckon file s (map told_by calls) ≡ Ok p →
      let left = after_calls (sheet_read file b l) (sides_read file b l) (fresh_note s) calls blocks answers in
      (left.blocks ≡ written p.blocks blocks) × (left.answers ≡ written (map answer_number p.answers) answers)
  -- the reckoning puts out one note: released at the frames put out before the first key-up, or held throughout
  pub one_note : (r : Reading) (s : Started) (calls : List Call) → OneNote r s calls (reckon_from r s at_first calls)
  -- and so does the list of calls itself
  pub played_note : (file : List ℕ) (b : Lent) (l : Lengths) (s : Started) (calls : List HostCall) (r : Reading) → WasRead file b l → read_voice file ≡ Ok r
      → OneNote r s (map told_of calls) (play (sheet_read file b l) (sides_read file b l) (fresh_note s) calls)
  -- struck at 127, that note's frames are what the value chain without the velocity's step gives
  pub full_velocity : (r : Reading) (s : Started) (key : Key) (p : ℕ) → s.velocity ≡ 127
      → note_frame r s key p ≡ frame_without_velocity r.voice r.sides (playing s key) p
  -- every list of calls, refused ones included, keeps the velocity
  pub velocity_kept : (sheet : List ℕ) (s : Sides) (n : Note) (calls : List HostCall) → (last_note sheet s n calls).playing.velocity ≡ n.playing.velocity
  -- a read voice is never refused by 10, 13, 15 to 18 or 34
  pub read_voice_lem : (file : List ℕ) (r : Reading) (s : Started) (calls : List Call) → Bytes file → read_voice file ≡ Ok r
      → All (RefusedAmong read_voice_refusals) (reckon_from r s at_first calls).answers
  -- a sheet that is refused, by 15, 16 or 17, turns every fill back before any rule is looked at
  pub sheet_first : (sheet : List ℕ) (s : Sides) (n : Playing) (frames places : ℕ) (refusal : Refusal) → judged sheet ≡ Err refusal
      → (fill_sheet sheet s n frames places ≡ Err refusal) × Among refusal sheet_refusals
  -- the rules, in the order in which they are judged
  pub order : (v : sheet.Voice) (left right : ℕ) (n : Playing) (frames places : ℕ)
      → numbers_of (fill_rules v left right n frames places) ≡ 10 ∷ 13 ∷ 18 ∷ 21 ∷ 22 ∷ 23 ∷ 24 ∷ 25 ∷ 31 ∷ 32 ∷ 33 ∷ 34 ∷ 44 ∷ []
  -- any fill is refused only by a rule that holds: the sheet's verdict, or one of the rules
  pub by_a_rule : (sheet : List ℕ) (s : Sides) (n : Playing) (frames places : ℕ) (refusal : Refusal) → fill_sheet sheet s n frames places ≡ Err refusal
      → (judged sheet ≡ Err refusal)
      ⊎ ((judged sheet ≡ Ok tt) × Holds refusal (fill_rules (read_sheet sheet) (length s.left) (length s.right) n frames places))
  -- and accepted only where none does
  pub by_none : (sheet : List ℕ) (s : Sides) (n : Playing) (frames places : ℕ) (block : List Frame) → fill_sheet sheet s n frames places ≡ Ok block
      → (judged sheet ≡ Ok tt) × NoneHolds (fill_rules (read_sheet sheet) (length s.left) (length s.right) n frames places)
