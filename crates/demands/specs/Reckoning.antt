-- The reckoning of a list of calls: it is fed the file's bytes, what starting was given, and each call; its state is n and u alone.
use Rattle.std.specs.Prelude.{ℕ, ◌+◌, ◌/◌, min, Bool, true, false, cond, List, [], ◌∷◌, ◌≡◌, ℤ, length, Err, Ok}
use Rattle.note_frame.specs.Frame.{frame}
use Rattle.note_frame.specs.Frames.{frames_from, interleaved, sounding}
use Rattle.note_frame.specs.declared.chain.Frame.{Frame}
use Rattle.note_frame.specs.declared.playing.Key.{Key}
use Rattle.note_frame.specs.declared.playing.Key.TheVariants.{Held, Released}
use Rattle.note_frame.specs.declared.playing.Playing.{Playing}
use Rattle.note.specs.Fill.{fill_voice}
use Rattle.note_calls.specs.Play.{PutOut, before}
use Rattle.voice_read.specs.ReadVoice.{Reading, read_voice}
use Rattle.refusal.specs.Outcome.{Outcome, and_then}

-- a call: a fill with its number of places, or a key-up
pub data Call : Type 0 where
  fill : ℕ → Call
  key_up : Call

-- what starting was given
pub record Started : Type 0 where
  pub octave : ℕ
  pub velocity : ℕ
  pub step : ℕ
  pub rate : ℕ

-- the note that was started so, with this key
abbrev pub playing : Started → Key → Playing
playing s key = record { octave = s.octave; velocity = s.velocity; step = s.step; rate = s.rate; key = key }

-- n, the frames put out, and u, the key-up frame; held while there is none
pub record State : Type 0 where
  pub n : ℕ
  pub u : Key

-- at first
abbrev pub at_first : State
at_first = record { n = 0; u = Held }

-- a key-up sets u to the smaller of n and 4,294,967,295 if it was none
abbrev pub set_by : Key → ℕ → Key
set_by Held n = Released (min n 4294967295)
set_by (Released u) n = Released u

-- a fill of so many places: the next frames from frame n on, with key-up at u, or the refusal that turns it back
abbrev pub fill_at : Reading → Started → State → ℕ → Outcome (List Frame)
fill_at r s state places = fill_voice r.voice r.sides (playing s state.u) state.n places

-- it answers how many of them aren't over, or that refusal
abbrev pub answer_to : Outcome (List Frame) → Outcome ℕ
answer_to (Ok block) = Ok (sounding block)
answer_to (Err refusal) = Err refusal

-- n grows by the block; a fill turned back changes nothing
abbrev pub grown : Outcome (List Frame) → State → State
grown (Ok block) state = record { n = state.n + length block; u = state.u }
grown (Err refusal) state = state

-- a fill turned back puts out nothing
abbrev pub put_out : Outcome (List Frame) → List ℤ
put_out (Ok block) = interleaved block
put_out (Err refusal) = []

-- the reckoning from a state on
unfoldable pub reckon_from : Reading → Started → State → List Call → PutOut
reckon_from r s state [] = record { answers = []; blocks = [] }
reckon_from r s state (fill places ∷ calls) =
    before (answer_to (fill_at r s state places)) (put_out (fill_at r s state places)) (reckon_from r s (grown (fill_at r s state places) state) calls)
reckon_from r s state (key_up ∷ calls) = reckon_from r s (record { n = state.n; u = set_by state.u state.n }) calls

-- the reckoning, fed the file's bytes
abbrev pub reckon : List ℕ → Started → List Call → Outcome PutOut
reckon file s calls = and_then (read_voice file) (λ r. Ok (reckon_from r s at_first calls))

-- ---- the one note

-- there is a key-up
abbrev pub has_key_up : List Call → Bool
has_key_up [] = false
has_key_up (fill places ∷ calls) = has_key_up calls
has_key_up (key_up ∷ calls) = true

-- the calls before the first key-up
abbrev pub before_key_up : List Call → List Call
before_key_up [] = []
before_key_up (fill places ∷ calls) = fill places ∷ before_key_up calls
before_key_up (key_up ∷ calls) = []

-- how many frames a list puts out: two values for each
abbrev pub frames_of : PutOut → ℕ
frames_of p = length p.blocks / 2

-- the key of the one note: released at the frames put out before the first key-up, or held throughout
abbrev pub note_key : Reading → Started → List Call → Key
note_key r s calls = cond (has_key_up calls) (Released (min (frames_of (reckon_from r s at_first (before_key_up calls))) 4294967295)) Held

-- its frames
abbrev pub note_frame : Reading → Started → Key → ℕ → Frame
note_frame r s key = frame r.voice r.sides (playing s key)

-- its first d frames, as values
abbrev pub first_frames : Reading → Started → Key → ℕ → List ℤ
first_frames r s key d = interleaved (frames_from (note_frame r s key) 0 d)

-- each accepted fill's answer is the number of the frames in its own block that aren't over, of frames f from n on
abbrev pub Counted : (ℕ → Frame) → ℕ → List Call → List (Outcome ℕ) → Type 0
Counted f n [] answers = answers ≡ []
Counted f n (key_up ∷ calls) answers = Counted f n calls answers
Counted f n (fill places ∷ calls) [] = ⊥
Counted f n (fill places ∷ calls) (Ok count ∷ answers) = (count ≡ sounding (frames_from f n (places / 2))) × Counted f (n + places / 2) calls answers
Counted f n (fill places ∷ calls) (Err refusal ∷ answers) = Counted f n calls answers

-- what calls put out is one note: its first frames, as many as they hold, and for each accepted fill the count of its own
pub record OneNote (r : Reading) (s : Started) (calls : List Call) (out : PutOut) : Type 0 where
  pub frames : out.blocks ≡ first_frames r s (note_key r s calls) (frames_of out)
  pub counts : Counted (note_frame r s (note_key r s calls)) 0 calls out.answers
