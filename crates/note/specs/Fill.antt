-- A fill: the block of frames that it gives, or the number that turns it back; and what that makes of answer, note and buffer.
use Rattle.std.specs.Prelude.{ℕ, ◌/◌, List, ℤ, length, Err, Ok}
use Rattle.refusal.specs.Rules.{first_holding, unless_refused}
use Rattle.sheet.specs.Judge.{judged, if_sound}
use Rattle.sheet.specs.Read.{read_sheet}
use Rattle.sheet.specs.Voice.{Voice}
use Rattle.body_read.specs.Sides.{Sides}
use Rattle.note_frame.specs.Frame.{frame}
use Rattle.note_frame.specs.Frames.{frames_from, interleaved, sounding}
use Rattle.note_frame.specs.declared.chain.Frame.{Frame}
use Rattle.note_frame.specs.declared.playing.Playing.{Playing}
use Rattle.note_rules.specs.Rules.{fill_rules}
use Rattle.note.specs.Note.{advance_of}
use Rattle.note.specs.declared.Note.{Note}
use Rattle.refusal.specs.Outcome.{Outcome}

-- the block of a voice: the frames that follow those filled, one for every two places, unless a rule turns the fill back
unfoldable pub fill_voice : Voice → Sides → Playing → ℕ → ℕ → Outcome (List Frame)
fill_voice v s n frames places =
    unless_refused (first_holding (fill_rules v (length s.left) (length s.right) n frames places))
    (frames_from (frame v s n) frames (places / 2))

-- the block of a sheet; 15 to 17 come first
abbrev pub fill_sheet : List ℕ → Sides → Playing → ℕ → ℕ → Outcome (List Frame)
fill_sheet sheet s n frames places = if_sound (judged sheet) Err (fill_voice (read_sheet sheet) s n frames places)

-- what a fill leaves: its answer, the note after it, and what the buffer then holds
pub record FillResult : Type 0 where
  pub answer : Outcome ℕ
  pub note : Note
  pub buffer : List ℤ

-- an accepted fill answers how many of its frames aren't over, and writes left and right values by turns; a refused one answers its
-- number, and leaves note and buffer as they were
abbrev pub fill_leaves : Outcome (List Frame) → Note → List ℤ → FillResult
fill_leaves (Ok block) n buffer = record { answer = Ok (sounding block); note = advance_of n (length block); buffer = interleaved block }
fill_leaves (Err refusal) n buffer = record { answer = Err refusal; note = n; buffer = buffer }

-- what `fill` leaves, on a sheet and its samples
abbrev pub after_fill : List ℕ → Sides → Note → List ℤ → FillResult
after_fill sheet s n buffer = fill_leaves (fill_sheet sheet s n.playing n.frames (length buffer)) n buffer
