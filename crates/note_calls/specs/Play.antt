-- A list of calls on a note, as a host makes them, and what they put out.
use Rattle.std.specs.Prelude.{ℕ, List, [], ◌∷◌, ◌++◌, ℤ, Err, Ok}
use Rattle.body_read.specs.Sides.{Sides}
use Rattle.note.specs.Fill.{FillResult, after_fill}
use Rattle.note.specs.Note.{key_up_of}
use Rattle.note.specs.declared.Note.{Note}
use Rattle.refusal.specs.Outcome.{Outcome}

-- a fill of a buffer, with what it held before, or a key-up
pub data HostCall : Type 0 where
  fill_buffer : List ℤ → HostCall
  key_up_now : HostCall

-- what a list of calls puts out: every fill's answer, and the accepted fills' blocks, joined
pub record PutOut : Type 0 where
  pub answers : List (Outcome ℕ)
  pub blocks : List ℤ

-- an answer and a block before what follows
abbrev pub before : Outcome ℕ → List ℤ → PutOut → PutOut
before answer block later = record { answers = answer ∷ later.answers; blocks = block ++ later.blocks }

-- the block that a buffer holds after a fill with this answer; a refused fill has none
abbrev pub accepted_block : Outcome ℕ → List ℤ → List ℤ
accepted_block (Ok count) buffer = buffer
accepted_block (Err refusal) buffer = []

-- what a fill puts out, by what it leaves, before what follows
abbrev pub then_fill : FillResult → PutOut → PutOut
then_fill r later = before r.answer (accepted_block r.answer r.buffer) later

-- what calls put out on a sheet and its samples: each by what `fill` and `key_up` leave
unfoldable pub play : List ℕ → Sides → Note → List HostCall → PutOut
play sheet s n [] = record { answers = []; blocks = [] }
play sheet s n (fill_buffer buffer ∷ calls) = then_fill (after_fill sheet s n buffer) (play sheet s (after_fill sheet s n buffer).note calls)
play sheet s n (key_up_now ∷ calls) = play sheet s (key_up_of n) calls

-- the note after them
unfoldable pub last_note : List ℕ → Sides → Note → List HostCall → Note
last_note sheet s n [] = n
last_note sheet s n (fill_buffer buffer ∷ calls) = last_note sheet s (after_fill sheet s n buffer).note calls
last_note sheet s n (key_up_now ∷ calls) = last_note sheet s (key_up_of n) calls
