-- The voice of a file: read_voice.
use Rattle.std.specs.Prelude.{ℕ, cond, List, eqb, ltb, length, take, drop, Err, None, Ok, Option, Some, ⊤}
use Rattle.field.specs.BigEndian.{big_endian}
use Rattle.chunk.specs.Chunk.{Item, items_from, end_of}
use Rattle.form.specs.Names.{form, form_type, vhdr, body}
use Rattle.form.specs.FirstBad.{first_bad}
use Rattle.form.specs.Find.{first_of}
use Rattle.sheet.specs.Voice.{Voice, is_stereo}
use Rattle.body_read.specs.Sides.{Sides, body_sides}
use Rattle.sheet_read.specs.FormVoice.{form_voice}
use Rattle.refusal.specs.declared.Refusal.{Refusal}
use Rattle.refusal.specs.declared.Refusal.TheVariants.{FileShort, NotForm, Not8svx, NoHeader, NoBody}
use Rattle.refusal.specs.Outcome.{Outcome, accepted, if_accepted, and_then}

-- what a file gives: its voice and the samples of both sides
pub record Reading : Type 0 where
  pub voice : Voice
  pub sides : Sides

-- what follows for a chunk that is there; the refusal where it is missing
abbrev pub with_chunk : {A : Type 0} → Refusal → Option (List ℕ) → (List ℕ → Outcome A) → Outcome A
with_chunk refusal None next = Err refusal
with_chunk refusal (Some b) next = next b

-- what BODY's bytes make of a voice: its samples, 10 to 14
abbrev pub with_sides : Voice → List ℕ → Outcome Reading
with_sides v bytes = and_then (body_sides v.header (is_stereo v.channel) bytes) (λ sides. Ok (record { voice = v; sides = sides }))

-- the chunks of a FORM: 4 to 7 for the first bad one, then 8, 9, and 10 to 14
unfoldable pub read_items : List Item → Outcome Reading
read_items items =
    if_accepted (first_bad items)
    (with_chunk NoHeader (first_of vhdr items) (λ header. with_chunk NoBody (first_of body items) (λ bytes. with_sides (form_voice items) bytes)))

-- the part of a file that is walked
abbrev pub form_of : List ℕ → List ℕ
form_of file = take (end_of file) file

-- 1 to 3 for what is no FORM 8SVX
unfoldable pub head_refusal : List ℕ → Outcome ⊤
head_refusal file =
    cond (ltb (length file) 12) (Err FileShort)
    (cond (eqb (big_endian 4 file) form) (cond (eqb (big_endian 4 (drop 8 file)) form_type) accepted (Err Not8svx)) (Err NotForm))

-- a whole file: 1 to 3 come first
unfoldable pub read_voice : List ℕ → Outcome Reading
read_voice file = if_accepted (head_refusal file) (read_items (items_from (form_of file) 12))
