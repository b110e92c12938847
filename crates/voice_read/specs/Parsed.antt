-- What a reading makes of the answer and of the three lent buffers: all are written, or none is.
use Rattle.std.specs.Prelude.{ℕ, Bool, cond, ◌&&◌, List, leb, ℤ, length, Err, Ok}
use Rattle.laws.specs.Buffer.{written}
use Rattle.sheet.specs.Flat.{flat}
use Rattle.voice_read.specs.ReadVoice.{Reading, read_voice}
use Rattle.voice_read.specs.declared.chunks.Lengths.{Lengths}
use Rattle.refusal.specs.declared.Refusal.TheVariants.{BufferShort}
use Rattle.refusal.specs.Outcome.{Outcome}

-- the lengths of sheet, left and right
abbrev pub lengths_of : Reading → Lengths
lengths_of r = record { sheet = length (flat r.voice); left = length r.sides.left; right = length r.sides.right }

-- the lengths that a reading needs
abbrev pub needed_by : Outcome Reading → Outcome Lengths
needed_by (Ok r) = Ok (lengths_of r)
needed_by (Err refusal) = Err refusal

-- all three fit into so many places
abbrev pub fits : Reading → ℕ → ℕ → ℕ → Bool
fits r sheet left right = leb (length (flat r.voice)) sheet && leb (length r.sides.left) left && leb (length r.sides.right) right

-- the three buffers that a reading is lent
pub record Lent : Type 0 where
  pub sheet : List ℕ
  pub left : List ℤ
  pub right : List ℤ

-- what reading leaves: its answer, and what each buffer then holds
pub record ReadResult : Type 0 where
  pub parsed : Outcome Lengths
  pub buffers : Lent

-- the outputs at the fronts of the buffers, and past them what was there
abbrev pub written_to : Reading → Lent → Lent
written_to r b = record { sheet = written (flat r.voice) b.sheet; left = written r.sides.left b.left; right = written r.sides.right b.right }

-- the lengths and the outputs, or the refusal, or 20 where a buffer is too short; a refused reading leaves all three as they were
abbrev pub reading_leaves : Outcome Reading → Lent → ReadResult
reading_leaves (Ok r) b =
    cond (fits r (length b.sheet) (length b.left) (length b.right))
    (record { parsed = Ok (lengths_of r); buffers = written_to r b })
    (record { parsed = Err BufferShort; buffers = b })
reading_leaves (Err refusal) b = record { parsed = Err refusal; buffers = b }

-- what `parse_voice` leaves
abbrev pub after_reading : List ℕ → Lent → ReadResult
after_reading file b = reading_leaves (read_voice file) b
