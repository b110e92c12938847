-- What the code's helpers ask and give; no reader of the meanings needs it.
-- The parts of the sheet, each from the chunks that it is made of.
use Rattle.std.specs.Prelude.{ℕ, take, List, [], ◌∷◌, map}
use Rattle.laws.specs.Walk.{each}
use Rattle.small_chunks.specs.Channel.{channel_value_of}
use Rattle.small_chunks.specs.Envelope.{envelope_points}
use Rattle.small_chunks.specs.Sequence.{sequence_segments}
use Rattle.chunk.specs.Chunk.{Item}
use Rattle.form.specs.Names.{chan, seqn}
use Rattle.form.specs.Find.{all_of, first_of}
use Rattle.sheet.specs.Flat.{if_there, flat_envelope, flat_sequence, flat_text}
use Rattle.sheet.specs.Read.{map_option}
use Rattle.sheet_read.specs.FormVoice.{chunk_channel, texts_of}

-- a record whose body is the first n bytes of a chunk
abbrev pub record_part : ℕ → ℕ → ℕ → List Item → List ℕ
record_part id kind n items = if_there (λ b. kind ∷ take n b) (first_of id items)

-- the channel's record
abbrev pub channel_part : List Item → List ℕ
channel_part items = if_there (λ c. 2 ∷ channel_value_of c ∷ []) (chunk_channel (first_of chan items))

-- the envelopes of a name, each begun by a kind
abbrev pub envelope_part : ℕ → ℕ → List Item → List ℕ
envelope_part id kind items = each (flat_envelope kind) (map envelope_points (all_of id items))

-- the sequence
abbrev pub segments_part : List Item → List ℕ
segments_part items = if_there flat_sequence (map_option sequence_segments (first_of seqn items))

-- the texts
abbrev pub text_part : List Item → List ℕ
text_part items = each flat_text (texts_of items)
