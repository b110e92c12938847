-- The voice that a FORM's chunks say.
use Rattle.std.specs.Prelude.{ℕ, zero, suc, List, [], ◌∷◌, ◌++◌, map, None, Option, Some}
use Rattle.field.specs.BigEndian.{big_endian}
use Rattle.header.specs.Header.{header_of}
use Rattle.small_chunks.specs.Channel.{channel_of}
use Rattle.small_chunks.specs.Pan.{pan_of}
use Rattle.small_chunks.specs.Envelope.{envelope_points}
use Rattle.small_chunks.specs.Sequence.{sequence_segments, fade_of}
use Rattle.small_chunks.specs.declared.channel.ChannelAssignment.{ChannelAssignment}
use Rattle.chunk.specs.Chunk.{Item, chunk, bad}
use Rattle.form.specs.Names.{vhdr, chan, pan, atak, rlse, seqn, fade, name, auth, anno, copyright, chrs}
use Rattle.form.specs.Kind.{place_in}
use Rattle.form.specs.Find.{all_of, first_of}
use Rattle.text.specs.Text.{clean}
use Rattle.sheet.specs.Voice.{Text, Voice}
use Rattle.sheet.specs.Read.{map_option, known_channel, body_of}

-- the assignment of a CHAN
abbrev pub chunk_channel : Option (List ℕ) → Option ChannelAssignment
chunk_channel None = None
chunk_channel (Some b) = known_channel (channel_of (big_endian 4 b))

-- the key of a text chunk's name: title, artist, comment, copyright, characters are 1 to 5; 0 for any other name
unfoldable pub text_key : ℕ → ℕ
text_key id = place_in 1 id (name ∷ auth ∷ anno ∷ copyright ∷ chrs ∷ [])

-- a text, where the name is a text's and cleaning leaves something
unfoldable pub text_of : ℕ → List ℕ → List Text
text_of zero text = []
text_of (suc k) [] = []
text_of (suc k) (b ∷ bs) = record { key = suc k; bytes = b ∷ bs } ∷ []

-- the texts in file order
unfoldable pub texts_of : List Item → List Text
texts_of [] = []
texts_of (bad refusal ∷ items) = []
texts_of (chunk id b ∷ items) = text_of (text_key id) (clean b) ++ texts_of items

-- all of it
unfoldable pub form_voice : List Item → Voice
form_voice items = record {
  header = header_of (body_of (first_of vhdr items));
  channel = chunk_channel (first_of chan items);
  pan = map_option pan_of (first_of pan items);
  attacks = map envelope_points (all_of atak items);
  releases = map envelope_points (all_of rlse items);
  sequence = map_option sequence_segments (first_of seqn items);
  fade = map_option fade_of (first_of fade items);
  texts = texts_of items;
}
