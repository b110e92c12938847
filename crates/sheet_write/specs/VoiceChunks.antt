-- The chunks of a voice, but for BODY.
use Rattle.std.specs.Prelude.{ℕ, get_or, List, [], ◌∷◌, ◌++◌}
use Rattle.laws.specs.Walk.{each}
use Rattle.field.specs.BigEndian.{big_endian_bytes}
use Rattle.header.specs.Header.{header_bytes}
use Rattle.small_chunks.specs.Channel.{channel_value_of}
use Rattle.small_chunks.specs.Pan.{pan_bytes}
use Rattle.small_chunks.specs.Envelope.{point_bytes}
use Rattle.small_chunks.specs.Sequence.{segment_bytes, fade_bytes}
use Rattle.chunk.specs.ChunkBytes.{chunk_bytes}
use Rattle.form.specs.Names.{vhdr, chan, pan, atak, rlse, seqn, fade, name, auth, anno, copyright, chrs}
use Rattle.sheet.specs.Voice.{Text, Voice}
use Rattle.sheet.specs.Flat.{if_there}

-- the names of text chunks by their keys, 1 to 5; there is no key 0
abbrev pub text_names : List ℕ
text_names = 0 ∷ name ∷ auth ∷ anno ∷ copyright ∷ chrs ∷ []

-- the name of a text's chunk
abbrev pub text_name : ℕ → ℕ
text_name key = get_or text_names key 0

-- a text has a zero byte after it
abbrev pub text_chunk : Text → List ℕ
text_chunk t = chunk_bytes (text_name t.key) (t.bytes ++ 0 ∷ [])

-- VHDR, CHAN, PAN, ATAKs, RLSEs, SEQN, FADE, texts
unfoldable pub voice_chunks : Voice → List ℕ
voice_chunks v =
    chunk_bytes vhdr (header_bytes v.header)
    ++ if_there (λ c. chunk_bytes chan (big_endian_bytes 4 (channel_value_of c))) v.channel
    ++ if_there (λ p. chunk_bytes pan (pan_bytes p)) v.pan
    ++ each (λ points. chunk_bytes atak (each point_bytes points)) v.attacks
    ++ each (λ points. chunk_bytes rlse (each point_bytes points)) v.releases
    ++ if_there (λ segments. chunk_bytes seqn (each segment_bytes segments)) v.sequence
    ++ if_there (λ f. chunk_bytes fade (fade_bytes f)) v.fade
    ++ each text_chunk v.texts
