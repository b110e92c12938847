-- The file of a voice: write_voice.
use Rattle.std.specs.Prelude.{ℕ, ◌^◌, cond, List, ◌++◌, ltb, length, Err, Ok}
use Rattle.field.specs.BigEndian.{big_endian_bytes}
use Rattle.header.specs.Compression.{known_compression, by_compression}
use Rattle.header.specs.Octaves.{total_samples}
use Rattle.header.specs.declared.compression.Compression.{Compression}
use Rattle.chunk.specs.ChunkBytes.{chunk_bytes}
use Rattle.form.specs.Names.{form, form_type, body}
use Rattle.body_write.specs.BodyBytes.{body_bytes}
use Rattle.sheet.specs.Judge.{judged, if_sound}
use Rattle.sheet.specs.Read.{read_sheet}
use Rattle.sheet.specs.Voice.{Voice, is_stereo}
use Rattle.sheet_write.specs.VoiceChunks.{voice_chunks}
use Rattle.body_read.specs.Sides.{Sides, lengths_suit}
use Rattle.refusal.specs.declared.Refusal.TheVariants.{OctaveTotal, SampleLengths, FormLength}
use Rattle.refusal.specs.Outcome.{Outcome}

-- what the FORM holds: its type, the chunks of the voice, and BODY last
unfoldable pub contents : Voice → Compression → Sides → List ℕ
contents v c s = big_endian_bytes 4 form_type ++ voice_chunks v ++ chunk_bytes body (body_bytes c (is_stereo v.channel) s.left s.right)

-- FORM, the length of what it holds, and that
unfoldable pub file_of : List ℕ → List ℕ
file_of held = big_endian_bytes 4 form ++ big_endian_bytes 4 (length held) ++ held

-- the file, where the FORM length fits 32 bits, else 19
abbrev pub held32 : List ℕ → Outcome (List ℕ)
held32 held = cond (ltb (length held) (2 ^ 32)) (Ok (file_of held)) (Err FormLength)

-- a voice's file: 10, 13, 18, 19 in that order
unfoldable pub write_voice : Voice → Sides → Outcome (List ℕ)
write_voice v s =
    by_compression (known_compression v.header.compression_byte) (λ c.
    cond (ltb (total_samples v.header) (2 ^ 64))
    (cond (lengths_suit v.header (is_stereo v.channel) (length s.left) (length s.right)) (held32 (contents v c s)) (Err SampleLengths))
    (Err OctaveTotal))

-- the file of a sheet and its samples
abbrev pub write_sheet : List ℕ → Sides → Outcome (List ℕ)
write_sheet sheet s = if_sound (judged sheet) Err (write_voice (read_sheet sheet) s)
