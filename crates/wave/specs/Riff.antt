-- A RIFF WAVE file as bytes: 8-bit PCM. RIFF is chunks as in a FORM, but with little-endian lengths.
use Rattle.std.specs.Prelude.{ℕ, ◌*◌, List, ◌++◌, length}
use Rattle.field.specs.BigEndian.{big_endian_bytes}
use Rattle.field.specs.LittleEndian.{little_endian_bytes}
use Rattle.chunk.specs.ChunkBytes.{pad}

-- RIFF
abbrev pub riff : ℕ
riff = 0x52494646

-- WAVE
abbrev pub wave_type : ℕ
wave_type = 0x57415645

-- fmt and a space
abbrev pub fmt : ℕ
fmt = 0x666D7420

-- data
abbrev pub data_name : ℕ
data_name = 0x64617461

-- name and length, four bytes each
unfoldable pub riff_head : ℕ → ℕ → List ℕ
riff_head id n = big_endian_bytes 4 id ++ little_endian_bytes 4 n

-- name, length, payload, and a zero byte after an odd payload, which its own length doesn't count
unfoldable pub riff_chunk : ℕ → List ℕ → List ℕ
riff_chunk id payload = riff_head id (length payload) ++ payload ++ pad (length payload)

-- what fmt says: format 1, PCM; channels; frames a second; bytes a second; bytes a frame; bits a value
unfoldable pub format_bytes : ℕ → ℕ → List ℕ
format_bytes channels rate =
    little_endian_bytes 2 1 ++ little_endian_bytes 2 channels ++ little_endian_bytes 4 rate
    ++ little_endian_bytes 4 (rate * channels) ++ little_endian_bytes 2 channels ++ little_endian_bytes 2 8

-- what the RIFF holds: its type, the format and the values
unfoldable pub wave_contents : ℕ → ℕ → List ℕ → List ℕ
wave_contents channels rate values = big_endian_bytes 4 wave_type ++ riff_chunk fmt (format_bytes channels rate) ++ riff_chunk data_name values
