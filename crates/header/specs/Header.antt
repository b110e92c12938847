-- VHDR: seven fields in 20 bytes, big-endian.
use Rattle.std.specs.Prelude.{ℕ, ◌^◌, ◌<◌, cond, List, [], ◌∷◌, ◌++◌, ltb, length, drop, get_or, Err, Ok}
use Rattle.field.specs.BigEndian.{big_endian, big_endian_bytes}
use Rattle.header.specs.declared.voice_header.VoiceHeader.{VoiceHeader}
use Rattle.refusal.specs.declared.Refusal.TheVariants.{ChunkLength}
use Rattle.refusal.specs.Outcome.{Outcome}

-- the fields of the bytes, in their order
unfoldable pub header_of : List ℕ → VoiceHeader
header_of l = record {
  one_shot_hi_samples = big_endian 4 l;
  repeat_hi_samples = big_endian 4 (drop 4 l);
  samples_per_hi_cycle = big_endian 4 (drop 8 l);
  samples_per_sec = big_endian 2 (drop 12 l);
  ct_octave = get_or l 14 0;
  compression_byte = get_or l 15 0;
  volume = big_endian 4 (drop 16 l);
}

-- the bytes of the fields
unfoldable pub header_bytes : VoiceHeader → List ℕ
header_bytes h =
    big_endian_bytes 4 h.one_shot_hi_samples ++ big_endian_bytes 4 h.repeat_hi_samples
    ++ big_endian_bytes 4 h.samples_per_hi_cycle ++ big_endian_bytes 2 h.samples_per_sec
    ++ (h.ct_octave ∷ h.compression_byte ∷ []) ++ big_endian_bytes 4 h.volume

-- a chunk under 20 bytes is refused by 6; what lies past them is ignored
abbrev pub parsed_header : List ℕ → Outcome VoiceHeader
parsed_header l = cond (ltb (length l) 20) (Err ChunkLength) (Ok (header_of l))

-- each field fits its width
pub record Fitting (h : VoiceHeader) : Type 0 where
  pub one_shot : h.one_shot_hi_samples < 2 ^ 32
  pub repeat : h.repeat_hi_samples < 2 ^ 32
  pub cycle : h.samples_per_hi_cycle < 2 ^ 32
  pub rate : h.samples_per_sec < 2 ^ 16
  pub octave_count : h.ct_octave < 2 ^ 8
  pub compression : h.compression_byte < 2 ^ 8
  pub volume : h.volume < 2 ^ 32
