-- An octave of a read voice as WAVE: what turns it back, and that it reads back. It is proved as `read_wave`.
use Rattle.std.specs.Prelude.{ℕ, List, [], ◌∷◌, ◌≡◌, Err, Ok}
use Rattle.laws.specs.Among.{Among}
use Rattle.field.specs.BigEndian.{Bytes}
use Rattle.voice_read.specs.ReadVoice.{Reading, read_voice}
use Rattle.wave.specs.ReadBack.{ReadBack}
use Rattle.wave.specs.Wave.{octave_wave}
use Rattle.refusal.specs.declared.Refusal.TheVariants.{NoOctave, VoiceRate, FormLength}
use Rattle.refusal.specs.declared.Refusal.{Refusal}

-- the numbers that can turn back an octave of a read voice: 31, 41, 19
abbrev pub read_wave_refusals : List Refusal
read_wave_refusals = NoOctave ∷ VoiceRate ∷ FormLength ∷ []

-- of octave k of the voice that a file of bytes gives
pub record ReadWave : Type 0 where
  -- it is refused by 31, 41 or 19 alone
  pub refused_by : (file : List ℕ) (r : Reading) (k : ℕ) (refusal : Refusal) → Bytes file → read_voice file ≡ Ok r → octave_wave r.voice r.sides k ≡ Err refusal
      → Among refusal read_wave_refusals
  -- its data by the WAVE file's own lengths, less 128, by channels, are the octave of each side
  pub reads_back : (file : List ℕ) (r : Reading) (k : ℕ) (wave : List ℕ) → Bytes file → read_voice file ≡ Ok r → octave_wave r.voice r.sides k ≡ Ok wave
      → ReadBack r.voice r.sides k wave
