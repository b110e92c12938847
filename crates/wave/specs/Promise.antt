-- What is promised of an octave's WAVE file. It is proved as `promise`.
use Rattle.std.specs.Prelude.{ℕ, false, List, [], ◌∷◌, ◌≡◌, negsuc, length, Ok}
use Rattle.refusal.specs.Rules.{first_holding, with_buffer, unless_refused, numbers_of}
use Rattle.field.specs.BigEndian.{Bytes}
use Rattle.field.specs.Signed.{Samples}
use Rattle.header.specs.Header.{Fitting}
use Rattle.body_read.specs.Sides.{Sides}
use Rattle.sheet.specs.Read.{read_sheet}
use Rattle.sheet.specs.Voice.{Voice}
use Rattle.wave.specs.ReadBack.{ReadBack}
use Rattle.wave.specs.Riff.{riff, riff_chunk, wave_contents}
use Rattle.wave.specs.Wave.{value_of, values_of, octave_file, wave_rules, octave_wave, octave_wave_of}
use Rattle.refusal.specs.Outcome.{answer}

-- one sample, -2, at 8,000 Hz: 46 bytes, the value 126 at 44, and its pad
abbrev pub one_sample_file : List ℕ
one_sample_file =
    0x52 ∷ 0x49 ∷ 0x46 ∷ 0x46 ∷ 38 ∷ 0 ∷ 0 ∷ 0 ∷ 0x57 ∷ 0x41 ∷ 0x56 ∷ 0x45
    ∷ 0x66 ∷ 0x6D ∷ 0x74 ∷ 0x20 ∷ 16 ∷ 0 ∷ 0 ∷ 0 ∷ 1 ∷ 0 ∷ 1 ∷ 0 ∷ 0x40 ∷ 0x1F ∷ 0 ∷ 0 ∷ 0x40 ∷ 0x1F ∷ 0 ∷ 0 ∷ 1 ∷ 0 ∷ 8 ∷ 0
    ∷ 0x64 ∷ 0x61 ∷ 0x74 ∷ 0x61 ∷ 1 ∷ 0 ∷ 0 ∷ 0 ∷ 126 ∷ 0 ∷ []

-- that the file reads back, two examples, and the order in which a call is judged
pub record Promise : Type 0 where
  -- the file of a voice whose fields fit, with sides of samples, taken apart by its own lengths gives the octave of each side
  pub voices_back : (v : Voice) (s : Sides) (k : ℕ) (file : List ℕ) → Fitting v.header → Samples s.left → Samples s.right
      → octave_wave v s k ≡ Ok file → ReadBack v s k file
  -- the same of sheets, which are what the entries take
  pub sheets_back : (sheet : List ℕ) (s : Sides) (k : ℕ) (file : List ℕ) → Bytes sheet → Samples s.left → Samples s.right
      → octave_wave_of sheet s k ≡ Ok file → ReadBack (read_sheet sheet) s k file
  -- -2 becomes 126; `negsuc 1` is -2
  pub minus_two : value_of (negsuc 1) ≡ 126
  -- one sample as a whole file
  pub one_sample_lem : riff_chunk riff (wave_contents 1 8000 (values_of false (negsuc 1 ∷ []) [])) ≡ one_sample_file
  -- for a sound sheet the order is 10, 13, 18, 31, 41, 19, 20
  pub order : (v : Voice) (s : Sides) (k places : ℕ)
      → numbers_of (with_buffer (wave_rules v s k) (octave_file v s k) places) ≡ 10 ∷ 13 ∷ 18 ∷ 31 ∷ 41 ∷ 19 ∷ 20 ∷ []
  -- and the first of these rules that holds is the answer, or the file's length where none does
  pub answered : (v : Voice) (s : Sides) (k places : ℕ)
      → answer (octave_wave v s k) places ≡ unless_refused (first_holding (with_buffer (wave_rules v s k) (octave_file v s k) places)) (length (octave_file v s k))
