-- Demand 2. Each file gives the voice that `read_voice` defines, and each voice its file by `write_voice`: the contracts of parse_voice,
-- voice_lengths, encode_voice and file_length are equations against these two. Here stands what the two promise together. It is proved
-- as `demand2`.
use Rattle.std.specs.Prelude.{ℕ, ◌^◌, ◌<◌, true, List, [], ◌∷◌, ◌≡◌, negsuc, length, None, Ok}
use Rattle.field.specs.BigEndian.{Bytes}
use Rattle.field.specs.Signed.{Samples}
use Rattle.header.specs.Compression.{known_compression}
use Rattle.header.specs.Octaves.{total_samples}
use Rattle.header.specs.declared.compression.Compression.{Compression}
use Rattle.fibonacci.specs.Decode.{fib_samples}
use Rattle.fibonacci.specs.Encode.{fib_bytes}
use Rattle.text.specs.Text.{tidy}
use Rattle.sheet.specs.Allowed.{All, Allowed}
use Rattle.sheet.specs.Flat.{flat}
use Rattle.sheet.specs.Judge.{judged}
use Rattle.sheet.specs.Read.{read_sheet}
use Rattle.sheet.specs.Voice.{Voice, is_stereo}
use Rattle.body_read.specs.Sides.{Sides, lengths_suit}
use Rattle.voice_read.specs.ReadVoice.{Reading, read_voice}
use Rattle.voice_write.specs.WriteVoice.{write_voice, write_sheet}

-- every text of a voice is tidy
abbrev pub TidyTexts : Voice → Type 0
TidyTexts v = All (λ t. tidy t.bytes ≡ true) v.texts

-- what reading puts out: a sheet that judging accepts and that says the voice, tidy texts, sides that suit it, and neither 10 nor 13
pub record Acceptable (r : Reading) : Type 0 where
  pub allowed : Allowed r.voice
  pub sheet_sound : judged (flat r.voice) ≡ Ok tt
  pub sheet_says : read_sheet (flat r.voice) ≡ r.voice
  pub tidy_texts : TidyTexts r.voice
  pub lengths_suit_lem : lengths_suit r.voice.header (is_stereo r.voice.channel) (length r.sides.left) (length r.sides.right) ≡ true
  pub total : total_samples r.voice.header < 2 ^ 64
  pub known : (c : Compression) × (known_compression r.voice.header.compression_byte ≡ Ok c)

-- one whole file: one-shot 1, 8,000 Hz, one octave, full volume, and one sample, -2
abbrev pub example_file : List ℕ
example_file =
    0x46 ∷ 0x4F ∷ 0x52 ∷ 0x4D ∷ 0x00 ∷ 0x00 ∷ 0x00 ∷ 0x2A ∷ 0x38 ∷ 0x53 ∷ 0x56 ∷ 0x58
    ∷ 0x56 ∷ 0x48 ∷ 0x44 ∷ 0x52 ∷ 0x00 ∷ 0x00 ∷ 0x00 ∷ 0x14
    ∷ 0x00 ∷ 0x00 ∷ 0x00 ∷ 0x01 ∷ 0x00 ∷ 0x00 ∷ 0x00 ∷ 0x00 ∷ 0x00 ∷ 0x00 ∷ 0x00 ∷ 0x00 ∷ 0x1F ∷ 0x40 ∷ 0x01 ∷ 0x00 ∷ 0x00 ∷ 0x01 ∷ 0x00 ∷ 0x00
    ∷ 0x42 ∷ 0x4F ∷ 0x44 ∷ 0x59 ∷ 0x00 ∷ 0x00 ∷ 0x00 ∷ 0x01 ∷ 0xFE ∷ 0x00 ∷ []

-- its voice
abbrev pub example_voice : Voice
example_voice = record {
  header = record {
    one_shot_hi_samples = 1;
    repeat_hi_samples = 0;
    samples_per_hi_cycle = 0;
    samples_per_sec = 8000;
    ct_octave = 1;
    compression_byte = 0;
    volume = 65536;
  };
  channel = None;
  pan = None;
  attacks = [];
  releases = [];
  sequence = None;
  fade = None;
  texts = [];
}

-- its samples; `negsuc 1` is -2
abbrev pub example_sides : Sides
example_sides = record { left = negsuc 1 ∷ []; right = [] }

-- all of it
pub record Demand2 : Type 0 where
  -- an uncompressed voice that the writer accepts, with tidy texts, is the same after writing and reading
  pub round_trip : (v : Voice) (s : Sides) (file : List ℕ) → Allowed v → known_compression v.header.compression_byte ≡ Ok Compression.None → TidyTexts v
      → Samples s.left → Samples s.right → write_voice v s ≡ Ok file → read_voice file ≡ Ok (record { voice = v; sides = s })
  -- the same of sheets, which are what the entries take and give
  pub sheet_round_trip : (sheet : List ℕ) (s : Sides) (file : List ℕ) → Bytes sheet → known_compression (read_sheet sheet).header.compression_byte ≡ Ok Compression.None
      → TidyTexts (read_sheet sheet) → Samples s.left → Samples s.right → write_sheet sheet s ≡ Ok file
      → (r : Reading) × (read_voice file ≡ Ok r) × (flat r.voice ≡ sheet) × (r.sides ≡ s)
  -- what reading puts out is accepted by judging, and suits the writer and the note
  pub accepted : (file : List ℕ) (r : Reading) → Bytes file → read_voice file ≡ Ok r → Acceptable r
  -- its samples are samples
  pub samples : (file : List ℕ) (r : Reading) → read_voice file ≡ Ok r → Samples r.sides.left × Samples r.sides.right
  -- judging accepts the flat forms of voices, and nothing else: a sheet that it accepts is that of the voice that it reads as
  pub flat_sound : (v : Voice) → Allowed v → judged (flat v) ≡ Ok tt
  pub sound_flat : (sheet : List ℕ) → Bytes sheet → judged sheet ≡ Ok tt → Allowed (read_sheet sheet) × (flat (read_sheet sheet) ≡ sheet)
  -- samples decoded from a whole Fibonacci stream survive being written and decoded
  pub fibonacci_survives : (body : List ℕ) → fib_samples (fib_bytes (fib_samples body)) ≡ fib_samples body
  -- the whole example file is read as its voice, and written from it
  pub example_read : read_voice example_file ≡ Ok (record { voice = example_voice; sides = example_sides })
  pub example_written : write_voice example_voice example_sides ≡ Ok example_file
