-- Demand 2, from the round trip, from what a reading was read from, and from the grammar of the sheet.
-- Assumes nothing.
use Prim.Native.Nat.{ℕ, zero, suc}
use mathlib.Core.List.{List}
use mathlib.Core.Path.{◌≡◌, refl}
use native.Mathlib.Omega.{arith}
use Rattle.laws.proofs.Cases.{impossible}
use Rattle.field.specs.BigEndian.{Bytes, big_endian_bytes}
use Rattle.field.specs.Signed.{Samples, twos_complement_bits}
use Rattle.header.specs.Compression.{known_compression}
use Rattle.header.specs.Header.{header_bytes}
use Rattle.header.specs.Octaves.{total_samples}
use Rattle.header.specs.declared.compression.Compression.TheVariants as Compression
use Rattle.fibonacci.proofs.Survive.{survives}
use Rattle.chunk.specs.ChunkBytes.{pad, chunk_bytes}
use Rattle.body_write.specs.BodyBytes.{channel_bytes, body_bytes}
use Rattle.sheet.specs.Allowed.{Allowed}
use Rattle.sheet.specs.Flat.{flat}
use Rattle.sheet.specs.Judge.{judged, if_sound}
use Rattle.sheet.specs.Read.{read_sheet}
use Rattle.sheet_grammar.proofs.Theorem.{judged_flat, flat_read, allowed_read}
use Rattle.sheet_write.specs.VoiceChunks.{voice_chunks}
use Rattle.body_read.specs.Sides.{Sides, lengths_suit}
use Rattle.voice_read.specs.ReadVoice.{Reading, read_voice}
use Rattle.voice_write.specs.WriteVoice.{contents, file_of, write_voice, write_sheet}
use Rattle.voice_round_trip.proofs.Theorem.{round_trip}
use Rattle.demands.specs.Demand2.{TidyTexts, example_file, example_voice, example_sides, Demand2}
use Rattle.demands.proofs.Accepted.{read_sound, read_samples}
use Rattle.refusal.specs.Outcome.{Outcome}
use Rattle.std.specs.Prelude.{Err, Ok, ⊤}

-- a sheet that is written was accepted
written_sound : (sheet : List ℕ) (s : Sides) (file : List ℕ) → write_sheet sheet s ≡ Ok file → (judged sheet ≡ Ok tt) × (write_voice (read_sheet sheet) s ≡ Ok file)
written_sound sheet s file = go (judged sheet) refl
  where
    go : (j : Outcome ⊤) → judged sheet ≡ j → if_sound j Err (write_voice (read_sheet sheet) s) ≡ Ok file → (judged sheet ≡ Ok tt) × (write_voice (read_sheet sheet) s ≡ Ok file)
    go (Ok tt) p e = (p, e)
    go (Err refusal) p e = impossible cc

sheet_back : (sheet : List ℕ) (s : Sides) (file : List ℕ) → Bytes sheet → known_compression (read_sheet sheet).header.compression_byte ≡ Ok Compression.None
    → TidyTexts (read_sheet sheet) → Samples s.left → Samples s.right → write_sheet sheet s ≡ Ok file
    → (r : Reading) × (read_voice file ≡ Ok r) × (flat r.voice ≡ sheet) × (r.sides ≡ s)
sheet_back sheet s file b k d left right w =
    let sound = written_sound sheet s file w in
    (record { voice = read_sheet sheet; sides = s }, round_trip (read_sheet sheet) s file (allowed_read sheet b sound.0) k d left right sound.1, flat_read sheet b sound.0, refl)

-- ---- the example

example_allowed : Allowed example_voice
example_allowed = record {
  header = record { one_shot = omega arith; repeat = omega arith; cycle = omega arith; rate = omega arith; octave_count = omega arith; compression = omega arith; volume = omega arith };
  pan = tt;
  attacks = tt;
  releases = tt;
  sequence = tt;
  fade = tt;
  texts = tt;
}

one_sample_lem : Samples example_sides.left
one_sample_lem zero = record { sfits = omega arith }
one_sample_lem (suc i) = record { sfits = omega arith }

no_sample : Samples example_sides.right
no_sample i = record { sfits = omega arith }

example_file_lem : write_voice example_voice example_sides ≡ Ok example_file
unfolding write_voice contents file_of voice_chunks chunk_bytes pad body_bytes channel_bytes lengths_suit total_samples header_bytes big_endian_bytes twos_complement_bits known_compression
example_file_lem = refl

raw : known_compression 0 ≡ Ok Compression.None
unfolding known_compression
raw = refl

pub demand2 : Demand2
demand2 = record {
  round_trip = round_trip;
  sheet_round_trip = sheet_back;
  accepted = read_sound;
  samples = read_samples;
  flat_sound = judged_flat;
  sound_flat = λ sheet b j. (allowed_read sheet b j, flat_read sheet b j);
  fibonacci_survives = survives;
  example_read = round_trip example_voice example_sides example_file example_allowed raw tt one_sample_lem no_sample example_file_lem;
  example_written = example_file_lem;
}
