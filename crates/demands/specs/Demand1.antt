-- Demand 1. Whatever the bytes are, every entry finishes with its result or with one of the numbers that are listed for it, and a
-- refused call changes no lent buffer and no note.
-- That an entry finishes, and reads and writes within its slices alone, is what a proved crate says. The contracts of the entries say their
-- answers and buffers by the definitions below. There is a field for each entry of the crates `voice` and `ensemble` that can refuse; the
-- others have no number to give. It is proved as `demand1`.
use Rattle.std.specs.Prelude.{ℕ, Bool, List, [], ◌∷◌, map, ◌≡◌, ℤ, length, Err, Ok, Option}
use Rattle.laws.specs.Among.{Among}
use Rattle.field.specs.Signed.{sample_of, byte_of}
use Rattle.header.specs.Compression.{known_compression}
use Rattle.header.specs.Header.{parsed_header}
use Rattle.header.specs.Octaves.{total}
use Rattle.header.specs.declared.voice_header.VoiceHeader.{VoiceHeader}
use Rattle.small_chunks.specs.Channel.{channel_of, parsed_channel}
use Rattle.small_chunks.specs.Pan.{parsed_pan}
use Rattle.small_chunks.specs.Sequence.{segment_verdict, parsed_fade}
use Rattle.small_chunks.specs.declared.sequence.SeqnSegment.{SeqnSegment}
use Rattle.fibonacci.specs.Decode.{fib_channel}
use Rattle.fibonacci.specs.Encode.{fib_bytes}
use Rattle.crossing.specs.Crossing.{nearest_crossing}
use Rattle.body_decode.specs.Body.{decoded_body}
use Rattle.sheet.specs.Judge.{judged}
use Rattle.sheet.specs.Record.{record_at}
use Rattle.sheet_records.specs.Steps.{moved_by}
use Rattle.sheet_records.specs.declared.SheetReader.{SheetReader}
use Rattle.body_read.specs.Sides.{Sides, body_sides}
use Rattle.body_read.specs.Answers.{side_lengths_of}
use Rattle.note.specs.Fill.{after_fill}
use Rattle.note.specs.declared.Note.{Note}
use Rattle.note_calls.specs.Made.{after_calls}
use Rattle.voice_read.specs.ReadVoice.{read_voice}
use Rattle.voice_read.specs.Parsed.{Lent, needed_by, after_reading}
use Rattle.voice_write.specs.WriteVoice.{write_sheet}
use Rattle.wave.specs.Wave.{octave_wave_of}
use Rattle.vault.specs.DifferenceOrder.{difference_order, difference_restore}
use Rattle.ensemble_score.specs.declared.Entry.{Entry}
use Rattle.ensemble.specs.Mix.{after_mix}
use Rattle.sheet.specs.declared.record.Record.{Record}
use Rattle.refusal.specs.declared.Refusal.TheVariants.{FileShort, NotForm, Not8svx, ChunkPastForm, ChunkTwice, ChunkLength, ChannelValue, NoHeader, NoBody, UnknownCompression, OddHalves, ChannelShort, OctaveTotal, SamplesShort, RecordCut, RecordWrong, TextIllFormed, SampleLengths, FormLength, BufferShort, Segment, SequenceOneShot, FadeSegment, SequenceLength, OddPlaces, NoOctave, Step, Rate, KeyUp, VoiceRate, NoCrossing, Velocity, StartOrder, EntryCount, EarlyKeyUp}
use Rattle.refusal.specs.Outcome.{Outcome, answer, buffer_after, length_of}
use Rattle.refusal.specs.declared.Refusal.{Refusal}

-- ---- the refusals

-- reading a file: 1 to 14
abbrev pub reading_refusals : List Refusal
reading_refusals =
    FileShort ∷ NotForm ∷ Not8svx ∷ ChunkPastForm ∷ ChunkTwice ∷ ChunkLength ∷ ChannelValue ∷ NoHeader ∷ NoBody
    ∷ UnknownCompression ∷ OddHalves ∷ ChannelShort ∷ OctaveTotal ∷ SamplesShort ∷ []

-- writing a file: 10, 13, 15 to 19
abbrev pub writing_refusals : List Refusal
writing_refusals = UnknownCompression ∷ OctaveTotal ∷ RecordCut ∷ RecordWrong ∷ TextIllFormed ∷ SampleLengths ∷ FormLength ∷ []

-- decoding a BODY: 10, 11, 12
abbrev pub body_refusals : List Refusal
body_refusals = UnknownCompression ∷ OddHalves ∷ ChannelShort ∷ []

-- decoding a Fibonacci channel: 12
abbrev pub channel_refusals : List Refusal
channel_refusals = ChannelShort ∷ []

-- the lengths of a BODY's sides: 10 to 14
abbrev pub side_refusals : List Refusal
side_refusals = UnknownCompression ∷ OddHalves ∷ ChannelShort ∷ OctaveTotal ∷ SamplesShort ∷ []

-- a CHAN: 6, 7
abbrev pub channel_chunk_refusals : List Refusal
channel_chunk_refusals = ChunkLength ∷ ChannelValue ∷ []

-- judging a sheet: 15, 16, 17
abbrev pub sheet_refusals : List Refusal
sheet_refusals = RecordCut ∷ RecordWrong ∷ TextIllFormed ∷ []

-- filling a block of a note: 10, 13, 15 to 18, 21 to 25, 31 to 34, 44
abbrev pub fill_refusals : List Refusal
fill_refusals =
    UnknownCompression ∷ OctaveTotal ∷ RecordCut ∷ RecordWrong ∷ TextIllFormed ∷ SampleLengths
    ∷ Segment ∷ SequenceOneShot ∷ FadeSegment ∷ SequenceLength ∷ OddPlaces ∷ NoOctave ∷ Step ∷ Rate ∷ KeyUp ∷ Velocity ∷ []

-- an octave as WAVE: 10, 13, 15 to 18, 31, 41, 19
abbrev pub wave_refusals : List Refusal
wave_refusals = UnknownCompression ∷ OctaveTotal ∷ RecordCut ∷ RecordWrong ∷ TextIllFormed ∷ SampleLengths ∷ NoOctave ∷ VoiceRate ∷ FormLength ∷ []

-- mixing a block of a score: 10, 13, 15 to 18, 21 to 25, 31 to 33, 44 to 47
abbrev pub mix_refusals : List Refusal
mix_refusals =
    UnknownCompression ∷ OctaveTotal ∷ RecordCut ∷ RecordWrong ∷ TextIllFormed ∷ SampleLengths
    ∷ Segment ∷ SequenceOneShot ∷ FadeSegment ∷ SequenceLength ∷ OddPlaces ∷ NoOctave ∷ Step ∷ Rate ∷ Velocity ∷ StartOrder ∷ EntryCount ∷ EarlyKeyUp ∷ []

-- a channel in difference order, or back: 13, 18
abbrev pub vault_refusals : List Refusal
vault_refusals = OctaveTotal ∷ SampleLengths ∷ []

-- one record of a sheet: 15, 16
abbrev pub record_refusals : List Refusal
record_refusals = RecordCut ∷ RecordWrong ∷ []

-- ---- the demand

-- an entry that fills one lent buffer: it is refused by one of the numbers or by 20, and then the buffer is as it was
abbrev pub FillsOrKeeps : {A : Type 0} → List Refusal → Outcome (List A) → Type 0
FillsOrKeeps {A} refusals outcome =
    (buffer : List A) (refusal : Refusal) → answer outcome (length buffer) ≡ Err refusal → Among refusal (BufferShort ∷ refusals) × (buffer_after outcome buffer ≡ buffer)

-- by which numbers each entry is refused, and that what it was lent is then as it was
pub record Demand1 : Type 0 where
  -- reading a file is refused by 1 to 14
  pub reading : (file : List ℕ) (refusal : Refusal) → read_voice file ≡ Err refusal → Among refusal reading_refusals
  -- voice_lengths is refused by 1 to 14
  pub voice_lengths : (file : List ℕ) (refusal : Refusal) → needed_by (read_voice file) ≡ Err refusal → Among refusal reading_refusals
  -- parse_voice is refused by 1 to 14 or 20, and then sheet, left and right are as they were
  pub parse_voice : (file : List ℕ) (b : Lent) (refusal : Refusal) → (after_reading file b).parsed ≡ Err refusal
      → Among refusal (BufferShort ∷ reading_refusals) × ((after_reading file b).buffers ≡ b)
  -- writing a file is refused by 10, 13, 15 to 19
  pub writing : (sheet : List ℕ) (sides : Sides) (refusal : Refusal) → write_sheet sheet sides ≡ Err refusal → Among refusal writing_refusals
  -- file_length is refused by 10, 13, 15 to 19
  pub file_length : (sheet : List ℕ) (sides : Sides) (refusal : Refusal) → length_of (write_sheet sheet sides) ≡ Err refusal → Among refusal writing_refusals
  -- encode_voice is refused by 10, 13, 15 to 20, and then the file's buffer is as it was
  pub encode_voice : (sheet : List ℕ) (sides : Sides) → FillsOrKeeps writing_refusals (write_sheet sheet sides)
  -- octave_wave_length is refused by 10, 13, 15 to 18, 31, 41 or 19
  pub octave_wave_length : (sheet : List ℕ) (sides : Sides) (k : ℕ) (refusal : Refusal) → length_of (octave_wave_of sheet sides k) ≡ Err refusal → Among refusal wave_refusals
  -- octave_wave is refused by these or 20, and then the file's buffer is as it was
  pub octave_wave_lem : (sheet : List ℕ) (sides : Sides) (k : ℕ) → FillsOrKeeps wave_refusals (octave_wave_of sheet sides k)
  -- difference_order is refused by 13, 18 or 20, and then its buffer is as it was
  pub difference_order_lem : (h : VoiceHeader) (samples : List ℤ) → FillsOrKeeps vault_refusals (difference_order h samples)
  -- difference_restore too
  pub difference_restore_lem : (h : VoiceHeader) (values : List ℤ) → FillsOrKeeps vault_refusals (difference_restore h values)
  -- decode_body is refused by 10, 11, 12 or 20, and then its buffer is as it was
  pub decode_body : (byte channels frames : ℕ) (body : List ℕ) → FillsOrKeeps body_refusals (decoded_body byte channels frames body)
  -- fibonacci_decode_channel is refused by 12 or 20, and then its buffer is as it was
  pub fibonacci_decode_channel : (body : List ℕ) → FillsOrKeeps channel_refusals (fib_channel body)
  -- fibonacci_encode_channel is refused by 20 alone, and then its buffer is as it was
  pub fibonacci_encode_channel : (samples : List ℤ) → FillsOrKeeps [] (Ok (fib_bytes samples))
  -- decode_raw is refused by 20 alone, and then its buffer is as it was
  pub decode_raw : (body : List ℕ) → FillsOrKeeps [] (Ok (map sample_of body))
  -- encode_raw is refused by 20 alone, and then its buffer is as it was
  pub encode_raw : (samples : List ℤ) → FillsOrKeeps [] (Ok (map byte_of samples))
  -- nearest_crossing is refused by 43 alone
  pub nearest_crossing_lem : (samples : List ℤ) (place reach : ℕ) (refusal : Refusal) → nearest_crossing samples place reach ≡ Err refusal → refusal ≡ NoCrossing
  -- side_lengths is refused by 10 to 14
  pub side_lengths : (h : VoiceHeader) (stereo : Bool) (body : List ℕ) (refusal : Refusal) → side_lengths_of (body_sides h stereo body) ≡ Err refusal → Among refusal side_refusals
  -- VoiceHeader::parse is refused by 6 alone
  pub header_parse : (body : List ℕ) (refusal : Refusal) → parsed_header body ≡ Err refusal → refusal ≡ ChunkLength
  -- VoiceHeader::compression and known_compression are refused by 10 alone
  pub known_compression_lem : (byte : ℕ) (refusal : Refusal) → known_compression byte ≡ Err refusal → refusal ≡ UnknownCompression
  -- VoiceHeader::total_samples_per_channel is refused by 13 alone
  pub total_samples_per_channel : (h : VoiceHeader) (refusal : Refusal) → total h ≡ Err refusal → refusal ≡ OctaveTotal
  -- ChannelAssignment::from_raw is refused by 7 alone
  pub channel_from_raw : (v : ℕ) (refusal : Refusal) → channel_of v ≡ Err refusal → refusal ≡ ChannelValue
  -- ChannelAssignment::parse is refused by 6 or 7
  pub channel_parse : (body : List ℕ) (refusal : Refusal) → parsed_channel body ≡ Err refusal → Among refusal channel_chunk_refusals
  -- Pan::parse is refused by 6 alone
  pub pan_parse : (body : List ℕ) (refusal : Refusal) → parsed_pan body ≡ Err refusal → refusal ≡ ChunkLength
  -- Fade::parse is refused by 6 alone
  pub fade_parse : (body : List ℕ) (refusal : Refusal) → parsed_fade body ≡ Err refusal → refusal ≡ ChunkLength
  -- SeqnSegment::validate is refused by 21 alone
  pub segment_validate : (s : SeqnSegment) (hi : ℕ) (refusal : Refusal) → segment_verdict s hi ≡ Err refusal → refusal ≡ Segment
  -- judge_sheet is refused by 15, 16 or 17
  pub judge_sheet : (sheet : List ℕ) (refusal : Refusal) → judged sheet ≡ Err refusal → Among refusal sheet_refusals
  -- record_at, read_step and the record reader's next are refused by 15 or 16
  pub record_at_lem : (sheet : List ℕ) (at : ℕ) (refusal : Refusal) → record_at sheet at ≡ Err refusal → Among refusal record_refusals
  -- the record reader's advance is refused by these too, and then the reader is as it was
  pub reader_advance : (r : SheetReader) (step : Outcome (Option Record)) (refusal : Refusal) → step ≡ Err refusal → moved_by r step ≡ r
  -- a note's fill is refused by 10, 13, 15 to 18, 21 to 25, 31 to 34 or 44, and then the note and the buffer are as they were
  pub note_fill : (sheet : List ℕ) (sides : Sides) (note : Note) (buffer : List ℤ) (refusal : Refusal) → (after_fill sheet sides note buffer).answer ≡ Err refusal
      → Among refusal fill_refusals × ((after_fill sheet sides note buffer).note ≡ note) × ((after_fill sheet sides note buffer).buffer ≡ buffer)
  -- mix is refused by 10, 13, 15 to 18, 21 to 25, 31 to 33 or 44 to 47, and then the buffer is as it was
  pub mix : (score : List Entry) (rate place : ℕ) (sheet : List ℕ) (sides : Sides) (buffer : List ℤ) (refusal : Refusal)
      → (after_mix score rate place sheet sides buffer).answer ≡ Err refusal
      → Among refusal mix_refusals × ((after_mix score rate place sheet sides buffer).buffer ≡ buffer)
  -- make_calls is refused by 20 alone, and then both buffers are as they were
  pub make_calls : (sheet : List ℕ) (sides : Sides) (note : Note) (calls : List ℕ) (blocks : List ℤ) (answers : List ℕ) (refusal : Refusal) →
      let left = after_calls sheet sides note calls blocks answers in
      left.made ≡ Err refusal → (refusal ≡ BufferShort) × (left.blocks ≡ blocks) × (left.answers ≡ answers)
