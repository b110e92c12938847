-- Demand 1: the refusals of each entry, and that a refused call changes no lent buffer and no note.
-- Assumes nothing.
use Prim.Native.Nat.{ℕ, zero, suc, ◌^◌}
use mathlib.Core.Bool.{Bool, true, false, cond}
use mathlib.Core.List.{List, [], ◌∷◌, map}
use mathlib.Core.Logic.{inl, inr}
use mathlib.Core.Path.{◌≡◌, refl, subst}
use lib.Dec.{eqb, leb, ltb}
use lib.IntN.{ℤ}
use lib.ListN.{length}
use Rattle.laws.specs.Among.{Among}
use Rattle.laws.proofs.Cases.{impossible}
use Rattle.laws.specs.Buffer.{written}
use Rattle.field.specs.BigEndian.{big_endian}
use Rattle.field.specs.Signed.{sample_of, byte_of}
use Rattle.header.specs.Compression.{known_compression}
use Rattle.header.specs.Octaves.{total_samples}
use Rattle.header.specs.declared.voice_header.VoiceHeader.{VoiceHeader}
use Rattle.small_chunks.specs.Channel.{channel_of}
use Rattle.small_chunks.specs.Sequence.{segment_valid}
use Rattle.body_read.specs.Sides.{Sides, body_sides}
use Rattle.body_read.specs.Answers.{side_lengths_of}
use Rattle.fibonacci.specs.Decode.{fib_channel}
use Rattle.fibonacci.specs.Encode.{fib_bytes}
use Rattle.crossing.proofs.NearestLaws.{nearest_none}
use Rattle.body_decode.specs.Body.{decoded_body}
use Rattle.note_frame.specs.declared.chain.Frame.{Frame}
use Rattle.note.specs.Fill.{fill_sheet, fill_leaves}
use Rattle.note_calls.specs.Play.{play, last_note}
use Rattle.note_calls.specs.Made.{MadeResult, host_calls, room_for, calls_leave, no_room, after_calls}
use Rattle.note.specs.declared.Note.{Note}
use Rattle.voice_read.specs.ReadVoice.{Reading, read_voice}
use Rattle.voice_read.specs.Parsed.{Lent, ReadResult, lengths_of, needed_by, fits, written_to, reading_leaves}
use Rattle.voice_write.specs.WriteVoice.{write_sheet}
use Rattle.wave.specs.Wave.{octave_wave_of}
use Rattle.vault.specs.DifferenceOrder.{octave_order, octave_restored, each_octave, channel_rules, by_octave, difference_order, difference_restore}
use Rattle.drawn.specs.DrawnVoice.{drawn}
use Rattle.demands.specs.Demand1.{reading_refusals, writing_refusals, body_refusals, side_refusals, channel_refusals, fill_refusals, wave_refusals, vault_refusals, FillsOrKeeps, Demand1}
use Rattle.demands.specs.DrawnVoices.{drawn_refusals, DrawnRefused}
use Rattle.demands.proofs.RefusalLaws.{one_of, Within, by_test, rules_within, refused_by}
use Rattle.demands.proofs.FirstRefusals.{refused_record}
use Rattle.demands.proofs.DecodeRefusals.{channel_within, body_within}
use Rattle.demands.proofs.ReadRefusals.{sides_within, reading_within}
use Rattle.demands.proofs.WriteRefusals.{sheet_refusal, writing_within}
use Rattle.demands.proofs.FillRefusals.{fill_within}
use Rattle.demands.proofs.WaveRefusals.{wave_within}
use Rattle.demands.proofs.MixRefusals.{mix_or_keeps}
use Rattle.refusal.specs.declared.Refusal.TheVariants.{BufferShort, ChannelShort, UnknownCompression, ChannelValue}
use Rattle.refusal.specs.Outcome.{Outcome, length_of}
use Rattle.std.specs.Prelude.{Err, Ok}
use Rattle.refusal.specs.declared.Refusal.{Refusal}

-- ---- one buffer

module _ {A : Type 0} (refusals : List Refusal) where
  fills_or_keeps : (o : Outcome (List A)) → Within refusals o → FillsOrKeeps refusals o
  fills_or_keeps (Err k) w buffer refusal e = let same : k ≡ refusal = cc in (inr (subst (λ x. Among x refusals) same w), refl)
  fills_or_keeps (Ok xs) w buffer refusal e = go (leb (length xs) (length buffer)) e
    where
      go : (t : Bool) → cond t (Ok (length xs)) (Err BufferShort) ≡ Err refusal
          → Among refusal (BufferShort ∷ refusals) × (cond t (written xs buffer) buffer ≡ buffer)
      go true e = impossible cc
      go false e = (inl cc, refl)

-- an answer that lets a refusal stand
passed : {A B : Type 0} (refusals : List Refusal) (answer : Outcome A → Outcome B) → ((a : A) → Within refusals (answer (Ok a))) → ((r : Refusal) → answer (Err r) ≡ Err r)
    → (o : Outcome A) → Within refusals o → (refusal : Refusal) → answer o ≡ Err refusal → Among refusal refusals
passed refusals answer given stands (Ok a) w refusal e = refused_by refusals (answer (Ok a)) refusal (given a) e
passed refusals answer given stands (Err r) w refusal e = let same : r ≡ refusal = cc (stands r) in rw (← same) w

-- ---- the three buffers of a reading

reading_or_keeps : (refusals : List Refusal) (o : Outcome Reading) (b : Lent) (refusal : Refusal) → Within refusals o → (reading_leaves o b).parsed ≡ Err refusal
    → Among refusal (BufferShort ∷ refusals) × ((reading_leaves o b).buffers ≡ b)
reading_or_keeps refusals (Err k) b refusal w e = let same : k ≡ refusal = cc in (inr (subst (λ x. Among x refusals) same w), refl)
reading_or_keeps refusals (Ok r) b refusal w e = go (fits r (length b.sheet) (length b.left) (length b.right)) e
  where
    kept : ReadResult
    kept = record { parsed = Err BufferShort; buffers = b }

    done : ReadResult
    done = record { parsed = Ok (lengths_of r); buffers = written_to r b }

    go : (t : Bool) → (cond t done kept).parsed ≡ Err refusal → Among refusal (BufferShort ∷ refusals) × ((cond t done kept).buffers ≡ b)
    go true e = impossible cc
    go false e = (inl cc, refl)

-- ---- the note and the buffers of fills

module _ (refusals : List Refusal) (note : Note) (buffer : List ℤ) (refusal : Refusal) where
  filled_or_keeps : (o : Outcome (List Frame)) → Within refusals o → (fill_leaves o note buffer).answer ≡ Err refusal
      → Among refusal refusals × ((fill_leaves o note buffer).note ≡ note) × ((fill_leaves o note buffer).buffer ≡ buffer)
  filled_or_keeps (Ok block) w e = impossible cc
  filled_or_keeps (Err k) w e = let same : k ≡ refusal = cc in (rw (← same) w, refl, refl)

module _ (sheet : List ℕ) (sides : Sides) (note : Note) (calls : List ℕ) (blocks : List ℤ) (answers : List ℕ) (refusal : Refusal) where
  made_or_keeps : (after_calls sheet sides note calls blocks answers).made ≡ Err refusal
      → (refusal ≡ BufferShort) × ((after_calls sheet sides note calls blocks answers).blocks ≡ blocks) × ((after_calls sheet sides note calls blocks answers).answers ≡ answers)
  made_or_keeps = go (room_for calls (length blocks) (length answers))
    where
      done : MadeResult
      done = calls_leave (play sheet sides note (host_calls calls)) (last_note sheet sides note (host_calls calls)) blocks answers

      kept : MadeResult
      kept = no_room blocks answers

      go : (t : Bool) → (cond t done kept).made ≡ Err refusal → (refusal ≡ BufferShort) × ((cond t done kept).blocks ≡ blocks) × ((cond t done kept).answers ≡ answers)
      go true e = impossible cc
      go false e = (cc, refl, refl)

-- ---- entries that have one or two refusals

-- of two answers by a test
by_either : {A P : Type 0} (t : Bool) (a b c : A) → (a ≡ c → P) → (b ≡ c → P) → cond t a b ≡ c → P
by_either true a b c f g e = f e
by_either false a b c f g e = g e

refused_byte : (byte : ℕ) (refusal : Refusal) → known_compression byte ≡ Err refusal → refusal ≡ UnknownCompression
unfolding known_compression
refused_byte zero refusal e = impossible cc
refused_byte (suc zero) refusal e = impossible cc
refused_byte (suc (suc m)) refusal e = cc

refused_channel : (v : ℕ) (refusal : Refusal) → channel_of v ≡ Err refusal → refusal ≡ ChannelValue
refused_channel v refusal =
    by_either (eqb v 2) _ _ _ (λ e. impossible cc)
    (by_either (eqb v 4) _ _ _ (λ e. impossible cc)
    (by_either (eqb v 6) _ _ _ (λ e. impossible cc) (λ e. cc)))

-- a channel, octave by octave, by its rules
vault_within : (f : List ℤ → List ℤ) (h : VoiceHeader) (channel : List ℤ) → Within vault_refusals (by_octave f h channel)
unfolding by_octave
vault_within f h channel = rules_within vault_refusals (channel_rules h (length channel)) (each_octave f h channel) tt

-- ---- the demand

pub demand1 : Demand1
demand1 = record {
  reading = λ file refusal. refused_by reading_refusals (read_voice file) refusal (reading_within file);
  voice_lengths = λ file. passed reading_refusals needed_by (λ r. tt) (λ r. refl) (read_voice file) (reading_within file);
  parse_voice = λ file b refusal. reading_or_keeps reading_refusals (read_voice file) b refusal (reading_within file);
  writing = λ sheet sides refusal. refused_by writing_refusals (write_sheet sheet sides) refusal (writing_within sheet sides);
  file_length = λ sheet sides. passed writing_refusals length_of (λ bytes. tt) (λ r. refl) (write_sheet sheet sides) (writing_within sheet sides);
  encode_voice = λ sheet sides. fills_or_keeps writing_refusals (write_sheet sheet sides) (writing_within sheet sides);
  octave_wave_length = λ sheet sides k. passed wave_refusals length_of (λ bytes. tt) (λ r. refl) (octave_wave_of sheet sides k) (wave_within sheet sides k);
  octave_wave_lem = λ sheet sides k. fills_or_keeps wave_refusals (octave_wave_of sheet sides k) (wave_within sheet sides k);
  difference_order_lem = λ h samples. fills_or_keeps vault_refusals (difference_order h samples) (vault_within octave_order h samples);
  difference_restore_lem = λ h values. fills_or_keeps vault_refusals (difference_restore h values) (vault_within octave_restored h values);
  decode_body = λ byte channels frames body. fills_or_keeps body_refusals (decoded_body byte channels frames body) (body_within byte channels frames body);
  fibonacci_decode_channel = λ body. fills_or_keeps channel_refusals (fib_channel body) (channel_within channel_refusals (one_of channel_refusals ChannelShort tt) body);
  fibonacci_encode_channel = λ samples. fills_or_keeps [] (Ok (fib_bytes samples)) tt;
  decode_raw = λ body. fills_or_keeps [] (Ok (map sample_of body)) tt;
  encode_raw = λ samples. fills_or_keeps [] (Ok (map byte_of samples)) tt;
  nearest_crossing_lem = λ samples place reach refusal e. (nearest_none samples place reach refusal e).0;
  side_lengths = λ h stereo body. passed side_refusals side_lengths_of (λ s. tt) (λ r. refl) (body_sides h stereo body) (sides_within h stereo body);
  header_parse = λ body refusal. by_either (ltb (length body) 20) _ _ _ (λ e. cc) (λ e. impossible cc);
  known_compression_lem = refused_byte;
  total_samples_per_channel = λ h refusal. by_either (ltb (total_samples h) (2 ^ 64)) _ _ _ (λ e. impossible cc) (λ e. cc);
  channel_from_raw = refused_channel;
  channel_parse = λ body refusal. by_either (ltb (length body) 4) _ _ _ (λ e. inl cc) (λ e. inr (inl (refused_channel (big_endian 4 body) refusal e)));
  pan_parse = λ body refusal. by_either (ltb (length body) 4) _ _ _ (λ e. cc) (λ e. impossible cc);
  fade_parse = λ body refusal. by_either (ltb (length body) 4) _ _ _ (λ e. cc) (λ e. impossible cc);
  segment_validate = λ s hi refusal. by_either (segment_valid s hi) _ _ _ (λ e. impossible cc) (λ e. cc);
  judge_sheet = sheet_refusal;
  record_at_lem = refused_record;
  reader_advance = λ r step refusal e. rw e refl;
  note_fill = λ sheet sides note buffer refusal.
      filled_or_keeps fill_refusals note buffer refusal (fill_sheet sheet sides note.playing note.frames (length buffer)) (fill_within sheet sides note.playing note.frames (length buffer));
  mix = mix_or_keeps;
  make_calls = made_or_keeps;
}

-- a drawn voice, by the number 0 alone
drawn_within : (number : ℕ) → Within drawn_refusals (drawn number)
unfolding drawn
drawn_within number = by_test (Within drawn_refusals) (eqb number 0) (inl refl) tt

pub drawn_refused : DrawnRefused
drawn_refused = record { drawn_voice = λ number b refusal. reading_or_keeps drawn_refusals (drawn number) b refusal (drawn_within number) }
