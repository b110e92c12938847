-- The refusals of a file, step by step.
-- Assumes nothing.
use Prim.Native.Nat.{ℕ, ◌^◌}
use mathlib.Core.Bool.{Bool}
use mathlib.Core.List.{List}
use lib.Dec.{eqb, ltb}
use lib.IntN.{ℤ}
use lib.ListN.{length, drop}
use Rattle.laws.specs.Among.{Among}
use Rattle.field.specs.BigEndian.{big_endian}
use Rattle.header.specs.Octaves.{hi, total_samples}
use Rattle.header.specs.declared.compression.Compression.{Compression}
use Rattle.header.specs.declared.voice_header.VoiceHeader.{VoiceHeader}
use Rattle.samples.specs.Stream.{stream}
use Rattle.samples.specs.Halves.{left_half, right_half, uneven}
use Rattle.body_read.specs.Sides.{octaves_of, channel_samples, one_side, two_sides, body_sides}
use Rattle.chunk.specs.Chunk.{Item, items_from}
use Rattle.form.specs.Names.{form, form_type, vhdr, body}
use Rattle.form.specs.FirstBad.{none_came, first_bad}
use Rattle.form.specs.Find.{first_of}
use Rattle.sheet_read.specs.FormVoice.{form_voice}
use Rattle.sheet.specs.Voice.{is_stereo}
use Rattle.voice_read.specs.ReadVoice.{Reading, with_chunk, read_items, form_of, head_refusal, read_voice}
use Rattle.demands.specs.Demand1.{side_refusals, reading_refusals}
use Rattle.demands.proofs.RefusalLaws.{one_of, Within, by_test, widened, then_within, accepted_then}
use Rattle.demands.proofs.FirstRefusals.{chunk_refusals, bad_within}
use Rattle.demands.proofs.DecodeRefusals.{compression_within, stream_within}
use Rattle.refusal.specs.declared.Refusal.TheVariants.{FileShort, NotForm, Not8svx, NoHeader, NoBody, UnknownCompression, OddHalves, ChannelShort, OctaveTotal, SamplesShort}
use Rattle.refusal.specs.Outcome.{Outcome}
use Rattle.std.specs.Prelude.{None, Option, Some, ⊤}
use Rattle.refusal.specs.declared.Refusal.{Refusal}

octaves_within : (h : VoiceHeader) (samples : List ℤ) → Within side_refusals (octaves_of h samples)
octaves_within h samples =
    by_test (Within side_refusals) (ltb (total_samples h) (2 ^ 64))
    (by_test (Within side_refusals) (eqb (hi h) 0) tt
    (by_test (Within side_refusals) (ltb (length samples) (total_samples h)) (one_of side_refusals SamplesShort tt) tt))
    (one_of side_refusals OctaveTotal tt)

samples_within : (h : VoiceHeader) (c : Compression) (bytes : List ℕ) → Within side_refusals (channel_samples h c bytes)
unfolding channel_samples
samples_within h c bytes = then_within side_refusals (stream c bytes) (octaves_of h) (stream_within side_refusals (one_of side_refusals ChannelShort tt) c bytes) (octaves_within h)

mono_within : (h : VoiceHeader) (c : Compression) (bytes : List ℕ) → Within side_refusals (one_side h c bytes)
unfolding one_side
mono_within h c bytes = then_within side_refusals (channel_samples h c bytes) _ (samples_within h c bytes) (λ left. tt)

stereo_within : (h : VoiceHeader) (c : Compression) (bytes : List ℕ) → Within side_refusals (two_sides h c bytes)
unfolding two_sides
stereo_within h c bytes =
    by_test (Within side_refusals) (uneven c bytes) (one_of side_refusals OddHalves tt)
    (then_within side_refusals (channel_samples h c (left_half bytes)) _ (samples_within h c (left_half bytes)) (λ left.
    then_within side_refusals (channel_samples h c (right_half bytes)) _ (samples_within h c (right_half bytes)) (λ right. tt)))

pub sides_within : (h : VoiceHeader) (stereo : Bool) (bytes : List ℕ) → Within side_refusals (body_sides h stereo bytes)
unfolding body_sides
sides_within h stereo bytes =
    compression_within side_refusals (one_of side_refusals UnknownCompression tt) h.compression_byte _ (λ c.
    by_test (Within side_refusals) stereo (stereo_within h c bytes) (mono_within h c bytes))

chunk_within : (refusal : Refusal) (o : Option (List ℕ)) (next : List ℕ → Outcome Reading) → Among refusal reading_refusals → ((b : List ℕ) → Within reading_refusals (next b))
    → Within reading_refusals (with_chunk refusal o next)
chunk_within refusal None next a later = a
chunk_within refusal (Some b) next a later = later b

items_within : (items : List Item) → Within chunk_refusals (first_bad items) → Within reading_refusals (read_items items)
unfolding read_items
items_within items w =
    let v = form_voice items in
    accepted_then reading_refusals (first_bad items) _ (widened reading_refusals chunk_refusals tt (first_bad items) w)
    (chunk_within NoHeader (first_of vhdr items) _ (one_of reading_refusals NoHeader tt) (λ header.
    chunk_within NoBody (first_of body items) _ (one_of reading_refusals NoBody tt) (λ bytes.
    let stereo = is_stereo v.channel in
    let sides = body_sides v.header stereo bytes in
    then_within reading_refusals sides _ (widened reading_refusals side_refusals tt sides (sides_within v.header stereo bytes)) (λ made. tt))))

head_within : (file : List ℕ) → Within reading_refusals (head_refusal file)
unfolding head_refusal
head_within file =
    by_test within (ltb (length file) 12) (one_of reading_refusals FileShort tt)
    (by_test within (eqb (big_endian 4 file) form)
    (by_test within (eqb (big_endian 4 (drop 8 file)) form_type) tt (one_of reading_refusals Not8svx tt))
    (one_of reading_refusals NotForm tt))
  where
    within : Outcome ⊤ → Type 0
    within = Within reading_refusals

pub reading_within : (file : List ℕ) → Within reading_refusals (read_voice file)
unfolding read_voice
reading_within file =
    accepted_then reading_refusals (head_refusal file) _ (head_within file)
    (items_within (items_from (form_of file) 12) (bad_within (form_of file) 12 none_came))
