-- A WAVE file that was written reads back: taken apart by its own lengths it gives the octave of each side.
-- Assumes nothing.
use Prim.Native.Nat.{ℕ, ◌+◌, ◌<◌, ◌^◌}
use mathlib.Core.Bool.{Bool, true, false}
use mathlib.Core.List.{List, [], ◌++◌, map}
use mathlib.Core.Path.{◌≡◌, refl, sym, ap, ◌∙◌}
use native.Mathlib.Omega.{arith}
use borrow.Author.Tests.{eqb-true}
use lib.IntN.{ℤ}
use lib.ListN.{length, drop, length-map}
use lib.Seq.{take_at, drop_at, drop-drop}
use Rattle.laws.proofs.TurnLaws.{evens_back, odds_back}
use Rattle.laws.specs.Turns.{by_turns}
use Rattle.chunk.specs.ChunkBytes.{pad}
use Rattle.field.proofs.BigEndianLaws.{bytes_length}
use Rattle.field.specs.BigEndian.{big_endian_bytes}
use Rattle.field.specs.LittleEndian.{little_endian}
use Rattle.field.specs.Signed.{Samples}
use Rattle.header.specs.Header.{Fitting}
use Rattle.header.specs.declared.voice_header.VoiceHeader.{VoiceHeader}
use Rattle.body_read.proofs.SideLaws.{suit_parts}
use Rattle.body_read.specs.Sides.{Sides, lengths_suit}
use Rattle.sheet.specs.Voice.{Voice, is_stereo}
use Rattle.octaves.proofs.PartLaws.{part_none, part_samples}
use Rattle.octaves.specs.Octave.{octave_part, octave_of}
use Rattle.octaves.specs.Side.{of_side}
use Rattle.octaves.specs.declared.side.Side.{Side}
use Rattle.octaves.specs.declared.side.Side.TheVariants.{Left, Right}
use Rattle.wave.proofs.RiffLaws.{head_length, format_length, contents_length, held_chunk, file_order, head_size, format_channels, format_rate}
use Rattle.wave.proofs.ValueLaws.{values_two, values_one, samples_back}
use Rattle.wave.proofs.WaveLaws.{stereo, lefts, rights, octaves_same, contents_are, accepted}
use Rattle.wave.specs.Helpers.{held_for}
use Rattle.wave.specs.ReadBack.{riff_length, channels_in, rate_in, after_format, payload_of, side_values, sample_from, ReadBack}
use Rattle.wave.specs.Riff.{riff, wave_type, fmt, data_name, riff_head, riff_chunk, format_bytes, wave_contents}
use Rattle.wave.specs.Wave.{value_of, values_of, channels_of, octave_wave}
use Rattle.std.specs.Prelude.{Ok}

-- ---- a file by its parts

-- a whole file
module _ (channels rate : ℕ) (values : List ℕ) (few : channels < 2 ^ 16) (slow : rate < 2 ^ 32) (fits : held_for (length values) < 2 ^ 32) where
  abbrev file : List ℕ
  file = riff_chunk riff (wave_contents channels rate values)

  -- the data, and what stands before them, from fmt on
  abbrev data' : List ℕ
  data' = riff_head data_name (length values) ++ (values ++ pad (length values))

  abbrev told : List ℕ
  told = format_bytes channels rate ++ data'

  riff_is : riff_length file ≡ held_for (length values)
  riff_is = rw (file_order channels rate values) (head_size riff (held_for (length values)) (big_endian_bytes 4 wave_type ++ (riff_head fmt 16 ++ told)) fits)

  -- from 12 on, from 20 on, from 36 on
  from12 : drop 12 file ≡ riff_head fmt 16 ++ told
  from12 =
      let rest = big_endian_bytes 4 wave_type ++ (riff_head fmt 16 ++ told) in
      rw (file_order channels rate values) (sym (drop-drop 4 8 (riff_head riff (held_for (length values)) ++ rest))
      ∙ ap (drop 4) (drop_at (riff_head riff (held_for (length values))) rest 8 (head_length riff (held_for (length values))))
      ∙ drop_at (big_endian_bytes 4 wave_type) (riff_head fmt 16 ++ told) 4 (bytes_length 4 wave_type))

  from20 : drop 20 file ≡ told
  from20 = sym (drop-drop 8 12 file) ∙ ap (drop 8) from12 ∙ drop_at (riff_head fmt 16) told 8 (head_length fmt 16)

  from36 : drop 36 file ≡ data'
  from36 = sym (drop-drop 16 20 file) ∙ ap (drop 16) from20 ∙ drop_at (format_bytes channels rate) data' 16 (format_length channels rate)

  format_size : little_endian 4 (drop 16 file) ≡ 16
  format_size = ap (little_endian 4) (sym (drop-drop 4 12 file) ∙ ap (drop 4) from12) ∙ head_size fmt 16 told (omega arith)

  channels_are : channels_in file ≡ channels
  channels_are = ap (little_endian 2) (sym (drop-drop 2 20 file) ∙ ap (drop 2) from20) ∙ format_channels channels rate data' few

  rate_is : rate_in file ≡ rate
  rate_is = ap (little_endian 4) (sym (drop-drop 4 20 file) ∙ ap (drop 4) from20) ∙ format_rate channels rate data' slow

  data_is : after_format file ≡ data'
  data_is = ap (λ (k : ℕ). drop (20 + k) file) format_size ∙ from36

  payload_is : payload_of (after_format file) ≡ values
  payload_is =
      let size : little_endian 4 (drop 4 data') ≡ length values = head_size data_name (length values) (values ++ pad (length values)) (omega (arith, fits)) in
      let past : drop 8 data' ≡ values ++ pad (length values) = drop_at (riff_head data_name (length values)) (values ++ pad (length values)) 8 (head_length data_name (length values)) in
      ap payload_of data_is ∙ rw (size, past) (take_at values (pad (length values)) (length values) refl)

  begins_at : drop 8 (after_format file) ≡ drop 44 file
  begins_at = ap (λ (k : ℕ). drop 8 (drop (20 + k) file)) format_size ∙ drop-drop 8 36 file

  whole_is : riff_length file + 8 ≡ length file
  whole_is = ap (λ (k : ℕ). k + 8) riff_is ∙ sym (held_chunk riff (wave_contents channels rate values) (length values) (contents_length channels rate values))

-- ---- the samples of a side

module _ (left right : List ℤ) (ls : Samples left) (rs : Samples right) where
  two_back : length left ≡ length right → (side : Side) → map sample_from (side_values 2 side (by_turns (map value_of left) (map value_of right))) ≡ of_side side left right
  two_back same side = both side
    where
      long : length (map value_of left) ≡ length (map value_of right)
      long = length-map left value_of ∙ same ∙ sym (length-map right value_of)

      both : (side : Side) → map sample_from (side_values 2 side (by_turns (map value_of left) (map value_of right))) ≡ of_side side left right
      both Left = ap (map sample_from) (evens_back (map value_of left) (map value_of right) (omega (arith, long)) (omega (arith, long))) ∙ samples_back left ls
      both Right = ap (map sample_from) (odds_back (map value_of left) (map value_of right) (omega (arith, long)) (omega (arith, long))) ∙ samples_back right rs

  one_back : right ≡ [] → (side : Side) → map sample_from (side_values 1 side (map value_of left)) ≡ of_side side left right
  one_back none Left = samples_back left ls
  one_back none Right = sym none

  -- by the number of channels
  side_back : (two : Bool) → (two ≡ true → length left ≡ length right) → (two ≡ false → right ≡ []) → (side : Side)
      → map sample_from (side_values (channels_of two) side (values_of two left right)) ≡ of_side side left right
  side_back true same none side = ap (λ (l : List ℕ). map sample_from (side_values 2 side l)) (values_two true left right refl) ∙ two_back (same refl) side
  side_back false same none side = ap (λ (l : List ℕ). map sample_from (side_values 1 side l)) (values_one false left right refl) ∙ one_back (none refl) side

-- ---- the whole

-- one channel has no right side
right_none : (v : Voice) (s : Sides) (k : ℕ) → lengths_suit v.header (is_stereo v.channel) (length s.left) (length s.right) ≡ true
    → stereo v s k ≡ false → rights v s k ≡ []
right_none v s k suit one =
    let sides = rw one at (suit_parts v.header (is_stereo v.channel) (length s.left) (length s.right) suit).1 in
    part_none (octave_part v.header (length s.right) k) s.right (eqb-true (length s.right) 0 sides)

octave_side : (h : VoiceHeader) (k : ℕ) (side : Side) (left right : List ℤ) → of_side side (octave_of h k left) (octave_of h k right) ≡ octave_of h k (of_side side left right)
octave_side h k Left left right = refl
octave_side h k Right left right = refl

few_channels : (two : Bool) → channels_of two < 2 ^ 16
few_channels true = omega arith
few_channels false = omega arith

-- a header's rate has 16 bits
pub reads_back : (v : Voice) (s : Sides) (k : ℕ) (file : List ℕ) → Fitting v.header → Samples s.left → Samples s.right
    → octave_wave v s k ≡ Ok file → ReadBack v s k file
reads_back v s k file fitting lefts_fit rights_fit w =
    let a = accepted v s k file w in
    let two = stereo v s k in
    let rate = v.header.samples_per_sec in
    let left = lefts v s k in
    let right = rights v s k in
    let values = values_of two left right in
    let channels = channels_of two in
    let fits : held_for (length values) < 2 ^ 32 = omega (arith, a.fits, ap length (contents_are v s k), contents_length channels rate values) in
    let few = few_channels two in
    let slow : rate < 2 ^ 32 = omega (arith, fitting.rate) in
    let ls = part_samples (octave_part v.header (length s.left) k) s.left lefts_fit in
    let rs = part_samples (octave_part v.header (length s.right) k) s.right rights_fit in
    rw (a.is, contents_are v s k) (record {
      whole = whole_is channels rate values few slow fits;
      begins = begins_at channels rate values few slow fits;
      padded = riff_is channels rate values few slow fits ∙ sym (ap (λ (l : List ℕ). held_for (length l)) (payload_is channels rate values few slow fits));
      channels = channels_are channels rate values few slow fits;
      rate = rate_is channels rate values few slow fits;
      samples = λ side.
          ap (λ (c : ℕ). map sample_from (side_values c side (payload_of (after_format (riff_chunk riff (wave_contents channels rate values)))))) (channels_are channels rate values few slow fits)
          ∙ ap (λ (l : List ℕ). map sample_from (side_values channels side l)) (payload_is channels rate values few slow fits)
          ∙ side_back left right ls rs two (octaves_same v s k a.suits) (right_none v s k a.suits) side
          ∙ octave_side v.header k side s.left s.right;
    })
