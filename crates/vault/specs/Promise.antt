-- What is promised of difference order. It is proved as `promise`.
use Rattle.std.specs.Prelude.{ℕ, List, [], ◌∷◌, ◌≡◌, ℤ, pos, negsuc, length, Err, Ok}
use Rattle.refusal.specs.Rules.{first_holding, with_buffer, unless_refused, numbers_of}
use Rattle.field.specs.Signed.{Samples}
use Rattle.header.specs.Octaves.{hi}
use Rattle.header.specs.declared.voice_header.VoiceHeader.{VoiceHeader}
use Rattle.octaves.specs.Octave.{octave_of}
use Rattle.vault.specs.DifferenceOrder.{octave_order, each_octave, channel_rules, by_octave, difference_order, difference_restore}
use Rattle.refusal.specs.declared.Refusal.TheVariants.{OctaveTotal, SampleLengths}
use Rattle.refusal.specs.Outcome.{answer}

-- a header with these lengths and so many octaves
abbrev pub header_with : ℕ → ℕ → ℕ → VoiceHeader
header_with one_shot repeat octaves = record {
  one_shot_hi_samples = one_shot;
  repeat_hi_samples = repeat;
  samples_per_hi_cycle = 0;
  samples_per_sec = 0;
  ct_octave = octaves;
  compression_byte = 0;
  volume = 0;
}

-- that the way back is one, what becomes of an octave, the order in which a call is judged, and examples
pub record Promise : Type 0 where
  -- restoring gives back every channel that was put in order
  pub restored : (h : VoiceHeader) (samples values : List ℤ) → Samples samples → difference_order h samples ≡ Ok values → difference_restore h values ≡ Ok samples
  -- and putting in order gives back all values that were restored
  pub ordered : (h : VoiceHeader) (values samples : List ℤ) → Samples values → difference_restore h values ≡ Ok samples → difference_order h samples ≡ Ok values
  -- no two different channels with the same header end up alike
  pub apart : (h : VoiceHeader) (a b values : List ℤ) → Samples a → Samples b → difference_order h a ≡ Ok values → difference_order h b ≡ Ok values → a ≡ b
  -- the order of a channel is as long as the channel
  pub as_long : (h : VoiceHeader) (samples values : List ℤ) → difference_order h samples ≡ Ok values → length values ≡ length samples
  -- each octave of it is the order of that octave, so no difference crosses an octave's start
  pub octave_wise : (h : VoiceHeader) (samples values : List ℤ) (k : ℕ) → difference_order h samples ≡ Ok values → octave_of h k values ≡ octave_order (octave_of h k samples)
  -- where hi = 0 a channel of any length is one octave, whatever the octave count
  pub sole : (h : VoiceHeader) (samples : List ℤ) → hi h ≡ 0 → difference_order h samples ≡ Ok (octave_order samples)
  -- both ways the order is 13, 18, 20
  pub order : (h : VoiceHeader) (f : List ℤ → List ℤ) (channel : List ℤ) (places : ℕ)
      → numbers_of (with_buffer (channel_rules h (length channel)) (each_octave f h channel) places) ≡ 13 ∷ 18 ∷ 20 ∷ []
  -- and the first of these rules that holds is the answer, or the length where none does
  pub answered : (h : VoiceHeader) (f : List ℤ → List ℤ) (channel : List ℤ) (places : ℕ)
      → answer (by_octave f h channel) places
      ≡ unless_refused (first_holding (with_buffer (channel_rules h (length channel)) (each_octave f h channel) places)) (length (each_octave f h channel))
  -- no samples, and one
  pub none : octave_order [] ≡ []
  pub one : (x : ℤ) → octave_order (x ∷ []) ≡ x ∷ []
  -- -128 after 127 is 1, and 127 after -128 is -1; `negsuc n` is -(n + 1)
  pub wraps : octave_order (pos 127 ∷ negsuc 127 ∷ pos 127 ∷ []) ≡ pos 127 ∷ negsuc 0 ∷ pos 1 ∷ []
  -- of 1, 4, 9, 16, 25 the differences are 1, 3, 5, 7, 9
  pub squares : octave_order (pos 1 ∷ pos 4 ∷ pos 9 ∷ pos 16 ∷ pos 25 ∷ []) ≡ pos 1 ∷ pos 5 ∷ pos 9 ∷ pos 3 ∷ pos 7 ∷ []
  -- two octaves, of one and of two samples: the second begins anew
  pub two_octaves : difference_order (header_with 1 0 2) (pos 5 ∷ pos 7 ∷ pos 9 ∷ []) ≡ Ok (pos 5 ∷ pos 7 ∷ pos 2 ∷ [])
  -- one octave where both lengths are 0, of no octaves as of 255
  pub no_octaves : difference_order (header_with 0 0 0) (pos 5 ∷ pos 7 ∷ pos 9 ∷ []) ≡ Ok (pos 5 ∷ pos 2 ∷ pos 2 ∷ [])
  pub many_octaves : difference_order (header_with 0 0 255) (pos 5 ∷ pos 7 ∷ pos 9 ∷ []) ≡ Ok (pos 5 ∷ pos 2 ∷ pos 2 ∷ [])
  -- a total that is too large is refused by 13, though the length doesn't suit it either
  pub too_large : difference_order (header_with 1 0 65) [] ≡ Err OctaveTotal
  pub unsuited : difference_order (header_with 1 0 2) (pos 5 ∷ pos 7 ∷ []) ≡ Err SampleLengths
