-- The samples of a voice's sides: what BODY gives to each, and which lengths suit a header.
use Rattle.std.specs.Prelude.{ℕ, ◌^◌, Bool, cond, ◌&&◌, ◌||◌, List, [], eqb, ltb, ℤ, length, take, Err, Ok}
use Rattle.header.specs.Compression.{known_compression, by_compression}
use Rattle.header.specs.Octaves.{hi, total_samples}
use Rattle.header.specs.declared.compression.Compression.{Compression}
use Rattle.header.specs.declared.voice_header.VoiceHeader.{VoiceHeader}
use Rattle.samples.specs.Stream.{stream}
use Rattle.samples.specs.Halves.{left_half, right_half, uneven}
use Rattle.refusal.specs.declared.Refusal.TheVariants.{OddHalves, OctaveTotal, SamplesShort}
use Rattle.refusal.specs.Outcome.{Outcome, and_then}

-- the samples of both sides; one channel has its samples at left, and none at right
pub record Sides : Type 0 where
  pub left : List ℤ
  pub right : List ℤ

-- the samples that a stream keeps: the first total ones, or the whole stream if hi = 0; 13 where the total passes 64 bits, 14 where the stream is shorter
abbrev pub octaves_of : VoiceHeader → List ℤ → Outcome (List ℤ)
octaves_of h samples =
    cond (ltb (total_samples h) (2 ^ 64))
    (cond (eqb (hi h) 0) (Ok samples)
    (cond (ltb (length samples) (total_samples h)) (Err SamplesShort) (Ok (take (total_samples h) samples))))
    (Err OctaveTotal)

-- a channel's samples: 12, 13, 14 in that order
unfoldable pub channel_samples : VoiceHeader → Compression → List ℕ → Outcome (List ℤ)
channel_samples h c bytes = and_then (stream c bytes) (octaves_of h)

-- one channel
unfoldable pub one_side : VoiceHeader → Compression → List ℕ → Outcome Sides
one_side h c body = and_then (channel_samples h c body) (λ left. Ok (record { left = left; right = [] }))

-- two channels, a half of BODY each, so both are refused alike; 11 comes first
unfoldable pub two_sides : VoiceHeader → Compression → List ℕ → Outcome Sides
two_sides h c body =
    cond (uneven c body) (Err OddHalves)
    (and_then (channel_samples h c (left_half body)) (λ left. and_then (channel_samples h c (right_half body)) (λ right.
    Ok (record { left = left; right = right }))))

-- the sides that BODY gives; 10 comes first
unfoldable pub body_sides : VoiceHeader → Bool → List ℕ → Outcome Sides
body_sides h stereo body =
    by_compression (known_compression h.compression_byte) (λ c. cond stereo (two_sides h c body) (one_side h c body))

-- lengths that suit a header: one channel has no right side, two have equal ones; each is the total long, or any length if hi = 0
unfoldable pub lengths_suit : VoiceHeader → Bool → ℕ → ℕ → Bool
lengths_suit h stereo left right =
    (eqb (hi h) 0 || eqb left (total_samples h)) && cond stereo (eqb right left) (eqb right 0)
