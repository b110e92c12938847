-- A whole BODY as interleaved bytes, at most so many frames of it.
use Rattle.std.specs.Prelude.{ℕ, cond, List, map, ltb, ℤ, take, Err, Ok}
use Rattle.laws.specs.Turns.{by_turns}
use Rattle.field.specs.Signed.{byte_of}
use Rattle.header.specs.Compression.{known_compression, by_compression}
use Rattle.header.specs.declared.compression.Compression.{Compression}
use Rattle.samples.specs.Stream.{stream}
use Rattle.samples.specs.Halves.{left_half, right_half, uneven}
use Rattle.refusal.specs.declared.Refusal.TheVariants.{OddHalves}
use Rattle.refusal.specs.Outcome.{Outcome, and_then}

-- a channel's samples as bytes, at most `frames` of them
abbrev pub frame_bytes : ℕ → List ℤ → List ℕ
frame_bytes frames samples = map byte_of (take frames samples)

-- one channel
unfoldable pub one_channel : Compression → ℕ → List ℕ → Outcome (List ℕ)
one_channel c frames body = and_then (stream c body) (λ samples. Ok (frame_bytes frames samples))

-- two channels; a Fibonacci BODY of odd length is refused by 11
unfoldable pub two_channels : Compression → ℕ → List ℕ → Outcome (List ℕ)
two_channels c frames body =
    cond (uneven c body) (Err OddHalves)
    (and_then (stream c (left_half body)) (λ left. and_then (stream c (right_half body)) (λ right. Ok (by_turns (frame_bytes frames left) (frame_bytes frames right)))))

-- the compression as its header byte; 0 channels count as 1, more than 2 as 2
abbrev pub decoded_body : ℕ → ℕ → ℕ → List ℕ → Outcome (List ℕ)
decoded_body byte channels frames body =
    by_compression (known_compression byte) (λ c. cond (ltb 1 channels) (two_channels c frames body) (one_channel c frames body))
